-- Reading and writing agree: an accepted table's bytes are those of its contents, which are whole, and the bytes of whole contents are read as these contents.
-- Assumes nothing.
use mathlib.Core.Path.{◌≡◌, refl, sym, ap, ap₂, ◌∙◌}
use mathlib.Core.Bool.{Bool, true, false, cond, not}
use mathlib.Core.List.{List, [], ◌∷◌, ◌++◌, append_assoc, append-nil}
use mathlib.Core.Logic.{inl, inr, ⊎_elim}
use Prim.Native.Nat.{ℕ, zero, suc, ◌+◌, ◌≤◌, ◌<◌}
use native.Mathlib.Omega.{arith}
use lib.ListN.{length, get_or, take, drop, length-append, length-drop, take-append-drop}
use lib.Seq.{drop_at}
use lib.Dec.{ltb, eqb}
use borrow.Author.Tests.{ltb-true, lt-ltb, eq-eqb, ne_eqb}
use Rattle.belnap.proofs.Finite.{never, both_parts}
use Rattle.entries.specs.Said.{Refusal}
use Rattle.kinds.specs.declared.Kind.{Kind}
use Rattle.kinds.specs.declared.Kind.TheVariants.{Row, Question, Constraint, Supplier}
use Rattle.entries.specs.declared.Entry.{Entry}
use Rattle.table.specs.declared.steps.Tally.{Tally}
use Rattle.entries.specs.Said.{Said, answered, refusing, refusal}
use Rattle.kinds.specs.Kinds.{form_of, is_row, is_question, is_constraint, as_row, as_question, as_constraint, of_row}
use Rattle.entries.specs.Entries.{number_limit, numbers_of, size_of, bytes_of}
use Rattle.table.specs.Steps.{tally, row_limit, question_limit, constraint_limit, number_at, no_room, decoded, begins_row, placed_by, placed, permitted}
use Rattle.table.specs.Steps.{judged, step_of}
use Rattle.table.specs.Suppliers.{no_supplier, supplying, change, marked, last_of}
use Rattle.table.specs.Contents.{Contents, none, tally_of, with_kind, with_entry, last_supplier, settled, ruled, entries, written, encoded}
use Rattle.table.specs.Reading.{after, read_on, reading}
use Rattle.table.specs.Places.{Awaits}
pub use Rattle.table.specs.Whole.{Tidy, named, Sound, Each, Whole, ConstraintAt, RowAt, SupplierAt, QuestionAt}
use Rattle.kinds.proofs.KindTable.{kind_of_byte, is_row_lem, is_question_lem, is_constraint_lem}
use Rattle.entries.proofs.Numbers.{by_equal}
use Rattle.entries.proofs.OneEntry.{few, length_front, size}
use Rattle.table.proofs.Permission.{Room, room_of, room_for, Allowed, permitted_if}
use Rattle.table.proofs.Decoding.{body_whole, Decodes, followed, step_took}
use Rattle.table.proofs.Marking.{unchanged, changed, last_append, marked_append}
use Rattle.table.proofs.Turns.{enough, read_none}

-- what holds of each element of a list
pub each_at : {A : Type 0} (P : ℕ → A → Type 0) (i : ℕ) (l : List A) (d : A) → Each P i l → (j : ℕ) → j < length l → P (i + j) (get_or l j d)
each_at P i [] d h j l = absurd (omega arith)
each_at P i (x ∷ xs) d h zero l = let q : i + zero ≡ i = omega arith in rw q h.0
each_at P i (x ∷ xs) d h (suc j) l = let q : i + suc j ≡ suc i + j = omega arith in rw q (each_at P (suc i) xs d h.1 j (omega arith))

pub each_get : {A : Type 0} (P : ℕ → A → Type 0) (l : List A) (d : A) → Each P 0 l → (j : ℕ) → j < length l → P j (get_or l j d)
each_get P l d h j k = let q : 0 + j ≡ j = omega arith in rw q at (each_at P 0 l d h j k)

pub each_of : {A : Type 0} (P : ℕ → A → Type 0) (i : ℕ) (l : List A) (d : A) → ((j : ℕ) → j < length l → P (i + j) (get_or l j d)) →
    Each P i l
each_of P i [] d h = tt
each_of P i (x ∷ xs) d h =
    let q : i + 0 ≡ i = omega arith in
    (rw q at (h 0 (omega arith)), each_of P (suc i) xs d (λ j l. let q : suc i + j ≡ i + suc j = omega arith in rw q (h (suc j) (omega arith))))

pub each_more : {A : Type 0} (P : ℕ → A → Type 0) (i : ℕ) (l : List A) (x : A) → Each P i l → P (i + length l) x → Each P i (l ++ (x ∷ []))
each_more P i [] x h p = (let q : i + 0 ≡ i = omega arith in rw q at p, tt)
each_more P i (y ∷ l) x h p = (h.0, each_more P (suc i) l x h.1 (let q : suc i + length l ≡ i + suc (length l) = omega arith in rw q p))

-- the bytes of an entry that was read are those that it was read from
pub front_of : (n a b : ℕ) (body : List ℕ) → n < 3 → n ≤ length body → a ≡ number_at n 0 body → b ≡ number_at n 1 body →
    take n (a ∷ b ∷ []) ≡ take n body
front_of zero a b body h w p q = refl
front_of (suc zero) a b [] h w p q = absurd (omega arith)
front_of (suc zero) a b (x ∷ body) h w p q = ap (λ (a : ℕ). a ∷ []) p
front_of (suc (suc zero)) a b [] h w p q = absurd (omega arith)
front_of (suc (suc zero)) a b (x ∷ []) h w p q = absurd (omega arith)
front_of (suc (suc zero)) a b (x ∷ y ∷ body) h w p q = ap₂ (λ (a b : ℕ). a ∷ b ∷ []) p q
front_of (suc (suc (suc n))) a b body h w p q = absurd (omega arith)

pub trim : (t : Bool) (a x : ℕ) → a ≡ cond t x 0 → a ≡ cond t a 0
trim true a x e = refl
trim false a x e = e

module _ (k : ℕ) (body : List ℕ) (e : Entry) (t : Decodes k body e) where
  decoded_bytes : bytes_of e ++ drop (size_of e) (k ∷ body) ≡ k ∷ body
  unfolding bytes_of
  decoded_bytes =
      rw (size e, t.byte, front_of (numbers_of e) e.a e.b body (few e.kind) t.whole t.first t.second)
      (ap (λ (l : List ℕ). k ∷ l) (take-append-drop (numbers_of e) body))

  decoded_tidy : Tidy e
  decoded_tidy = record {
    first = trim (ltb 0 (numbers_of e)) e.a (get_or body 0 0) t.first;
    second = trim (ltb 1 (numbers_of e)) e.b (get_or body 1 0) t.second;
  }

-- the step that an entry's own bytes bring
pub number_front : (n a b : ℕ) (s : List ℕ) → n < 3 →
    (number_at n 0 (take n (a ∷ b ∷ []) ++ s) ≡ number_at n 0 (a ∷ b ∷ []))
    × (number_at n 1 (take n (a ∷ b ∷ []) ++ s) ≡ number_at n 1 (a ∷ b ∷ []))
number_front zero a b s h = (refl, refl)
number_front (suc zero) a b s h = (refl, refl)
number_front (suc (suc zero)) a b s h = (refl, refl)
number_front (suc (suc (suc n))) a b s h = absurd (omega arith)

behind_own : (e : Entry) (s : List ℕ) → drop (numbers_of e) (take (numbers_of e) (e.a ∷ e.b ∷ []) ++ s) ≡ s
behind_own e s = drop_at (take (numbers_of e) (e.a ∷ e.b ∷ [])) s (numbers_of e) (length_front (numbers_of e) e.a e.b (few e.kind))

pub own_judged : (e : Entry) (s : List ℕ) (force : ℕ) (before : Tally) → Tidy e →
    step_of (form_of e.kind).byte (take (numbers_of e) (e.a ∷ e.b ∷ []) ++ s) force before ≡ permitted e (placed e force (begins_row s)) before
unfolding step_of decoded judged
own_judged e s force before t =
    let body = take (numbers_of e) (e.a ∷ e.b ∷ []) ++ s in
    let n = number_front (numbers_of e) e.a e.b s (few e.kind) in
    let p : number_at (numbers_of e) 0 body ≡ e.a = n.0 ∙ sym t.first in
    let q : number_at (numbers_of e) 1 body ≡ e.b = n.1 ∙ sym t.second in
    let w : numbers_of e ≤ length body =
    rw (length-append (take (numbers_of e) (e.a ∷ e.b ∷ [])) s) (omega (arith, length_front (numbers_of e) e.a e.b (few e.kind))) in
    rw (kind_of_byte e.kind, body_whole e.kind body w, p, q, behind_own e s)

own_step : (e : Entry) (s : List ℕ) (force : ℕ) (before : Tally) → Allowed (placed e force (begins_row s)) before e → Tidy e →
    step_of (form_of e.kind).byte (take (numbers_of e) (e.a ∷ e.b ∷ []) ++ s) force before ≡ answered e
own_step e s force before h t = own_judged e s force before t ∙ permitted_if e (placed e force (begins_row s)) before h

-- entries written one after the other
pub written_append : (es fs : List Entry) → written (es ++ fs) ≡ written es ++ written fs
unfolding written
written_append [] fs = refl
written_append (e ∷ es) fs = ap (λ (l : List ℕ). bytes_of e ++ l) (written_append es fs) ∙ sym (append_assoc (bytes_of e) (written es) (written fs))

pub written_more : (es : List Entry) (e : Entry) → written (es ++ (e ∷ [])) ≡ written es ++ bytes_of e
unfolding written
written_more es e = written_append es (e ∷ []) ∙ ap (λ (l : List ℕ). written es ++ l) (append-nil (bytes_of e))

-- a list with no element
none_of : {A : Type 0} (l : List A) → length l ≡ 0 → l ≡ []
none_of [] h = refl
none_of (x ∷ l) h = absurd (omega arith)

-- contents with no 60 that waits for its row
pub settled_same : (c : Contents) → c.supplier ≡ last_supplier c → settled c ≡ c
settled_same c q = rw (← q)

-- the supplier in force is one byte
last_low : (i force : ℕ) (ss : List ℕ) → force < number_limit → Each SupplierAt i ss → last_of force ss < number_limit
unfolding last_of
last_low i force [] low h = low
last_low i force (s ∷ ss) low h = last_low (suc i) s ss h.0 h.1

-- contents that keep the rules, but that a 60 may wait for its row, which then follows
pub record Open (c : Contents) (follows : Bool) : Type 0 where
  pub whole : Whole (settled c)
  pub awaits : Awaits c follows

in_force_low : (c : Contents) (follows : Bool) → Open c follows → c.supplier < number_limit
in_force_low c follows o =
    ⊎_elim (λ q. rw q (last_low 0 no_supplier c.suppliers (omega arith) o.whole.suppliers_sound)) (λ h. h.2) o.awaits

-- an entry's own bytes begin with a row's kind byte exactly if it is a row
pub begins_own : (e : Entry) (rest : List ℕ) → begins_row (bytes_of e ++ rest) ≡ is_row e.kind
unfolding bytes_of
begins_own e rest = ap of_row (kind_of_byte e.kind)

-- where no row follows, no 60 waits
pub calm : (c : Contents) (follows : Bool) → Awaits c follows → follows ≡ false → c.supplier ≡ last_supplier c
calm c follows awaits h = ⊎_elim (λ q. q) (λ w. never (sym w.0 ∙ h)) awaits

-- the entry that a supplier brings
only_supplier : (e : Entry) → e.kind ≡ Supplier → Tidy e → supplying e.a ≡ e
only_supplier e p t =
    let none : e.b ≡ 0 = t.second ∙ rw p in
    let same : record { kind = Supplier; a = e.a; b = 0 } ≡ e = rw (← p, ← none) in
    same

-- a supplier that is allowed is another than the one in force, and a row follows
supplier_placed : (e : Entry) (force : ℕ) (follows : Bool) → e.kind ≡ Supplier → placed e force follows ≡ true →
    (e.a ≡ force → ⊥) × (follows ≡ true)
unfolding placed
supplier_placed e force follows p h =
    let parts = both_parts (not (eqb e.a force)) follows (rw p at h) in
    (λ q. never (sym (ap not (sym (eq-eqb e.a force q)) ∙ parts.0)), parts.1)

supplier_low : (e : Entry) (before : Tally) → e.kind ≡ Supplier → named e before ≡ true → e.a < number_limit
supplier_low e before p h = ltb-true e.a number_limit (both_parts _ _ (rw p at h)).0

-- an entry that is allowed keeps the contents so, and stands behind the other entries
module _ (c : Contents) (e : Entry) (t : Tidy e) (follows : Bool) (o : Open c (is_row e.kind))
    (a : Allowed (placed e c.supplier follows) (tally_of c) e) where
  abbrev so_far : Whole (settled c)
  so_far = o.whole

  sound : (part : Kind → Bool) (before : Tally) → part e.kind ≡ true → tally_of c ≡ before → Sound part before e
  sound part before p q = record { in_part = p; names = rw q at a.names; tidy = t }

  -- the count of entries before it, by that of its own part
  from_zero : (f : ℕ → Tally) (n : ℕ) → f n ≡ f (0 + n)
  from_zero f n = let zero : n ≡ 0 + n = omega arith in ap f zero

  room_by_kind : (kind : Kind) → e.kind ≡ kind → Room kind (tally_of c)
  room_by_kind kind p = room_of kind (tally_of c) (rw p at a.room)

  with_whole : (kind : Kind) → e.kind ≡ kind → Whole (settled (with_kind kind e c))
  with_whole (Row r) p =
      let room = room_by_kind (Row r) p in
      let before-it = tally (length c.constraints) in
      let n = length c.rows in
      let before : tally_of c ≡ before-it (0 + n) 0 = ap (before-it n) room.1 ∙ from_zero (λ i. before-it i 0) n in
      record {
        constraints_fit = so_far.constraints_fit;
        rows_fit = omega (arith, length-append c.rows (e ∷ []), room.0);
        questions_fit = so_far.questions_fit;
        constraints_sound = so_far.constraints_sound;
        rows_sound = each_more (RowAt (length c.constraints)) 0 c.rows e so_far.rows_sound (sound is_row (before-it (0 + n) 0) (rw p) before);
        suppliers_fit = omega (arith, length-append c.rows (e ∷ []), length-append c.suppliers (c.supplier ∷ []), so_far.suppliers_fit);
        suppliers_sound = each_more SupplierAt 0 c.suppliers c.supplier so_far.suppliers_sound (in_force_low c (is_row e.kind) o);
        settles = refl;
        questions_sound = rw (none_of c.questions room.1) tt;
      }
  with_whole (Question q) p =
      let before-it = tally (length c.constraints) (length c.rows) in
      record {
        constraints_fit = so_far.constraints_fit;
        rows_fit = so_far.rows_fit;
        questions_fit = omega (arith, length-append c.questions (e ∷ []), room_by_kind (Question q) p);
        constraints_sound = so_far.constraints_sound;
        rows_sound = so_far.rows_sound;
        suppliers_fit = so_far.suppliers_fit;
        suppliers_sound = so_far.suppliers_sound;
        settles = refl;
        questions_sound = each_more (QuestionAt (length c.constraints) (length c.rows)) 0 c.questions e so_far.questions_sound
            (sound is_question (before-it (0 + length c.questions)) (rw p) (from_zero before-it (length c.questions)));
      }
  with_whole (Constraint k) p =
      let room = room_by_kind (Constraint k) p in
      let n = length c.constraints in
      let before : tally_of c ≡ tally (0 + n) 0 0 = ap₂ (tally n) room.1 room.2 ∙ from_zero (λ i. tally i 0 0) n in
      record {
        constraints_fit = omega (arith, length-append c.constraints (e ∷ []), room.0);
        rows_fit = so_far.rows_fit;
        questions_fit = so_far.questions_fit;
        constraints_sound = each_more ConstraintAt 0 c.constraints e so_far.constraints_sound (sound is_constraint (tally (0 + n) 0 0) (rw p) before);
        rows_sound = rw (none_of c.rows room.1) tt;
        suppliers_fit = so_far.suppliers_fit;
        suppliers_sound = so_far.suppliers_sound;
        settles = refl;
        questions_sound = rw (none_of c.questions room.2) tt;
      }
  with_whole Supplier p = so_far

  -- where the entry is no row, no 60 waits
  calm_here : (kind : Kind) → e.kind ≡ kind → is_row kind ≡ false → c.supplier ≡ last_supplier c
  calm_here kind p h = calm c (is_row e.kind) o.awaits (ap is_row p ∙ h)

  with_awaits : (kind : Kind) → e.kind ≡ kind → Awaits (with_kind kind e c) follows
  unfolding last_of
  with_awaits (Row r) p = inl (sym (last_append no_supplier c.suppliers (c.supplier ∷ [])))
  with_awaits (Question q) p = inl (calm_here (Question q) p refl)
  with_awaits (Constraint k) p = inl (calm_here (Constraint k) p refl)
  with_awaits Supplier p =
      inr ((supplier_placed e c.supplier follows p a.places).1, none_of c.questions (room_by_kind Supplier p), supplier_low e (tally_of c) p a.names)

  pub next_open : Open (with_entry c e) follows
  next_open = record { whole = with_whole e.kind refl; awaits = with_awaits e.kind refl }

  -- no 60 waits: the rows with their 60s are all
  ruled_calm : c.supplier ≡ last_supplier c → ruled c ≡ marked no_supplier c.suppliers c.rows
  ruled_calm q = rw (unchanged (last_supplier c) c.supplier q) (append-nil (marked no_supplier c.suppliers c.rows))

  -- the rows with their 60s, and one row more
  ruled_row : marked no_supplier (c.suppliers ++ (c.supplier ∷ [])) (c.rows ++ (e ∷ []))
      ++ change (last_of no_supplier (c.suppliers ++ (c.supplier ∷ []))) c.supplier ≡ ruled c ++ (e ∷ [])
  unfolding marked last_of
  ruled_row =
      let before = marked no_supplier c.suppliers c.rows in
      rw (
        last_append no_supplier c.suppliers (c.supplier ∷ []),
        unchanged c.supplier c.supplier refl,
        append-nil (marked no_supplier (c.suppliers ++ (c.supplier ∷ [])) (c.rows ++ (e ∷ []))),
        marked_append no_supplier c.suppliers (c.supplier ∷ []) c.rows (e ∷ []) so_far.suppliers_fit,
      )
      (sym (append_assoc before (change (last_supplier c) c.supplier) (e ∷ [])))

  with_entries : (kind : Kind) → e.kind ≡ kind → entries (with_kind kind e c) ≡ entries c ++ (e ∷ [])
  unfolding marked last_of
  with_entries (Row r) p =
      let empty = none_of c.questions (room_by_kind (Row r) p).1 in
      rw (empty, ruled_row, append-nil (ruled c ++ (e ∷ [])), append-nil (ruled c)) (sym (append_assoc c.constraints (ruled c) (e ∷ [])))
  with_entries (Question q) p =
      ap (λ (es : List Entry). c.constraints ++ es) (sym (append_assoc (ruled c) c.questions (e ∷ [])))
      ∙ sym (append_assoc c.constraints (ruled c ++ c.questions) (e ∷ []))
  with_entries (Constraint k) p =
      let room = room_by_kind (Constraint k) p in
      let empty : ruled c ≡ [] = ruled_calm (calm_here (Constraint k) p refl) ∙ rw (none_of c.rows room.1) in
      rw (empty, none_of c.questions room.2, append-nil (c.constraints ++ (e ∷ [])), append-nil c.constraints)
  with_entries Supplier p =
      let empty = none_of c.questions (room_by_kind Supplier p) in
      let still = calm_here Supplier p refl in
      let other = (supplier_placed e c.supplier follows p a.places).0 in
      let one : change (last_supplier c) e.a ≡ e ∷ [] =
      changed (last_supplier c) e.a (λ q. other (q ∙ sym still)) ∙ ap (λ (e : Entry). e ∷ []) (only_supplier e p t) in
      let rows = marked no_supplier c.suppliers c.rows in
      rw (empty, one, append-nil (rows ++ (e ∷ [])), append-nil (ruled c), ruled_calm still) (sym (append_assoc c.constraints rows (e ∷ [])))

  pub next_entries : entries (with_entry c e) ≡ entries c ++ (e ∷ [])
  next_entries = with_entries e.kind refl

  pub next_bytes : encoded (with_entry c e) ≡ encoded c ++ bytes_of e
  next_bytes = ap written next_entries ∙ written_more (entries c) e

-- how reading ends, from a table and the bytes that are left: at an entry whose step refuses
pub record Stopped (c : Contents) (s : List ℕ) (why : Refusal) : Type 0 where
  pub before : Contents
  pub kind : ℕ
  pub rest : List ℕ
  pub stands : Open before (begins_row (kind ∷ rest))
  pub bytes : encoded before ++ (kind ∷ rest) ≡ encoded c ++ s
  pub here : Refusal
  pub bad : step_of kind rest before.supplier (tally_of before) ≡ refusing here
  pub is : why ≡ refusal here.number (length (encoded before) + here.place)

abbrev pub Came : Contents → List ℕ → Said Contents → Type 0
Came c s (answered d) = Whole d × (encoded d ≡ encoded c ++ s)
Came c s (refusing why) = Stopped c s why

came_from : (c d : Contents) (s u : List ℕ) → encoded d ++ u ≡ encoded c ++ s → (r : Said Contents) → Came d u r → Came c s r
came_from c d s u q (answered x) h = (h.0, h.1 ∙ q)
came_from c d s u q (refusing why) h =
    record { before = h.before; kind = h.kind; rest = h.rest; stands = h.stands; bytes = h.bytes ∙ q; here = h.here; bad = h.bad; is = h.is }

-- at the end of the bytes no 60 waits
came_end : (c : Contents) → Open c false → Came c [] (answered c)
came_end c o =
    (rw (settled_same c (calm c false o.awaits refl)) at o.whole, sym (append-nil (encoded c)))

came : (f : ℕ) (c : Contents) (at : ℕ) (s : List ℕ) → length s ≤ f → at ≡ length (encoded c) → Open c (begins_row s) →
    Came c s (read_on f c at s)
unfolding read_on after
came zero c at [] h p o = came_end c o
came zero c at (k ∷ s) h p o = absurd (omega arith)
came (suc f) c at [] h p o = came_end c o
came (suc f) c at (k ∷ s) h p o =
    go (step_of k s c.supplier (tally_of c)) refl
    (λ d e q v. came f d (at + size_of e) (drop (size_of e) (k ∷ s)) (omega (arith, size e, length-drop (size_of e) (k ∷ s))) q v)
  where
    go : (x : Said Entry) → step_of k s c.supplier (tally_of c) ≡ x →
        ((d : Contents) (e : Entry) → at + size_of e ≡ length (encoded d) → Open d (begins_row (drop (size_of e) (k ∷ s))) →
        Came d (drop (size_of e) (k ∷ s)) (read_on f d (at + size_of e) (drop (size_of e) (k ∷ s)))) →
        Came c (k ∷ s) (after x c at (λ size d. read_on f d (at + size) (drop size (k ∷ s))))
    go (answered e) q on =
        let took = step_took k s c.supplier (tally_of c) e q in
        let t = decoded_tidy k s e took.0 in
        let rest = drop (size_of e) (k ∷ s) in
        let own : bytes_of e ++ rest ≡ k ∷ s = decoded_bytes k s e took.0 in
        let row : is_row e.kind ≡ begins_row (k ∷ s) = sym (begins_own e rest) ∙ ap begins_row own in
        let here : Open c (is_row e.kind) = rw row o in
        let behind : followed e s ≡ begins_row rest = rw (size e) in
        let allowed : Allowed (placed e c.supplier (begins_row rest)) (tally_of c) e = rw behind at took.1 in
        let more = next_bytes c e t (begins_row rest) here allowed in
        let bytes : encoded (with_entry c e) ++ rest ≡ encoded c ++ (k ∷ s) =
        rw more (append_assoc (encoded c) (bytes_of e) rest ∙ ap (λ (l : List ℕ). encoded c ++ l) own) in
        let place : at + size_of e ≡ length (encoded (with_entry c e)) = omega (arith, ap length more, length-append (encoded c) (bytes_of e)) in
        came_from c (with_entry c e) (k ∷ s) rest bytes (read_on f (with_entry c e) (at + size_of e) rest)
        (on (with_entry c e) e place (next_open c e t (begins_row rest) here allowed))
    go (refusing why) q on = record { before = c; kind = k; rest = s; stands = o; bytes = refl; here = why; bad = q; is = rw p }

-- the empty table is whole
pub none_whole : Whole none
unfolding last_of
none_whole = record {
  constraints_fit = omega arith;
  rows_fit = omega arith;
  questions_fit = omega arith;
  constraints_sound = tt;
  rows_sound = tt;
  suppliers_fit = refl;
  suppliers_sound = tt;
  settles = refl;
  questions_sound = tt;
}

-- a table that keeps the rules waits for nothing
pub whole_open : (c : Contents) (follows : Bool) → Whole c → Open c follows
whole_open c follows w = record { whole = rw (settled_same c w.settles) w; awaits = inl w.settles }

read_came : (s : List ℕ) → Came none s (reading s)
unfolding reading written marked last_of
read_came s = came (length s) none 0 s (omega arith) refl (whole_open none (begins_row s) none_whole)

-- what an accepted table is, and where a refused one stopped
pub of_accepted : (s : List ℕ) (c : Contents) → reading s ≡ answered c → Whole c × (encoded c ≡ s)
unfolding written marked last_of
of_accepted s c q = rw q at (read_came s)

pub of_refused : (s : List ℕ) (why : Refusal) → reading s ≡ refusing why → Stopped none s why
of_refused s why q = rw q at (read_came s)

-- reading an entry's own bytes
own_read : (c : Contents) (e : Entry) (s : List ℕ) (f at : ℕ) → Allowed (placed e c.supplier (begins_row s)) (tally_of c) e → Tidy e →
    length (bytes_of e ++ s) ≤ f →
    read_on f c at (bytes_of e ++ s) ≡ read_on (length s) (with_entry c e) (at + size_of e) s
unfolding read_on after bytes_of
own_read c e s zero at h t l = absurd (omega arith)
own_read c e s (suc f) at h t l =
    let body = take (numbers_of e) (e.a ∷ e.b ∷ []) in
    rw (own_step e s c.supplier (tally_of c) h t, drop_at body s (length body) refl)
    (enough f (length s) (with_entry c e) (at + suc (length body)) s (omega (arith, length-append body s)) (omega arith))

-- a part of a table: the table that has these entries there and so many entries before, which takes one more of the part's kind while there is room
module _ (holding : List Entry → Contents) (part : Kind → Bool) (limit : ℕ) (before : ℕ → Tally)
    (counted : (es : List Entry) → tally_of (holding es) ≡ before (length es))
    (takes : (es : List Entry) (e : Entry) → part e.kind ≡ true → with_entry (holding es) e ≡ holding (es ++ (e ∷ [])))
    (room : (n : ℕ) (kind : Kind) → part kind ≡ true → n < limit → no_room kind (before n) ≡ 0)
    (good : (kind : Kind) (a force : ℕ) (follows : Bool) → part kind ≡ true → placed_by kind a force follows ≡ true) where
  -- reading the bytes of entries of that part comes to the table that has them too
  part_read : (es pre : List Entry) (s : List ℕ) (f at : ℕ) → Each (λ i. Sound part (before i)) (length pre) es → length pre + length es ≤ limit →
      length (written es ++ s) ≤ f → read_on f (holding pre) at (written es ++ s) ≡ read_on (length s) (holding (pre ++ es)) (at + length (written es)) s
  unfolding written placed
  part_read [] pre s f at h fits l =
      let z : at + 0 ≡ at = omega arith in
      rw (append-nil pre, z) (enough f (length s) (holding pre) at s l (omega arith))
  part_read (e ∷ es) pre s f at h fits l =
      let force = (holding pre).supplier in
      let follows = begins_row (written es ++ s) in
      let allowed : Allowed (placed e force follows) (tally_of (holding pre)) e =
      rw (counted pre) (record {
        room = room (length pre) e.kind h.0.in_part (omega arith);
        places = good e.kind e.a force follows h.0.in_part;
        names = h.0.names;
      }) in
      let one : length (pre ++ (e ∷ [])) ≡ suc (length pre) = length-append pre (e ∷ []) ∙ omega arith in
      let q : length (bytes_of e ++ (written es ++ s)) ≤ f = rw append_assoc at l in
      let p : at + size_of e + length (written es) ≡ at + length (bytes_of e ++ written es) = omega (arith, length-append (bytes_of e) (written es)) in
      let next = part_read es (pre ++ (e ∷ [])) s (length (written es ++ s)) (at + size_of e) (rw one h.1) (rw one (omega arith)) (omega arith) in
      rw (append_assoc (bytes_of e) (written es) s, own_read (holding pre) e (written es ++ s) f at allowed h.0.tidy q, takes pre e h.0.in_part)
      (rw (append_assoc pre (e ∷ []) es, p) at next)

-- the parts of a table, in their order
abbrev bounding : List Entry → Contents
bounding es = record { constraints = es; rows = []; suppliers = []; questions = []; supplier = no_supplier }

abbrev ruling : List Entry → List Entry → List ℕ → ℕ → Contents
ruling constraints es ss force = record { constraints = constraints; rows = es; suppliers = ss; questions = []; supplier = force }

abbrev asking : Contents → List Entry → Contents
asking c es = record { constraints = c.constraints; rows = c.rows; suppliers = c.suppliers; questions = es; supplier = c.supplier }

constraints_read : (es : List Entry) (s : List ℕ) → Each ConstraintAt 0 es → length es ≤ constraint_limit →
    read_on (length (written es ++ s)) none 0 (written es ++ s) ≡ read_on (length s) (bounding es) (0 + length (written es)) s
constraints_read es s h fits =
    part_read bounding is_constraint constraint_limit (λ i. tally i 0 0) (λ es. refl)
    (λ es e k. ap (λ (k : Kind). with_kind k e (bounding es)) (is_constraint_lem e.kind k))
    (λ n kind k l. rw (is_constraint_lem kind k) (room_for (Constraint (as_constraint kind)) (tally n 0 0) (l, refl, refl)))
    (λ kind a force follows k. rw (is_constraint_lem kind k))
    es [] s (length (written es ++ s)) 0 h (omega arith) (omega arith)

-- a 60 that is needed before a row, if one is
change_read : (c : Contents) (s : ℕ) (rest : List ℕ) (f at : ℕ) → c.questions ≡ [] → s < number_limit → begins_row rest ≡ true →
    length (written (change c.supplier s) ++ rest) ≤ f →
    read_on f c at (written (change c.supplier s) ++ rest)
    ≡ read_on (length rest) (with_kind Supplier (supplying s) c) (at + length (written (change c.supplier s))) rest
unfolding written placed
change_read c s rest f at none low begins l =
    by_equal s c.supplier
    (λ q. let stays = unchanged c.supplier s q in
    let z : at + 0 ≡ at = omega arith in
    let few : length rest ≤ f = rw stays at l in
    rw (stays, z, q) (enough f (length rest) c at rest few (omega arith)))
    (λ q. let goes = changed c.supplier s q in
    let own = append-nil (bytes_of (supplying s)) in
    let enough : length (bytes_of (supplying s) ++ rest) ≤ f = rw (goes, own) at l in
    let allowed : Allowed (placed (supplying s) c.supplier (begins_row rest)) (tally_of c) (supplying s) = record {
      room = room_for Supplier (tally_of c) (ap length none);
      places = rw (ne_eqb s c.supplier q, begins);
      names = rw (lt-ltb s number_limit low);
    } in
    rw (goes, own) (own_read c (supplying s) rest f at allowed (record { first = refl; second = refl }) enough))

-- rows with the 60s that they need
rows_read : (constraints es pre : List Entry) (ss owned : List ℕ) (force : ℕ) (s : List ℕ) (f at : ℕ) → length ss ≡ length es →
    Each (RowAt (length constraints)) (length pre) es → Each SupplierAt (length pre) ss → length pre + length es ≤ row_limit →
    length (written (marked force ss es) ++ s) ≤ f →
    read_on f (ruling constraints pre owned force) at (written (marked force ss es) ++ s)
    ≡ read_on (length s) (ruling constraints (pre ++ es) (owned ++ ss) (last_of force ss)) (at + length (written (marked force ss es))) s
unfolding written marked last_of placed
rows_read constraints [] pre [] owned force s f at q h low fits l =
    let z : at + 0 ≡ at = omega arith in
    rw (append-nil pre, append-nil owned, z) (enough f (length s) (ruling constraints pre owned force) at s l (omega arith))
rows_read constraints [] pre (x ∷ ss) owned force s f at q h low fits l = absurd (omega arith)
rows_read constraints (e ∷ es) pre [] owned force s f at q h low fits l = absurd (omega arith)
rows_read constraints (e ∷ es) pre (x ∷ ss) owned force s f at q h low fits l =
    let first = written (change force x) in
    let rest = written (marked x ss es) in
    let c = ruling constraints pre owned x in
    let is = is_row_lem e.kind h.0.in_part in
    let bytes : written (change force x ++ (e ∷ marked x ss es)) ++ s ≡ first ++ (bytes_of e ++ (rest ++ s)) =
    rw (written_append (change force x) (e ∷ marked x ss es), append_assoc first (bytes_of e ++ rest) s, append_assoc (bytes_of e) rest s) in
    let allowed : Allowed (placed e x (begins_row (rest ++ s))) (tally_of c) e = record {
      room = rw is (room_for (Row (as_row e.kind)) (tally_of c) (omega arith, refl));
      places = rw is;
      names = h.0.names;
    } in
    let takes : with_entry c e ≡ ruling constraints (pre ++ (e ∷ [])) (owned ++ (x ∷ [])) x = ap (λ (k : Kind). with_kind k e c) is in
    let one : length (pre ++ (e ∷ [])) ≡ suc (length pre) = length-append pre (e ∷ []) ∙ omega arith in
    let next = rows_read constraints es (pre ++ (e ∷ [])) ss (owned ++ (x ∷ [])) x s (length (rest ++ s)) (at + length first + size_of e) (omega arith)
    (rw one h.1) (rw one low.1) (rw one (omega arith)) (omega arith) in
    let long : at + length first + size_of e + length rest ≡ at + length (written (change force x ++ (e ∷ marked x ss es))) =
    let all = ap length (written_append (change force x) (e ∷ marked x ss es)) in
    omega (arith, all, length-append first (bytes_of e ++ rest), length-append (bytes_of e) rest) in
    let enough : length (first ++ (bytes_of e ++ (rest ++ s))) ≤ f = rw bytes at l in
    rw bytes
    (change_read (ruling constraints pre owned force) x (bytes_of e ++ (rest ++ s)) f at refl low.0 (begins_own e (rest ++ s) ∙ h.0.in_part) enough
    ∙ own_read c e (rest ++ s) (length (bytes_of e ++ (rest ++ s))) (at + length first) allowed h.0.tidy (omega arith)
    ∙ rw takes (rw (append_assoc pre (e ∷ []) es, append_assoc owned (x ∷ []) ss, long) at next))

questions_read : (c : Contents) (es : List Entry) (s : List ℕ) (at : ℕ) → Each (QuestionAt (length c.constraints) (length c.rows)) 0 es →
    length es ≤ question_limit →
    read_on (length (written es ++ s)) (asking c []) at (written es ++ s) ≡ read_on (length s) (asking c es) (at + length (written es)) s
questions_read c es s at h fits =
    let so_far = tally (length c.constraints) (length c.rows) in
    part_read (asking c) is_question question_limit so_far (λ es. refl)
    (λ es e k. ap (λ (k : Kind). with_kind k e (asking c es)) (is_question_lem e.kind k))
    (λ n kind k l. rw (is_question_lem kind k) (room_for (Question (as_question kind)) (so_far n) l))
    (λ kind a force follows k. rw (is_question_lem kind k))
    es [] s (length (written es ++ s)) at h (omega arith) (omega arith)

-- the bytes of a table in which no 60 waits, part by part
pub written_parts : (c : Contents) → c.supplier ≡ last_supplier c →
    encoded c ≡ written c.constraints ++ (written (marked no_supplier c.suppliers c.rows) ++ written c.questions)
written_parts c q =
    let rows = marked no_supplier c.suppliers c.rows in
    rw (unchanged (last_supplier c) c.supplier q, append-nil rows, written_append c.constraints (rows ++ c.questions), written_append rows c.questions)

-- reading a whole table's bytes comes to that table, whatever stands behind them
pub read_past : (c : Contents) (s : List ℕ) → Whole c → reading (encoded c ++ s) ≡ read_on (length s) c (length (encoded c)) s
unfolding reading
read_past c s w =
    let constraints = written c.constraints in
    let rows = written (marked no_supplier c.suppliers c.rows) in
    let questions = written c.questions in
    let p : 0 + length constraints + length rows + length questions ≡ length (constraints ++ (rows ++ questions)) =
    omega (arith, length-append constraints (rows ++ questions), length-append rows questions) in
    let same : asking (ruling c.constraints c.rows c.suppliers (last_supplier c)) c.questions ≡ c = settled_same c w.settles in
    rw (written_parts c w.settles, append_assoc constraints (rows ++ questions) s, append_assoc rows questions s)
    (constraints_read c.constraints (rows ++ (questions ++ s)) w.constraints_sound w.constraints_fit
    ∙ rows_read c.constraints c.rows [] c.suppliers [] no_supplier (questions ++ s) (length (rows ++ (questions ++ s))) (0 + length constraints)
    w.suppliers_fit w.rows_sound w.suppliers_sound (omega (arith, w.rows_fit)) (omega arith)
    ∙ questions_read (ruling c.constraints c.rows c.suppliers (last_supplier c)) c.questions s (0 + length constraints + length rows)
    w.questions_sound w.questions_fit
    ∙ rw (p, same))

-- a whole table is accepted
pub whole_accepted : (c : Contents) → Whole c → reading (encoded c) ≡ answered c
whole_accepted c w = ap reading (sym (append-nil (encoded c))) ∙ read_past c [] w ∙ read_none 0 c (length (encoded c))

-- the same where a 60 waits, before bytes that begin as it asks
pub read_open : (c : Contents) (s : List ℕ) → Open c (begins_row s) → reading (encoded c ++ s) ≡ read_on (length s) c (length (encoded c)) s
read_open c s o = ⊎_elim calmly waiting o.awaits
  where
    calmly : c.supplier ≡ last_supplier c → reading (encoded c ++ s) ≡ read_on (length s) c (length (encoded c)) s
    calmly q = read_past c s (rw (settled_same c q) at o.whole)

    waiting : (begins_row s ≡ true) × (c.questions ≡ []) × (c.supplier < number_limit) →
        reading (encoded c ++ s) ≡ read_on (length s) c (length (encoded c)) s
    waiting h =
        let d = settled c in
        let last = change (last_supplier c) c.supplier in
        let rows = marked no_supplier c.suppliers c.rows in
        let none : ruled d ≡ rows = rw (unchanged (last_supplier c) (last_supplier c) refl) (append-nil rows) in
        let all : entries c ≡ entries d ++ last =
        rw (h.1, append-nil (ruled c), append-nil (ruled d), none) (sym (append_assoc c.constraints rows last)) in
        let bytes : encoded c ≡ encoded d ++ written last = ap written all ∙ written_append (entries d) last in
        let place : length (encoded d) + length (written last) ≡ length (encoded c) =
        omega (arith, ap length bytes, length-append (encoded d) (written last)) in
        ap (λ (l : List ℕ). reading (l ++ s)) bytes
        ∙ rw (append_assoc (encoded d) (written last) s)
        (read_past d (written last ++ s) o.whole
        ∙ change_read d c.supplier s (length (written last ++ s)) (length (encoded d)) h.1 h.2 h.0 (omega arith)
        ∙ rw place)

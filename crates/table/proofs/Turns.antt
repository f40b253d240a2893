-- One turn of the reading loop: what holds at its head, and that an entry more keeps it.
-- Assumes nothing.
use mathlib.Core.Path.{◌≡◌, refl, sym, ap, ◌∙◌}
use mathlib.Core.List.{List, [], ◌∷◌, ◌++◌}
use Prim.Native.Nat.{ℕ, zero, suc, ◌+◌, ◌-◌, ◌≤◌, ◌<◌, max}
use native.Mathlib.Omega.{arith}
use native.Mathlib.Numerals.{add-one}
use lib.ListN.{length, get_or, drop, set, length-append, length-drop, drop_of_length-le}
use lib.Seq.{drop-cons, drop-drop}
use Rattle.entries.specs.Said.{Refusal}
use Rattle.kinds.specs.declared.QuestionKind.{QuestionKind}
use Rattle.kinds.specs.declared.QuestionKind.TheVariants.{Compare, Not, Both}
use Rattle.kinds.specs.declared.Kind.{Kind}
use Rattle.kinds.specs.declared.Kind.TheVariants.{Row, Question, Constraint, Supplier}
use Rattle.entries.specs.declared.Entry.{Entry}
use Rattle.table.specs.declared.steps.Tally.{Tally}
use Rattle.table.specs.declared.Table.{Table}
use Rattle.entries.specs.Said.{Said, answered, refusing, refusal}
use Rattle.entries.specs.Entries.{blank, uses, size_of}
use Rattle.table.specs.Steps.{row_limit, question_limit, constraint_limit, one_more, no_room, step_of}
use Rattle.table.specs.Suppliers.{no_supplier, force_behind}
use Rattle.table.specs.Contents.{Contents, none, tally_of, with_kind, with_entry, highest, predicates}
use Rattle.table.specs.Reading.{after, read_on, reading, table_of}
use Rattle.table.proofs.Padding.{padded_more, padded_next}
use Rattle.entries.proofs.OneEntry.{size}
use Rattle.table.proofs.Permission.{Room, room_of}
use Rattle.table.proofs.Decoding.{step_took, step_points, points_within}

-- how many entries more are looked for does not matter, once there are as many as bytes
after_same : (x : Said Entry) (c : Contents) (at : ℕ) (f g : ℕ → Contents → Said Contents) →
    ((e : Entry) (c : Contents) → f (size_of e) c ≡ g (size_of e) c) →
    after x c at f ≡ after x c at g
unfolding after
after_same (answered e) c at f g h = h e (with_entry c e)
after_same (refusing why) c at f g h = refl

pub enough : (f g : ℕ) (c : Contents) (at : ℕ) (s : List ℕ) → length s ≤ f → length s ≤ g → read_on f c at s ≡ read_on g c at s
unfolding read_on
enough zero zero c at s p q = refl
enough zero (suc g) c at [] p q = refl
enough zero (suc g) c at (k ∷ s) p q = absurd (omega arith)
enough (suc f) zero c at [] p q = refl
enough (suc f) zero c at (k ∷ s) p q = absurd (omega arith)
enough (suc f) (suc g) c at [] p q = refl
enough (suc f) (suc g) c at (k ∷ s) p q =
    after_same (step_of k s c.supplier (tally_of c)) c at _ _
    (λ e c. let l = length-drop (size_of e) (k ∷ s) in
    enough f g c (at + size_of e) (drop (size_of e) (k ∷ s)) (omega (arith, size e, l)) (omega (arith, size e, l)))

highest_more : (es : List Entry) (e : Entry) → highest (es ++ (e ∷ [])) ≡ max (highest es) (uses e)
unfolding highest
highest_more [] e = omega arith
highest_more (x ∷ es) e = let h = highest_more es e in omega (arith, h)

-- no question uses a predicate
question_unused : (k : QuestionKind) (e : Entry) → e.kind ≡ Question k → uses e ≡ 0
question_unused (Compare o) e p = rw p refl
question_unused Not e p = rw p refl
question_unused Both e p = rw p refl

-- n with an entry more
counted : (kind : Kind) (e : Entry) (c : Contents) → e.kind ≡ kind → max (predicates c) (uses e) ≡ predicates (with_kind kind e c)
counted (Row k) e c p = omega (arith, highest_more c.rows e)
counted (Question k) e c p = let unused : uses e ≡ 0 = question_unused k e p in omega (arith, unused)
counted (Constraint k) e c p = omega (arith, highest_more c.constraints e)
counted Supplier e c p = let unused : uses e ≡ 0 = rw p refl in omega (arith, unused)

-- a struct with an entry stored in the array of its part, and a row's supplier, the one in force, beside it
abbrev pub stored : Kind → ℕ → Entry → Table → Table
stored (Row k) force e t = record {
  constraints = t.constraints;
  rows = set t.rows t.tally.rows e;
  suppliers = set t.suppliers t.tally.rows force;
  questions = t.questions;
  tally = t.tally;
  predicates = t.predicates;
}
stored (Question k) force e t = record {
  constraints = t.constraints;
  rows = t.rows;
  suppliers = t.suppliers;
  questions = set t.questions t.tally.questions e;
  tally = t.tally;
  predicates = t.predicates;
}
stored (Constraint k) force e t = record {
  constraints = set t.constraints t.tally.constraints e;
  rows = t.rows;
  suppliers = t.suppliers;
  questions = t.questions;
  tally = t.tally;
  predicates = t.predicates;
}
stored Supplier force e t = t

stored_predicates : (kind : Kind) (force : ℕ) (e : Entry) (t : Table) → (stored kind force e t).predicates ≡ t.predicates
stored_predicates (Row k) force e t = refl
stored_predicates (Question k) force e t = refl
stored_predicates (Constraint k) force e t = refl
stored_predicates Supplier force e t = refl

-- the supplier in force behind an entry
pub with_force : (kind : Kind) (e : Entry) (c : Contents) → (with_kind kind e c).supplier ≡ force_behind kind c.supplier e.a
with_force (Row k) e c = refl
with_force (Question k) e c = refl
with_force (Constraint k) e c = refl
with_force Supplier e c = refl

-- as many suppliers as rows
with_each : (kind : Kind) (e : Entry) (c : Contents) → length c.suppliers ≡ length c.rows →
    length (with_kind kind e c).suppliers ≡ length (with_kind kind e c).rows
with_each (Row k) e c q = omega (arith, length-append c.suppliers (c.supplier ∷ []), length-append c.rows (e ∷ []))
with_each (Question k) e c q = q
with_each (Constraint k) e c q = q
with_each Supplier e c q = q

-- a struct with other counts
abbrev pub counting : Table → Tally → ℕ → Table
counting t u n = record {
  constraints = t.constraints;
  rows = t.rows;
  suppliers = t.suppliers;
  questions = t.questions;
  tally = u;
  predicates = n;
}

-- an entry stored and counted: the struct of the contents with it
stored_table : (kind : Kind) (e : Entry) (c : Contents) → e.kind ≡ kind → length c.suppliers ≡ length c.rows → Room kind (tally_of c) →
    counting (stored kind c.supplier e (table_of c)) (one_more kind (tally_of c)) (max (predicates c) (uses e)) ≡ table_of (with_kind kind e c)
unfolding table_of
stored_table (Row k) e c p each room =
    rw (
      padded_more blank row_limit c.rows e room.0,
      padded_next no_supplier row_limit c.suppliers c.supplier (length c.rows) each room.0,
      counted (Row k) e c p,
      length-append c.rows (e ∷ []),
    )
stored_table (Question k) e c p each room =
    rw (padded_more blank question_limit c.questions e room, counted (Question k) e c p, length-append c.questions (e ∷ []))
stored_table (Constraint k) e c p each room =
    rw (padded_more blank constraint_limit c.constraints e room.0, counted (Constraint k) e c p, length-append c.constraints (e ∷ []))
stored_table Supplier e c p each room = rw (counted Supplier e c p)

-- what holds at the loop's head: the struct and the supplier in force stand for what was read so far, and reading on from there is reading the whole
pub record At (s : List ℕ) (t : Table) (force at : ℕ) : Type 0 where
  pub contents : Contents
  pub stands : t ≡ table_of contents
  pub in_force_lem : force ≡ contents.supplier
  pub one_each : length contents.suppliers ≡ length contents.rows
  pub inside : at ≤ length s
  pub left : read_on (length s - at) contents at (drop at s) ≡ reading s

pub start : (s : List ℕ) (t : Table) → t ≡ table_of none → At s t no_supplier 0
unfolding reading
start s t q = record { contents = none; stands = q; in_force_lem = refl; one_each = refl; inside = omega arith; left = rw (sub_zero (length s)) }
  where
    sub_zero : (n : ℕ) → n - 0 ≡ n
    sub_zero n = omega arith

-- the bytes from a place on, where one stands
pub bytes_from : (s : List ℕ) (at : ℕ) → at < length s → drop at s ≡ get_or s at 0 ∷ drop (at + 1) s
bytes_from s at l = rw (add-one at) (drop-cons s at 0 l)

-- one turn, at a place where a byte stands
module _ {s : List ℕ} {t : Table} {force at : ℕ} (h : At s t force at) (l : at < length s) where
  abbrev pub here : Said Entry
  here = step_of (get_or s at 0) (drop (at + 1) s) force t.tally

  tally_is : t.tally ≡ tally_of h.contents
  unfolding table_of
  tally_is = ap (λ (t : Table). t.tally) h.stands

  turn : after here h.contents at (λ size c. read_on (length s - (at + 1)) c (at + size) (drop size (drop at s))) ≡ reading s
  unfolding read_on
  turn =
      let f : length s - at ≡ suc (length s - (at + 1)) = omega arith in
      rw (tally_is, h.in_force_lem, bytes_from s at l) (rw (bytes_from s at l, f) at h.left)

  pub bad : (why : Refusal) → here ≡ refusing why → reading s ≡ refusing (refusal why.number (at + why.place))
  unfolding after
  bad why q = sym (rw q at turn)

  -- a refusal's place lies within the bytes
  pub bad_inside : (why : Refusal) → here ≡ refusing why → at + why.place < length s
  bad_inside why q =
      let kind = get_or s at 0 in
      let body = drop (at + 1) s in
      let points = step_points kind body force t.tally why q in
      omega (arith, points_within (kind ∷ body) 0 t.tally why.number why.place (omega arith) points, length-drop (at + 1) s)

  -- an entry that was read lies within the bytes, and the loop's head holds again behind it
  pub inside_of : (e : Entry) → here ≡ answered e → at + size_of e ≤ length s
  inside_of e q = let w = step_took (get_or s at 0) (drop (at + 1) s) force t.tally e q in omega (arith, w.0.whole, size e, length-drop (at + 1) s)

  pub taken : (e : Entry) (u : Table) (v : ℕ) → here ≡ answered e → u ≡ table_of (with_entry h.contents e) →
      v ≡ force_behind e.kind force e.a → At s u v (at + size_of e)
  unfolding after
  taken e u v q r w =
      let on = rw (q, drop-drop (size_of e) at s) at turn in
      let n = length-drop (at + size_of e) s in
      record {
        contents = with_entry h.contents e;
        stands = r;
        in_force_lem = w ∙ ap (λ (f : ℕ). force_behind e.kind f e.a) h.in_force_lem ∙ sym (with_force e.kind e h.contents);
        one_each = with_each e.kind e h.contents h.one_each;
        inside = inside_of e q;
        left = enough _ _ (with_entry h.contents e) (at + size_of e) (drop (at + size_of e) s) (omega (arith, n)) (omega (arith, n, size e)) ∙ on;
      }

  -- there is room for it, by its kind
  pub room_here : (e : Entry) → here ≡ answered e → no_room e.kind t.tally ≡ 0
  room_here e q = (step_took (get_or s at 0) (drop (at + 1) s) force t.tally e q).1.room

  pub room_for : (e : Entry) (kind : Kind) → here ≡ answered e → e.kind ≡ kind → Room kind t.tally
  room_for e kind q p = room_of kind t.tally (rw p at (room_here e q))

  -- the struct with it in its place, and with its predicates and itself counted
  pub grown : (kind : Kind) (e : Entry) (m : Table) (n : ℕ) (u : Tally) → here ≡ answered e → e.kind ≡ kind → m ≡ stored kind force e t →
      n ≡ max m.predicates (uses e) → u ≡ one_more e.kind t.tally → counting m u n ≡ table_of (with_entry h.contents e)
  unfolding table_of
  grown kind e m n u q p r w v =
      let c = h.contents in
      let fits : Room kind (tally_of c) = rw tally_is at (room_for e kind q p) in
      let count : u ≡ one_more kind (tally_of c) = rw (v, tally_is) (ap (λ (k : Kind). one_more k (tally_of c)) p) in
      let used : n ≡ max (predicates c) (uses e) = rw (w, r, stored_predicates kind force e t, h.stands) in
      let more : with_entry c e ≡ with_kind kind e c = ap (λ (k : Kind). with_kind k e c) p in
      rw (count, used, r, h.stands, h.in_force_lem, more) (stored_table kind e c p h.one_each fits)

-- the end of the bytes
pub read_none : (f : ℕ) (c : Contents) (at : ℕ) → read_on f c at [] ≡ answered c
unfolding read_on
read_none zero c at = refl
read_none (suc f) c at = refl

pub done : {s : List ℕ} {t : Table} {force at : ℕ} (h : At s t force at) → length s ≤ at → reading s ≡ answered h.contents
done {s} {t} {force} {at} h l = sym h.left ∙ rw (drop_of_length-le s l) (read_none (length s - at) h.contents at)

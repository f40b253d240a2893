-- What a kind byte and the bytes behind it are decoded to, and what a step says of them.
-- Assumes nothing.
use mathlib.Core.Path.{◌≡◌, refl, sym, ap, ◌∙◌}
use mathlib.Core.Bool.{Bool, true, false}
use mathlib.Core.List.{List, ◌∷◌, ◌++◌}
use mathlib.Core.Logic.{inl, inr, ⊎_elim}
use Prim.Native.Nat.{ℕ, ◌+◌, ◌-◌, ◌≤◌, ◌<◌}
use native.Mathlib.Omega.{arith}
use native.Mathlib.Numerals.{add-one}
use lib.ListN.{length, get_or, drop, length-append}
use lib.Seq.{get_or-append-add}
use lib.Dec.{ltb}
use borrow.Author.Tests.{ltb-true, ltb-false, lt-ltb, le-ltb}
use Rattle.belnap.proofs.Finite.{never}
use Rattle.kinds.specs.declared.Kind.{Kind}
use Rattle.std.specs.Prelude.{Option, Some, None}
use Rattle.entries.specs.declared.Entry.{Entry}
use Rattle.table.specs.declared.steps.Tally.{Tally}
use Rattle.table.specs.declared.steps.Decoded.{Decoded}
use Rattle.table.specs.declared.steps.Decoded.TheVariants.{Unknown, Cut, Full}
use Rattle.entries.specs.Said.{Refusal}
use Rattle.entries.specs.Refusals.{unlisted, cut_short, idle_supplier, at_kind_byte, is_among}
use Rattle.entries.specs.Said.{Said, answered, refusing, refusal}
use Rattle.kinds.specs.Kinds.{kind_of, form_of}
use Rattle.entries.specs.Entries.{numbers_of, names_of}
use Rattle.table.specs.Steps.{number_at, number_place, entry_of, body_of, decoded_by, decoded}
use Rattle.table.specs.Steps.{no_room, limit, fits, first_unfit, offending, misnamed, begins_row, placed, permitted, judged, step_of}
use Rattle.table.specs.Steps.{one_more, entered}
use Rattle.table.specs.Places.{Misnames, Points}
use Rattle.kinds.proofs.KindTable.{byte_of_kind, kind_of_byte}
use Rattle.entries.proofs.Saying.{not_both, unless_answered, unless_refusing}
use Rattle.table.proofs.Permission.{Allowed, allowed_if, by_refusal, misnaming_refusing, room_at_kind, fits_below, unfit_there}

-- the two ways that a body goes
pub body_cut : (kind : Kind) (body : List ℕ) → length body < (form_of kind).numbers → body_of kind body ≡ Cut kind
unfolding body_of
body_cut kind body h = simp (lt-ltb _ _ h)

pub body_whole : (kind : Kind) (body : List ℕ) → (form_of kind).numbers ≤ length body → body_of kind body ≡ Full (entry_of kind body)
unfolding body_of
body_whole kind body h = simp (le-ltb _ _ h)

-- an entry that was decoded from a kind byte and the bytes behind it
pub record Decodes (k : ℕ) (body : List ℕ) (e : Entry) : Type 0 where
  pub byte : (form_of e.kind).byte ≡ k
  pub whole : numbers_of e ≤ length body
  pub first : e.a ≡ number_at (numbers_of e) 0 body
  pub second : e.b ≡ number_at (numbers_of e) 1 body

pub decodes : (k : ℕ) (body : List ℕ) (e : Entry) → decoded k body ≡ Full e → Decodes k body e
unfolding decoded
decodes k body e q = go (kind_of k) refl q
  where
    go : (a : Option Kind) → kind_of k ≡ a → decoded_by a body ≡ Full e → Decodes k body e
    go None p q = never cc
    go (Some kind) p q = cut (ltb (length body) (form_of kind).numbers) refl
      where
        cut : (b : Bool) → ltb (length body) (form_of kind).numbers ≡ b → Decodes k body e
        cut true l = never (cc (sym (body_cut kind body (ltb-true _ _ l)) ∙ q))
        cut false l =
            let w = ltb-false _ _ l in
            let c = sym (body_whole kind body w) ∙ q in
            let it : Decodes k body (entry_of kind body) = record { byte = byte_of_kind k kind p; whole = w; first = refl; second = refl } in
            let same : entry_of kind body ≡ e = cc c in
            rw same at it

-- an entry that was read: what it was decoded from, and that it is allowed
abbrev pub followed : Entry → List ℕ → Bool
followed e body = begins_row (drop (numbers_of e) body)

pub step_took : (k : ℕ) (body : List ℕ) (force : ℕ) (before : Tally) (e : Entry) → step_of k body force before ≡ answered e →
    Decodes k body e × Allowed (placed e force (followed e body)) before e
unfolding step_of judged
step_took k body force before e q = go (decoded k body) refl q
  where
    go : (d : Decoded) → decoded k body ≡ d → judged d body force before ≡ answered e →
        Decodes k body e × Allowed (placed e force (followed e body)) before e
    go Unknown p q = not_both (sym q)
    go (Cut kind) p q = not_both (sym (unless_answered (no_room kind before) (refusing (refusal cut_short 0)) e q).1)
    go (Full f) p q =
        let h = allowed_if f e (placed f force (followed f body)) before q in
        (decodes k body e (rw h.0 at p), rw h.0 at h.1)

-- the first offending number of an entry, among the bytes that it was decoded from
module _ (k : ℕ) (body : List ℕ) (before : Tally) (e : Entry) (t : Decodes k body e) where
  abbrev below : ℕ
  below = limit (names_of e) before

  there : (i x : ℕ) → x ≡ number_at (numbers_of e) i body → i < numbers_of e → x ≡ get_or body i 0
  there i x p l = p ∙ rw (lt-ltb i (numbers_of e) l)

  misnames_at : (i x : ℕ) → x ≡ number_at (numbers_of e) i body → fits e before i x ≡ false →
      ((j : ℕ) → 0 < j → j < number_place i → get_or (k ∷ body) j 0 < below) →
      Misnames (k ∷ body) 0 before (misnamed (names_of e)) (number_place i)
  misnames_at i x p h first =
      let unfit = unfit_there (numbers_of e) below i x h in record {
        kind = e.kind;
        listed = rw t.byte at (kind_of_byte e.kind);
        number_is = refl;
        whole = omega (arith, t.whole);
        in_body = (omega arith, omega (arith, unfit.0));
        too_high = rw (add-one i) (rw (there i x p unfit.0) at unfit.1);
        first = first;
      }

  misnames : (offending e before ≡ 0 → ⊥) → Misnames (k ∷ body) 0 before (misnamed (names_of e)) (offending e before)
  unfolding offending
  misnames h = go (fits e before 0 e.a) refl (fits e before 1 e.b) refl h
    where
      go : (p : Bool) → fits e before 0 e.a ≡ p → (q : Bool) → fits e before 1 e.b ≡ q →
          (◌≡◌ {A = ℕ} (first_unfit p q) 0 → ⊥) →
          Misnames (k ∷ body) 0 before (misnamed (names_of e)) (first_unfit p q)
      go true a true b h = absurd (h refl)
      go true a false b h =
          misnames_at 1 e.b t.second b
          (λ j l m. let one : j ≡ 1 = omega arith in
          let two = (unfit_there (numbers_of e) below 1 e.b b).0 in
          let some : 0 < numbers_of e = omega (arith, two) in
          rw (one, ← there 0 e.a t.first some) (fits_below (numbers_of e) below 0 e.a a some))
      go false a q b h = misnames_at 0 e.a t.first a (λ j l m. absurd (omega arith))

-- a refusal at an entry points to its kind byte, or to the first offending number
pub step_points : (k : ℕ) (body : List ℕ) (force : ℕ) (before : Tally) (why : Refusal) → step_of k body force before ≡ refusing why →
    Points (k ∷ body) 0 before why.number why.place
unfolding step_of judged
step_points k body force before why q = go (decoded k body) refl q
  where
    at_kind : (number : ℕ) → is_among at_kind_byte number ≡ true → refusal number 0 ≡ why → Points (k ∷ body) 0 before why.number why.place
    at_kind number h same = rw (← same) (inl (h, refl))

    go : (d : Decoded) → decoded k body ≡ d → judged d body force before ≡ refusing why → Points (k ∷ body) 0 before why.number why.place
    go Unknown p q = at_kind unlisted refl cc
    go (Cut kind) p q =
        ⊎_elim
        (λ h. at_kind (no_room kind before) (room_at_kind kind before h.0) h.1)
        (λ h. at_kind cut_short refl cc)
        (unless_refusing (no_room kind before) (refusing (refusal cut_short 0)) why q)
    go (Full e) p q =
        by_refusal e (placed e force (followed e body)) before why q
        (λ h same. at_kind (no_room e.kind before) (room_at_kind e.kind before h) same)
        (λ bad same. at_kind idle_supplier refl same)
        (λ h. let told = misnaming_refusing e (offending e before) why h in
        rw (← told.1) (inr (misnames k body before e (decodes k body e p) told.0)))

-- so its place is not before the entry's start, nor behind the bytes that are left
pub points_from : (s : List ℕ) (start : ℕ) (before : Tally) (n p : ℕ) → Points s start before n p → start ≤ p
points_from s start before n p = ⊎_elim (λ h. omega (arith, h.1)) (λ m. omega (arith, m.in_body.0))

pub points_within : (s : List ℕ) (start : ℕ) (before : Tally) (n p : ℕ) → start < length s → Points s start before n p → p < length s
points_within s start before n p l = ⊎_elim (λ h. omega (arith, h.1)) (λ m. omega (arith, m.in_body.1, m.whole))

-- behind other bytes it points there
pub points_behind : (front s : List ℕ) (before : Tally) (n p : ℕ) → Points s 0 before n p →
    Points (front ++ s) (length front) before n (length front + p)
points_behind front s before n p =
    ⊎_elim
    (λ h. inl (h.0, omega (arith, h.1)))
    (λ m. inr (record {
      kind = m.kind;
      listed = let z : length front ≡ length front + 0 = omega arith in rw (z, get_or-append-add front s 0 0) m.listed;
      number_is = m.number_is;
      whole = rw (length-append front s) (omega (arith, m.whole));
      in_body = (omega (arith, m.in_body.0), omega (arith, m.in_body.1));
      too_high = rw (get_or-append-add front s p 0) m.too_high;
      first = λ i l u.
          let back : i ≡ length front + (i - length front) = omega arith in
          rw (back, get_or-append-add front s (i - length front) 0) (m.first (i - length front) (omega arith) (omega arith));
    }))

-- an entry that entered, and one that was kept out
pub entered_more : (e : Entry) (good : Bool) (before more : Tally) → answered more ≡ entered before (permitted e good before) →
    (permitted e good before ≡ answered e) × (more ≡ one_more e.kind before)
unfolding entered
entered_more e good before more q = go (permitted e good before) refl q
  where
    go : (x : Said Entry) → permitted e good before ≡ x → answered more ≡ entered before x →
        (permitted e good before ≡ answered e) × (more ≡ one_more e.kind before)
    go (answered f) p q =
        let one = (allowed_if e f good before p).0 in
        let same : more ≡ one_more f.kind before = cc in
        (p ∙ ap answered (sym one), same ∙ ap (λ (e : Entry). one_more e.kind before) (sym one))
    go (refusing why) p q = never cc

pub kept_out : (x : Said Entry) (before : Tally) (why : Refusal) → refusing why ≡ entered before x → x ≡ refusing why
unfolding entered
kept_out (answered f) before why q = never cc
kept_out (refusing other) before why q = cc

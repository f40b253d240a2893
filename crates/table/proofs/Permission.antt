-- Whether an entry may stand behind so many others: what room means, and which refusals are given, and where.
-- Assumes nothing.
use mathlib.Core.Path.{◌≡◌, refl, sym, ap, ◌∙◌}
use mathlib.Core.Bool.{Bool, true, false, cond, ◌&&◌, ◌||◌}
use mathlib.Core.List.{[], ◌∷◌}
use mathlib.Core.Logic.{⊎_elim}
use Prim.Native.Nat.{ℕ, zero, suc, ◌≤◌, ◌<◌}
use native.Mathlib.Omega.{arith}
use lib.Dec.{ltb, eqb}
use Rattle.std.specs.Prelude.{Some, None}
use borrow.Author.Tests.{eqb-true, ltb-true, ltb-false, lt-ltb, le-ltb}
use Rattle.belnap.proofs.Finite.{never, both_parts, or_part, neither}
use Rattle.kinds.specs.declared.Kind.{Kind}
use Rattle.kinds.specs.declared.Kind.TheVariants.{Row, Question, Constraint, Supplier}
use Rattle.kinds.specs.declared.Names.{Names}
use Rattle.kinds.specs.declared.Names.TheVariants.{Nothing, Predicates, Rows, Questions, Suppliers}
use Rattle.entries.specs.declared.Entry.{Entry}
use Rattle.table.specs.declared.steps.Tally.{Tally}
use Rattle.entries.specs.Said.{Refusal}
use Rattle.entries.specs.Refusals.{predicate_too_high, not_to_be_named, out_of_order, too_many_rows, too_many_questions, too_many_constraints}
use Rattle.entries.specs.Refusals.{idle_supplier}
use Rattle.entries.specs.Refusals.{at_kind_byte, at_number, of_entries, is_among}
use Rattle.entries.specs.Said.{answered, refusing, refusal, unless}
use Rattle.entries.specs.Entries.{numbers_of, names_of}
use Rattle.table.specs.Steps.{row_limit, question_limit, constraint_limit, room_by, no_room, limit, named_at, fits, first_unfit}
use Rattle.table.specs.Steps.{offending, some_place, misnamed, misnaming, placed_by, unless_placed, permitted}
use Rattle.table.specs.Whole.{named}
use Rattle.entries.proofs.Numbers.{by_order}
use Rattle.entries.proofs.Saying.{not_both, unless_none, unless_answered, unless_refusing}

-- what room means: an entry that does not come too late, and a place for it
room_by_none : (late : Bool) (count limit full : ℕ) → 0 < full → room_by late count limit full ≡ 0 → (late ≡ false) × (count < limit)
room_by_none true count limit full h e = absurd (omega arith)
room_by_none false count limit full h e = go (ltb count limit) refl e
  where
    go : (p : Bool) → ltb count limit ≡ p → ◌≡◌ {A = ℕ} (cond p 0 full) 0 → (false ≡ false) × (count < limit)
    go true p e = (refl, ltb-true _ _ p)
    go false p e = absurd (omega arith)

-- the refusal where there is no room, by each case
pub room_by_lem : (late : Bool) (count limit full r : ℕ) → (late ≡ true → r ≡ out_of_order) → (late ≡ false → count < limit → r ≡ 0) →
    (late ≡ false → limit ≤ count → r ≡ full) → r ≡ room_by late count limit full
room_by_lem true count limit full r after room none = after refl
room_by_lem false count limit full r after room none =
    by_order count limit (λ h. rw (lt-ltb _ _ h) (room refl h)) (λ h. rw (le-ltb _ _ h) (none refl h))

-- a row has no question before it, nor has a supplier; a constraint no row and no question
abbrev pub Room : Kind → Tally → Type 0
Room (Row k) before = (before.rows < row_limit) × (before.questions ≡ 0)
Room (Question k) before = before.questions < question_limit
Room (Constraint k) before = (before.constraints < constraint_limit) × (before.rows ≡ 0) × (before.questions ≡ 0)
Room Supplier before = before.questions ≡ 0

none_before : (n : ℕ) → ltb 0 n ≡ false → n ≡ 0
none_before n e = omega (arith, ltb-false 0 n e)

pub room_of : (kind : Kind) (before : Tally) → no_room kind before ≡ 0 → Room kind before
unfolding no_room
room_of (Row k) before e =
    let room = room_by_none (ltb 0 before.questions) before.rows row_limit too_many_rows (omega arith) e in
    (room.1, none_before before.questions room.0)
room_of (Question k) before e = (room_by_none false before.questions question_limit too_many_questions (omega arith) e).1
room_of (Constraint k) before e =
    let late = ltb 0 before.rows || ltb 0 before.questions in
    let room = room_by_none late before.constraints constraint_limit too_many_constraints (omega arith) e in
    let none = neither (ltb 0 before.rows) (ltb 0 before.questions) room.0 in
    (room.1, none_before before.rows none.0, none_before before.questions none.1)
room_of Supplier before e = go (ltb 0 before.questions) refl e
  where
    go : (late : Bool) → ltb 0 before.questions ≡ late → ◌≡◌ {A = ℕ} (cond late out_of_order 0) 0 → before.questions ≡ 0
    go true p e = absurd (omega arith)
    go false p e = none_before before.questions p

pub room_for : (kind : Kind) (before : Tally) → Room kind before → no_room kind before ≡ 0
unfolding no_room
room_for (Row k) before h = rw h.1 (simp (lt-ltb _ _ h.0))
room_for (Question k) before h = simp (lt-ltb _ _ h)
room_for (Constraint k) before h = rw (h.1, h.2) (simp (lt-ltb _ _ h.0))
room_for Supplier before h = rw h

-- a supplier, or another entry: whether that is placed well does not depend on what stands behind it
pub by_supplier : {P : Type 0} (kind : Kind) → (kind ≡ Supplier → P) → ((kind ≡ Supplier → ⊥) → P) → P
by_supplier (Row k) is other = other (λ q. never cc)
by_supplier (Question k) is other = other (λ q. never cc)
by_supplier (Constraint k) is other = other (λ q. never cc)
by_supplier Supplier is other = is refl

pub placed_anyway : (kind : Kind) (a force : ℕ) (follows : Bool) → (kind ≡ Supplier → ⊥) → placed_by kind a force follows ≡ true
placed_anyway (Row k) a force follows h = refl
placed_anyway (Question k) a force follows h = refl
placed_anyway (Constraint k) a force follows h = refl
placed_anyway Supplier a force follows h = absurd (h refl)

-- what a table with so many entries must allow of one more
pub record Allowed (good : Bool) (before : Tally) (e : Entry) : Type 0 where
  pub room : no_room e.kind before ≡ 0
  pub places : good ≡ true
  pub names : named e before ≡ true

-- no number offends exactly if each is below its limit
none_offends : (e : Entry) (before : Tally) → named e before ≡ true → offending e before ≡ 0
unfolding offending
none_offends e before h =
    let parts = both_parts (fits e before 0 e.a) (fits e before 1 e.b) h in
    rw (parts.0, parts.1)

all_named : (e : Entry) (before : Tally) → offending e before ≡ 0 → named e before ≡ true
unfolding offending
all_named e before h = go (fits e before 0 e.a) (fits e before 1 e.b) h
  where
    go : (p q : Bool) → ◌≡◌ {A = ℕ} (first_unfit p q) 0 → (p && q) ≡ true
    go true true h = refl
    go true false h = absurd (omega arith)
    go false q h = absurd (omega arith)

-- what an answer tells of the place of 3 and 4, and what a refusal does
misnaming_answered : (e f : Entry) (place : ℕ) → misnaming e place ≡ answered f → (e ≡ f) × (place ≡ 0)
misnaming_answered e f zero q = (cc, refl)
misnaming_answered e f (suc i) q = not_both (sym q)

pub misnaming_refusing : (e : Entry) (place : ℕ) (why : Refusal) → misnaming e place ≡ refusing why →
    (place ≡ 0 → ⊥) × (refusal (misnamed (names_of e)) place ≡ why)
misnaming_refusing e zero why q = not_both q
misnaming_refusing e (suc i) why q = (λ z. omega arith, cc)

-- what is said, by the place that offends, if one does
pub misnaming_none : (e : Entry) (place : ℕ) → None ≡ some_place place → misnaming e place ≡ answered e
misnaming_none e zero q = refl
misnaming_none e (suc i) q = never cc

pub misnaming_place : (e : Entry) (place found : ℕ) → Some found ≡ some_place place →
    misnaming e place ≡ refusing (refusal (misnamed (names_of e)) found)
misnaming_place e zero found q = never cc
misnaming_place e (suc i) found q = let same : suc i ≡ found = cc in ap (λ (p : ℕ). refusing (refusal (misnamed (names_of e)) p)) same

pub permitted_if : (e : Entry) (good : Bool) (before : Tally) → Allowed good before e → permitted e good before ≡ answered e
unfolding permitted
permitted_if e good before h =
    unless_none (no_room e.kind before) (unless (unless_placed good) (misnaming e (offending e before))) h.room
    ∙ rw h.places (ap (misnaming e) (none_offends e before h.names))

not_idle : (good : Bool) → unless_placed good ≡ 0 → good ≡ true
not_idle true e = refl
not_idle false e = absurd (omega arith)

pub allowed_if : (e f : Entry) (good : Bool) (before : Tally) → permitted e good before ≡ answered f → (e ≡ f) × Allowed good before e
unfolding permitted
allowed_if e f good before q =
    let room = unless_answered (no_room e.kind before) (unless (unless_placed good) (misnaming e (offending e before))) f q in
    let idle = unless_answered (unless_placed good) (misnaming e (offending e before)) f room.1 in
    let names = misnaming_answered e f (offending e before) idle.1 in
    (names.0, record { room = room.0; places = not_idle good idle.0; names = all_named e before names.1 })

-- what holds of 5, 6, 7 and 14 holds of the refusal where there is no room, and what holds of 3 and 4 of that of a number
room_by_is : (P : ℕ → Type 0) (late : Bool) (count limit full : ℕ) → P out_of_order → P full → (room_by late count limit full ≡ 0 → ⊥) →
    P (room_by late count limit full)
room_by_is P true count limit full five own h = five
room_by_is P false count limit full five own h = go (ltb count limit) h
  where
    go : (p : Bool) → (◌≡◌ {A = ℕ} (cond p 0 full) 0 → ⊥) → P (cond p 0 full)
    go true h = absurd (h refl)
    go false h = own

room_is : (P : ℕ → Type 0) → P out_of_order → P too_many_rows → P too_many_questions → P too_many_constraints → (kind : Kind) (before : Tally) →
    (no_room kind before ≡ 0 → ⊥) → P (no_room kind before)
unfolding no_room
room_is P five six seven fourteen (Row k) before = room_by_is P (ltb 0 before.questions) before.rows row_limit too_many_rows five six
room_is P five six seven fourteen (Question k) before = room_by_is P false before.questions question_limit too_many_questions five seven
room_is P five six seven fourteen (Constraint k) before =
    room_by_is P (ltb 0 before.rows || ltb 0 before.questions) before.constraints constraint_limit too_many_constraints five fourteen
room_is P five six seven fourteen Supplier before = go (ltb 0 before.questions)
  where
    go : (late : Bool) → (◌≡◌ {A = ℕ} (cond late out_of_order 0) 0 → ⊥) → P (cond late out_of_order 0)
    go true h = five
    go false h = absurd (h refl)

pub misnamed_is : (P : ℕ → Type 0) → P predicate_too_high → P not_to_be_named → (names : Names) → P (misnamed names)
misnamed_is P three four Nothing = four
misnamed_is P three four Predicates = three
misnamed_is P three four Rows = four
misnamed_is P three four Questions = four
misnamed_is P three four Suppliers = four

-- no refusal is given both at the kind byte and at a number
pub numbers_apart : (n : ℕ) → is_among at_number n ≡ true → is_among at_kind_byte n ≡ false
numbers_apart n h =
    or_part (eqb n predicate_too_high) (is_among (not_to_be_named ∷ []) n) h
    (λ e. rw (eqb-true n predicate_too_high e))
    (λ r. or_part (eqb n not_to_be_named) false r (λ e. rw (eqb-true n not_to_be_named e)) (λ e. never (sym e)))

-- where there is no room, it is said at the kind byte
pub room_at_kind : (kind : Kind) (before : Tally) → (no_room kind before ≡ 0 → ⊥) → is_among at_kind_byte (no_room kind before) ≡ true
room_at_kind = room_is (λ n. is_among at_kind_byte n ≡ true) refl refl refl refl

-- a number that fits where it stands, and one that does not
pub fits_below : (numbers below i x : ℕ) → named_at numbers below i x ≡ true → i < numbers → x < below
fits_below numbers below i x h l = ltb-true x below (rw (lt-ltb i numbers l) at h)

pub unfit_there : (numbers below i x : ℕ) → named_at numbers below i x ≡ false → (i < numbers) × (below ≤ x)
unfit_there numbers below i x h = go (ltb i numbers) refl h
  where
    go : (there : Bool) → ltb i numbers ≡ there → cond there (ltb x below) true ≡ false → (i < numbers) × (below ≤ x)
    go true l h = (ltb-true i numbers l, ltb-false x below h)
    go false l h = never h

-- a refusal of an entry that is whole: no room, an idle supplier, or a number
pub by_refusal : {P : Type 0} (e : Entry) (good : Bool) (before : Tally) (why : Refusal) → permitted e good before ≡ refusing why →
    ((no_room e.kind before ≡ 0 → ⊥) → refusal (no_room e.kind before) 0 ≡ why → P) →
    (good ≡ false → refusal idle_supplier 0 ≡ why → P) → (misnaming e (offending e before) ≡ refusing why → P) → P
unfolding permitted
by_refusal {P} e good before why q room idle names =
    ⊎_elim (λ h. room h.0 h.1) (go good refl)
    (unless_refusing (no_room e.kind before) (unless (unless_placed good) (misnaming e (offending e before))) why q)
  where
    go : (g : Bool) → good ≡ g → unless (unless_placed g) (misnaming e (offending e before)) ≡ refusing why → P
    go true p h = names h
    go false p h = idle p cc

-- its number is one of 3 to 7, 14 and 15
pub permitted_own : (e : Entry) (good : Bool) (before : Tally) (why : Refusal) → permitted e good before ≡ refusing why →
    is_among of_entries why.number ≡ true
permitted_own e good before why q =
    by_refusal e good before why q
    (λ h r. rw (← r) (room_is (λ n. is_among of_entries n ≡ true) refl refl refl refl e.kind before h))
    (λ bad r. rw (← r) refl)
    (λ h. rw (← (misnaming_refusing e (offending e before) why h).1) (misnamed_is (λ n. is_among of_entries n ≡ true) refl refl (names_of e)))

-- a refusal at an entry points into it
offending_inside : (e : Entry) (before : Tally) → offending e before ≤ numbers_of e
unfolding offending
offending_inside e before = go (fits e before 0 e.a) refl (fits e before 1 e.b) refl
  where
    go : (p : Bool) → fits e before 0 e.a ≡ p → (q : Bool) → fits e before 1 e.b ≡ q → first_unfit p q ≤ numbers_of e
    go true a true b = omega arith
    go true a false b = omega (arith, (unfit_there (numbers_of e) (limit (names_of e) before) 1 e.b b).0)
    go false a q b = omega (arith, (unfit_there (numbers_of e) (limit (names_of e) before) 0 e.a a).0)

pub refused_inside : (e : Entry) (good : Bool) (before : Tally) (why : Refusal) → permitted e good before ≡ refusing why → why.place ≤ numbers_of e
refused_inside e good before why q =
    by_refusal e good before why q
    (λ h r. rw (← r) (omega arith))
    (λ bad r. rw (← r) (omega arith))
    (λ h. rw (← (misnaming_refusing e (offending e before) why h).1) (offending_inside e before))

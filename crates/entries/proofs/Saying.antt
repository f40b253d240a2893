-- Laws of what is said: an answer or a refusal, and a refusal's number that may stop it; and that the code's results that say one thing are one.
-- Assumes nothing.
use mathlib.Core.Path.{◌≡◌, refl, sym, ap, ap₂, ◌∙◌}
use mathlib.Core.List.{List, [], ◌∷◌}
use mathlib.Core.Logic.{◌⊎◌, inl, inr}
use Prim.Native.Nat.{ℕ, zero, suc}
use native.Mathlib.Omega.{arith}
use lib.ListN.{get_or}
use Rattle.std.specs.Prelude.{Option, Some, None, Result, Ok, Err}
use Rattle.std.specs.Result.{IsErrAnd}
use Rattle.std.proofs.lemmas.Result.{err_from_is_err_and}
use Rattle.belnap.proofs.Finite.{never}
use Rattle.entries.specs.declared.refusals.Reason.{Reason}
use Rattle.entries.specs.declared.refusals.Reason.TheVariants.{Unlisted, CutShort, PredicateTooHigh, NotToBeNamed, OutOfOrder, TooManyRows}
use Rattle.entries.specs.declared.refusals.Reason.TheVariants.{TooManyQuestions, NotThere, StillNamed, BadMask, OutputTooShort, UnknownWord, Misspelt}
use Rattle.entries.specs.declared.refusals.Reason.TheVariants.{TooManyConstraints, IdleSupplier}
use Rattle.entries.specs.declared.refusals.Refusal.{Refusal as Coded}
use Rattle.entries.specs.Refusals.{number_of}
use Rattle.entries.specs.Said.{Said, Refusal, answered, refusing, refusal, told, said, told_or_none, unless, or_else}

-- an answer is no refusal
pub not_both : {A P : Type 0} {v : A} {why : Refusal} → answered v ≡ refusing why → P
not_both q = never cc

-- a refusal's number that may stop what is said: where it is 0, where it is not, and what an answer or a refusal tells of it
pub unless_none : {A : Type 0} (n : ℕ) (x : Said A) → n ≡ 0 → unless n x ≡ x
unless_none zero x e = refl
unless_none (suc n) x e = absurd (omega arith)

pub unless_some : {A : Type 0} (n : ℕ) (x : Said A) → (n ≡ 0 → ⊥) → unless n x ≡ refusing (refusal n 0)
unless_some zero x h = absurd (h refl)
unless_some (suc n) x h = refl

pub unless_answered : {A : Type 0} (n : ℕ) (x : Said A) (v : A) → unless n x ≡ answered v → (n ≡ 0) × (x ≡ answered v)
unless_answered zero x v q = (refl, q)
unless_answered (suc n) x v q = not_both (sym q)

pub unless_refusing : {A : Type 0} (n : ℕ) (x : Said A) (why : Refusal) → unless n x ≡ refusing why →
    ((n ≡ 0 → ⊥) × (refusal n 0 ≡ why)) ⊎ (x ≡ refusing why)
unless_refusing zero x why q = inr q
unless_refusing (suc n) x why q = inl (λ z. omega arith, cc)

-- asked alone, it stops or lets pass what is said behind it
pub unless_stops : {A : Type 0} (n : ℕ) (x : Said A) (why : Refusal) → refusing why ≡ unless {A = Unit {0}} n (answered (tt {0})) →
    refusing why ≡ unless n x
unless_stops zero x why q = not_both (sym q)
unless_stops (suc n) x why q = let same : why ≡ refusal (suc n) 0 = cc in ap refusing same

pub unless_passes : (n : ℕ) → answered (tt {0}) ≡ unless {A = Unit {0}} n (answered (tt {0})) → n ≡ 0
unless_passes zero q = refl
unless_passes (suc n) q = not_both q

-- two such numbers, one after the other
pub unless_twice : {A : Type 0} (n m : ℕ) (x : Said A) → unless n (unless m x) ≡ unless (or_else n m) x
unless_twice zero m x = refl
unless_twice (suc n) m x = refl

-- the reasons by their numbers, from 1 on; so a number is that of one reason, and 0 of none
abbrev every_reason : List Reason
every_reason =
    Unlisted ∷ CutShort ∷ PredicateTooHigh ∷ NotToBeNamed ∷ OutOfOrder ∷ TooManyRows ∷ TooManyQuestions
    ∷ NotThere ∷ StillNamed ∷ BadMask ∷ OutputTooShort
    ∷ UnknownWord ∷ Misspelt ∷ TooManyConstraints ∷ IdleSupplier ∷ []

abbrev reason_of : ℕ → Option Reason
reason_of zero = None
reason_of (suc n) = Some (get_or every_reason n Unlisted)

found : (reason : Reason) → reason_of (number_of reason) ≡ Some reason
found Unlisted = refl
found CutShort = refl
found PredicateTooHigh = refl
found NotToBeNamed = refl
found OutOfOrder = refl
found TooManyRows = refl
found TooManyQuestions = refl
found NotThere = refl
found StillNamed = refl
found BadMask = refl
found OutputTooShort = refl
found UnknownWord = refl
found Misspelt = refl
found TooManyConstraints = refl
found IdleSupplier = refl

pub same_reason : (a b : Reason) → number_of a ≡ number_of b → a ≡ b
same_reason a b q = let both : Some a ≡ Some b = sym (found a) ∙ ap reason_of q ∙ found b in cc

-- a reason's number is not 0
pub some_number : (reason : Reason) → number_of reason ≡ 0 → ⊥
some_number reason z = let none : Some reason ≡ None = sym (found reason) ∙ ap reason_of z in never cc

pub same_refusal : (a b : Coded) → told a ≡ told b → a ≡ b
same_refusal a b q =
    let reason = same_reason a.reason b.reason (ap (λ (r : Refusal). r.number) q) in
    ap₂ (λ (r : Reason) (p : ℕ). record { reason = r; place = p }) reason (ap (λ (r : Refusal). r.place) q)

pub same_told : (a b : Option Coded) → told_or_none a ≡ told_or_none b → a ≡ b
same_told None None q = refl
same_told None (Some why) q = absurd (some_number why.reason (sym (ap (λ (r : Refusal). r.number) q)))
same_told (Some why) None q = absurd (some_number why.reason (ap (λ (r : Refusal). r.number) q))
same_told (Some v) (Some w) q = ap Some (same_refusal v w q)

pub same_said : {A : Type 0} (a b : Result A Coded) → said a ≡ said b → a ≡ b
same_said (Ok v) (Ok w) q = cc
same_said (Ok v) (Err why) q = not_both q
same_said (Err why) (Ok v) q = not_both (sym q)
same_said (Err v) (Err w) q = ap Err (same_refusal v w cc)

-- so two results that say what is promised are one
pub by_saying : {A : Type 0} {x : Said A} → (a b : Result A Coded) → said a ≡ x → said b ≡ x → a ≡ b
by_saying a b p q = same_said a b (p ∙ sym q)

-- a refusal that `?` passes on is the one that came
pub passed_on : {A : Type 0} (r : Result A Coded) (why : Coded) → IsErrAnd r (λ (given : Coded). given ≡ why) → said r ≡ refusing (told why)
passed_on r why h = let p = err_from_is_err_and r h in rw (p.1, p.2) refl

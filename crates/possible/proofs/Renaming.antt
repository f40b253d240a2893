-- The sets of rows under new numbers are kept (the letter's second demand; decide/proofs/Renaming.antt).
-- Assumes nothing.
use mathlib.Core.Path.{◌≡◌, refl, ap}
use mathlib.Core.Bool.{true}
use mathlib.Core.List.{List}
use Prim.Native.Nat.{ℕ}
use Rattle.belnap.specs.declared.Decision.TheVariants.{U}
use Rattle.operators.specs.Operators.{one}
use Rattle.kinds.specs.declared.RowKind.TheVariants.{Always, DenyIf, GrantIf, One, Two}
use Rattle.kinds.specs.declared.Kind.{Kind}
use Rattle.kinds.specs.declared.Kind.TheVariants.{Row, Question, Constraint, Supplier}
use Rattle.entries.specs.declared.Entry.{Entry}
use Rattle.entries.specs.Entries.{equal_numbers}
use Rattle.entries.specs.Renaming.{names_row, renamed}
use Rattle.decide.proofs.Renaming.{Comes, Renames, value_kept}
use Rattle.possible.specs.Sets.{single, image_one}
use Rattle.possible.specs.Possible.{set_by, set_of, possible}

pub sets_come : (known request : ℕ) → Comes (set_of known request)
unfolding set_by
sets_come known request new e x y u v p q same = go e.kind e.a e.b p q same
  where
    go : (k : Kind) (a b : ℕ) →
        let e : Entry = record { kind = k; a = a; b = b } in
        (names_row 0 e ≡ true → x ≡ u) →
        (names_row 1 e ≡ true → y ≡ v) →
        (names_row 0 e ≡ true → names_row 1 e ≡ true →
        equal_numbers (renamed new e) ≡ equal_numbers e) →
        set_of known request (renamed new e) x y ≡ set_of known request e u v
    go (Row (Always w)) a b p q same = refl
    go (Row DenyIf) a b p q same = refl
    go (Row GrantIf) a b p q same = refl
    go (Row (One op)) a b p q same = ap (image_one (one op)) (p refl)
    go (Row (Two op)) a b p q same = rw (p refl, q refl, same refl refl)
    go (Question k) a b p q same = refl
    go (Constraint k) a b p q same = refl
    go Supplier a b p q same = refl

pub possible_kept : {new : ℕ → ℕ} {Kept : ℕ → Type 0} {rows fresh : List Entry} → Renames new Kept rows fresh → (known request i : ℕ) →
    Kept i → possible fresh known request (new i) ≡ possible rows known request i
possible_kept r known request = value_kept r (set_of known request) (single U) (sets_come known request)

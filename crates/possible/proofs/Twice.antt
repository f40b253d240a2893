-- "Sets may shrink" (02, L3): each row's set is within the one that 01's own choice gave it, twice from one row.
-- Assumes nothing.
use mathlib.Core.Path.{refl}
use mathlib.Core.Bool.{false}
use mathlib.Core.List.{List}
use Prim.Native.Nat.{ℕ}
use lib.ListN.{get_or}
use Rattle.belnap.specs.declared.Decision.TheVariants.{U}
use Rattle.kinds.specs.Kinds.{as_row}
use Rattle.entries.specs.declared.Entry.{Entry}
use Rattle.entries.specs.Entries.{blank, equal_numbers}
use Rattle.decide.proofs.RowByRow.{equal_values, side_by_side}
use Rattle.possible.specs.Sets.{Within, single}
use Rattle.possible.specs.Possible.{set_of, possible}
use Rattle.possible.specs.Twice.{set_twice, possible_twice}
use Rattle.possible.proofs.Images.{for_twice}
use Rattle.possible.proofs.Filling.{row_within}

pub within_twice : (rows : List Entry) (known request r : ℕ) → Within (possible rows known request r) (possible_twice rows known request r)
within_twice rows known request r =
    side_by_side Within (set_of known request) (set_twice known request) (single U) (single U) rows (λ x i. i)
    (λ i s p within. let e = get_or rows i blank in
    row_within (as_row e.kind) e.a (equal_numbers e) false known request known request (λ p k. (k, refl)) _ _ _ _
    (for_twice (equal_numbers e) _ _ (equal_values s e)) (within e.a) (within e.b)) r

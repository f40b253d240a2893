-- Where a table has no constraint, the walk is 01's (02, L5): the same visits, so the same verdict, request and count with every budget.
-- Assumes nothing.
use mathlib.Core.Path.{◌≡◌, refl}
use mathlib.Core.List.{List, []}
use Prim.Native.Nat.{ℕ}
use Rattle.entries.specs.declared.Entry.{Entry}
use Rattle.constraints.specs.Constraints.{standing}
use Rattle.walk.specs.Walk.{walk}
use Rattle.walk.specs.Plain.{walk_plainly}

pub unconstrained : (rows questions : List Entry) (n j : ℕ) → walk [] rows questions n j ≡ walk_plainly rows questions n j
unfolding standing
unconstrained rows questions n j = refl

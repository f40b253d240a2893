-- Sets as masks, filled in from entries, of rows and of questions alike.
use Rattle.std.specs.Prelude.{ℕ, min, List, ◌++◌, map, length, drop}
use Rattle.entries.specs.declared.Entry.{Entry}
use Rattle.decide.specs.Rows.{values}
use Rattle.possible.specs.Sets.{Finite, Set, mask}

-- the masks of entries, as many as there is room for, in front of what was there
abbrev pub filled : (F : Finite) → (Entry → Set F → Set F → Set F) → Set F → List Entry → List ℕ → List ℕ
filled F f z es out = let end = min (length es) (length out) in map (mask F) (values f z es end) ++ drop end out

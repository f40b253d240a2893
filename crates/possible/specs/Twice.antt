-- The sets by 01's own choice, "each operand chosen independently, also where both operands are the same row". No answer goes by them any more: they are
-- kept for the law that each of today's sets is within the one that it was (02, L3: "Sets may shrink"), and for that alone.
use Rattle.std.specs.Prelude.{ℕ, false, List}
use Rattle.belnap.specs.declared.Decision.TheVariants.{U}
use Rattle.entries.specs.declared.Entry.{Entry}
use Rattle.kinds.specs.Kinds.{as_row}
use Rattle.decide.specs.Rows.{value_at}
use Rattle.possible.specs.Sets.{decisions, Set, single}
use Rattle.possible.specs.Possible.{set_by}

abbrev pub set_twice : ℕ → ℕ → Entry → Set decisions → Set decisions → Set decisions
set_twice known request e s t = set_by (as_row e.kind) e.a false known request s t

abbrev pub possible_twice : List Entry → ℕ → ℕ → ℕ → Set decisions
possible_twice rows known request r = value_at (set_twice known request) (single U) rows r

-- The decisions that remain possible for a row where facts are missing (01, "Missing facts").
use Rattle.std.specs.Prelude.{ℕ, Bool, cond, List, ltb}
use Rattle.belnap.specs.declared.Decision.{Decision}
use Rattle.belnap.specs.declared.Decision.TheVariants.{U, D, G}
use Rattle.operators.specs.Operators.{one, two}
use Rattle.kinds.specs.declared.RowKind.{RowKind}
use Rattle.kinds.specs.declared.RowKind.TheVariants.{Always, DenyIf, GrantIf, One, Two}
use Rattle.entries.specs.declared.Entry.{Entry}
use Rattle.entries.specs.Entries.{equal_numbers}
use Rattle.kinds.specs.Kinds.{as_row}
use Rattle.table.specs.Steps.{row_limit}
use Rattle.decide.specs.Rows.{value_at}
use Rattle.decide.specs.Meaning.{bit}
use Rattle.possible.specs.Sets.{decisions, Set, single, either, image_one, image_two}

-- "A predicate row that is known has its one decision; unknown, it has u and its own."
unfoldable pub fact_set : Decision → ℕ → ℕ → ℕ → Set decisions
fact_set v p known request = cond (bit known p) (single (cond (bit request p) v U)) (either (single U) (single v))

-- "A constant has its one decision."
unfoldable pub set_by : RowKind → ℕ → Bool → ℕ → ℕ → Set decisions → Set decisions → Set decisions
set_by (Always v) p equal known request s t = single v
set_by DenyIf p equal known request s t = fact_set D p known request
set_by GrantIf p equal known request s t = fact_set G p known request
set_by (One op) p equal known request s t = image_one (one op) s
set_by (Two op) p equal known request s t = image_two (two op) equal s t

abbrev pub set_of : ℕ → ℕ → Entry → Set decisions → Set decisions → Set decisions
set_of known request e s t = set_by (as_row e.kind) e.a (equal_numbers e) known request s t

-- the set of row r, with these predicates known and these of them yes
abbrev pub possible : List Entry → ℕ → ℕ → ℕ → Set decisions
possible rows known request r = value_at (set_of known request) (single U) rows r

-- the same of any number: one that no table has room for reads as always u
abbrev pub possible_in : List Entry → ℕ → ℕ → ℕ → Set decisions
possible_in rows known request r = cond (ltb r row_limit) (possible rows known request r) (single U)

-- What a row decides at a complete request (01, "The four decisions" and "The table, byte by byte").
use Rattle.std.specs.Prelude.{ℕ, ◌/◌, ◌%◌, ◌^◌, Bool, cond, List, eqb, ltb}
use Rattle.belnap.specs.declared.Decision.{Decision}
use Rattle.belnap.specs.declared.Decision.TheVariants.{U, D, G}
use Rattle.operators.specs.Operators.{one, two}
use Rattle.kinds.specs.declared.RowKind.{RowKind}
use Rattle.kinds.specs.declared.RowKind.TheVariants.{Always, DenyIf, GrantIf, One, Two}
use Rattle.entries.specs.declared.Entry.{Entry}
use Rattle.kinds.specs.Kinds.{as_row}
use Rattle.table.specs.Steps.{row_limit}
use Rattle.decide.specs.Rows.{value_at}

-- "predicate i is bit i"
unfoldable pub bit : ℕ → ℕ → Bool
bit mask i = eqb (mask / 2 ^ i % 2) 1

-- "always u, d, g, c"; "d if it, g if it (u when it is no)"; the operators
unfoldable pub decide_by : RowKind → ℕ → ℕ → Decision → Decision → Decision
decide_by (Always v) p request x y = v
decide_by DenyIf p request x y = cond (bit request p) D U
decide_by GrantIf p request x y = cond (bit request p) G U
decide_by (One op) p request x y = one op x
decide_by (Two op) p request x y = two op x y

abbrev pub decides : ℕ → Entry → Decision → Decision → Decision
decides request e x y = decide_by (as_row e.kind) e.a request x y

-- what row r decides at a request, given as its yes mask
abbrev pub decision : List Entry → ℕ → ℕ → Decision
decision rows request r = value_at (decides request) U rows r

-- the same of any number: one that no table has room for reads as always u
abbrev pub decision_in : List Entry → ℕ → ℕ → Decision
decision_in rows request r = cond (ltb r row_limit) (decision rows request r) U

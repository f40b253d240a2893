-- The suppliers of the rows that a row reaches (02, L6).
use Rattle.std.specs.Prelude.{ℕ, ◌≡◌, Bool, false, List, length, get_or, leb, eqb}
use Rattle.entries.specs.declared.Entry.{Entry}
use Rattle.entries.specs.Lists.{some}
use Rattle.entries.specs.Refusals.{if_missing}
use Rattle.entries.specs.Said.{Said, answered, and_then, unless}
use Rattle.entries.specs.Entries.{number_limit}
use Rattle.table.specs.Suppliers.{no_supplier}
use Rattle.table.specs.Contents.{Contents}
use Rattle.decide.specs.Reach.{passing, rows_reached}

-- "Each row gets a supplier number": that of row i
abbrev pub supplier_at : List ℕ → ℕ → ℕ
supplier_at suppliers i = get_or suppliers i no_supplier

-- whether one of these rows has supplier s
abbrev pub has : List ℕ → List ℕ → ℕ → Bool
has suppliers rows s = some (λ i. eqb s (supplier_at suppliers i)) rows

-- whether some row that row r reaches has supplier s
abbrev pub supplies : List Entry → List ℕ → ℕ → ℕ → Bool
supplies rows suppliers r s = has suppliers (rows_reached rows r) s

-- "lists the suppliers of all rows a row reaches, itself included, each once, rising"
abbrev pub suppliers_of : List Entry → List ℕ → ℕ → List ℕ
suppliers_of rows suppliers r = passing number_limit (supplies rows suppliers r)

-- the list of a table's row, or why there is none: reading's own refusal, then 8 at 0
unfoldable pub list_of : Said Contents → ℕ → Said (List ℕ)
list_of x r = and_then x (λ c. unless (if_missing (leb (length c.rows) r)) (answered (suppliers_of c.rows c.suppliers r)))

-- flags as a test of their numbers; flags show a test if each is set exactly if its number passes
abbrev pub flag : List Bool → ℕ → Bool
flag flags i = get_or flags i false

abbrev pub Shows : List Bool → (ℕ → Bool) → Type 0
Shows flags is = (i : ℕ) → flag flags i ≡ is i

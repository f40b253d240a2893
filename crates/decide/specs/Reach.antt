-- The rows that a row reaches, through whichever rows, and the predicates that it reaches by them (01, "The four decisions"; 02, L6).
use Rattle.std.specs.Prelude.{ℕ, zero, suc, ◌<◌, ◌≡◌, Bool, true, false, cond, ◌||◌, List, [], ◌∷◌, ◌++◌, get_or, eqb}
use Rattle.kinds.specs.declared.Names.{Names}
use Rattle.kinds.specs.declared.Names.TheVariants.{Nothing, Predicates, Rows, Questions, Suppliers}
use Rattle.entries.specs.declared.Entry.{Entry}
use Rattle.entries.specs.Lists.{some}
use Rattle.entries.specs.Refusals.{is_among}
use Rattle.entries.specs.Entries.{names_of, numbers_in, blank}
use Rattle.entries.specs.Renaming.{row_numbers}

-- the rows that an entry names
abbrev pub rows_named : Entry → List ℕ
rows_named e = cond (row_numbers (names_of e)) (numbers_in e) []

-- whether row r reaches row i in at most so many steps, each from a row to one that it names; itself in none
unfoldable pub reaches_within : ℕ → List Entry → ℕ → ℕ → Bool
reaches_within zero rows r i = eqb i r
reaches_within (suc steps) rows r i = eqb i r || some (λ a. reaches_within steps rows a i) (rows_named (get_or rows r blank))

-- "through whichever rows": each step goes to a lower row, so as many steps as the row's number are enough
abbrev pub reaches_row : List Entry → ℕ → ℕ → Bool
reaches_row rows r i = reaches_within r rows r i

-- "A row may name only rows with a lower number."
abbrev pub NameLower : List Entry → Type 0
NameLower rows = (i a : ℕ) → is_among (rows_named (get_or rows i blank)) a ≡ true → a < i

-- the numbers below n that pass a test, rising
unfoldable pub passing : ℕ → (ℕ → Bool) → List ℕ
passing zero is = []
passing (suc n) is = passing n is ++ cond (is n) (n ∷ []) []

-- "all rows a row reaches, itself included" (02, L6): none is above it
abbrev pub rows_reached : List Entry → ℕ → List ℕ
rows_reached rows r = passing (suc r) (reaches_row rows r)

-- the predicates that an entry names
abbrev pub predicate_numbers : Names → Bool
predicate_numbers Nothing = false
predicate_numbers Predicates = true
predicate_numbers Rows = false
predicate_numbers Questions = false
predicate_numbers Suppliers = false

abbrev pub predicates_named : Entry → List ℕ
predicates_named e = cond (predicate_numbers (names_of e)) (numbers_in e) []

-- "every predicate that a row reaches": whether some row that row r reaches names it
abbrev pub reaches : List Entry → ℕ → ℕ → Bool
reaches rows r p = some (λ i. is_among (predicates_named (get_or rows i blank)) p) (rows_reached rows r)

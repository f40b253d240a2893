-- The rows that an entry names, and the entry with these under new numbers (01, "Taking one entry, and striking a row").
use Rattle.std.specs.Prelude.{ℕ, Bool, true, false, cond, ◌&&◌, ltb}
use Rattle.kinds.specs.declared.Names.{Names}
use Rattle.kinds.specs.declared.Names.TheVariants.{Nothing, Predicates, Rows, Questions, Suppliers}
use Rattle.entries.specs.declared.Entry.{Entry}
use Rattle.entries.specs.Entries.{numbers_of, names_of}

-- whether the numbers of a body are row numbers
abbrev pub row_numbers : Names → Bool
row_numbers Nothing = false
row_numbers Predicates = false
row_numbers Rows = true
row_numbers Questions = false
row_numbers Suppliers = false

-- whether number i of an entry is there and names a row
abbrev pub names_row : ℕ → Entry → Bool
names_row i e = row_numbers (names_of e) && ltb i (numbers_of e)

-- each row that it names under its new number, all else unchanged
abbrev pub renamed : (ℕ → ℕ) → Entry → Entry
renamed new e = record { kind = e.kind; a = cond (names_row 0 e) (new e.a) e.a; b = cond (names_row 1 e) (new e.b) e.b }

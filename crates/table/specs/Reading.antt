-- A table as it is read, entry by entry from the front (01, "The table, byte by byte" and "When we say no").
use Rattle.std.specs.Prelude.{ℕ, zero, suc, ◌+◌, ◌-◌, ◌≤◌, ◌≡◌, List, [], ◌∷◌, ◌++◌, length, get_or, drop, replicate}
use Rattle.entries.specs.declared.Entry.{Entry}
use Rattle.table.specs.declared.Table.{Table}
use Rattle.entries.specs.Said.{Said, answered, refusing, refusal, and_then}
use Rattle.entries.specs.Entries.{blank, size_of}
use Rattle.table.specs.Steps.{row_limit, question_limit, constraint_limit, step_of}
use Rattle.table.specs.Suppliers.{no_supplier, last_of}
use Rattle.table.specs.Contents.{Contents, none, tally_of, with_entry, predicates, entries}

-- what was read before an entry, and what is said of it; `rest` reads on behind it
unfoldable pub after : Said Entry → Contents → ℕ → (ℕ → Contents → Said Contents) → Said Contents
after (answered e) c at rest = rest (size_of e) (with_entry c e)
after (refusing why) c at rest = refusing (refusal why.number (at + why.place))

-- at most so many entries more, from a place on, where these bytes are left
unfoldable pub read_on : ℕ → Contents → ℕ → List ℕ → Said Contents
read_on zero c at s = answered c
read_on (suc more) c at [] = answered c
read_on (suc more) c at (k ∷ s) = after (step_of k s c.supplier (tally_of c)) c at (λ size c. read_on more c (at + size) (drop size (k ∷ s)))

-- "all of 1 to 7 are looked for entry by entry from the front, so the first bad entry speaks", 14 (02, L5) and 15 (02, L6); n bytes hold at most n entries
unfoldable pub reading : List ℕ → Said Contents
reading s = read_on (length s) none 0 s

-- a list in an array of so many places: z stands behind it
abbrev pub padded : {A : Type 0} → A → ℕ → List A → List A
padded z n l = l ++ replicate (n - length l) z

-- the struct that stands for a table's contents
unfoldable pub table_of : Contents → Table
table_of c = record {
  constraints = padded blank constraint_limit c.constraints;
  rows = padded blank row_limit c.rows;
  suppliers = padded no_supplier row_limit c.suppliers;
  questions = padded blank question_limit c.questions;
  tally = tally_of c;
  predicates = predicates c;
}

-- the first n elements of a list; z past its end
unfoldable pub first_of : {A : Type 0} → A → List A → ℕ → List A
first_of z l zero = []
first_of z l (suc n) = first_of z l n ++ (get_or l n z ∷ [])

abbrev pub up_to : List Entry → ℕ → List Entry
up_to = first_of blank

-- the suppliers that a struct holds, one a row, and its contents
abbrev pub suppliers_in : Table → List ℕ
suppliers_in t = first_of no_supplier t.suppliers t.tally.rows

abbrev pub contents_in : Table → Contents
contents_in t = record {
  constraints = up_to t.constraints t.tally.constraints;
  rows = up_to t.rows t.tally.rows;
  suppliers = suppliers_in t;
  questions = up_to t.questions t.tally.questions;
  supplier = last_of no_supplier (suppliers_in t);
}

-- a struct counts no more of each than it has room for
pub record Fits (t : Table) : Type 0 where
  pub bound_fit : t.tally.constraints ≤ constraint_limit
  pub used_fit : t.tally.rows ≤ row_limit
  pub asked_fit : t.tally.questions ≤ question_limit

-- and it has all its places
pub record Full (t : Table) : Type 0 where
  pub fits : Fits t
  pub constraints_long : length t.constraints ≡ constraint_limit
  pub rows_long : length t.rows ≡ row_limit
  pub suppliers_long : length t.suppliers ≡ row_limit
  pub questions_long : length t.questions ≡ question_limit

-- the entries that a struct holds, in order
abbrev pub held : Table → List Entry
held t = entries (contents_in t)

-- what reading shows: the table beside an answer without a value, or an empty one beside the refusal
abbrev pub outcome_of : Said Contents → Said Unit
outcome_of (answered c) = answered tt
outcome_of (refusing why) = refusing why

abbrev pub or_none : Said Contents → Contents
or_none (answered c) = c
or_none (refusing why) = none

-- and the table alone
abbrev pub tabled : Said Contents → Said Table
tabled x = and_then x (λ c. answered (table_of c))

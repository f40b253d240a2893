-- What a table holds: its constraints, rows with their suppliers and questions, how many there are of each, n, and its bytes (01, "The table, byte by byte";
-- 02, L5 and L6).
use Rattle.std.specs.Prelude.{ℕ, ◌≤◌, max, List, [], ◌∷◌, ◌++◌, length, get_or}
use Rattle.kinds.specs.declared.Kind.{Kind}
use Rattle.kinds.specs.declared.Kind.TheVariants.{Row, Question, Constraint, Supplier}
use Rattle.entries.specs.declared.Entry.{Entry}
use Rattle.table.specs.declared.steps.Tally.{Tally}
use Rattle.entries.specs.Entries.{blank, uses, bytes_of}
use Rattle.table.specs.Steps.{tally}
use Rattle.table.specs.Suppliers.{no_supplier, change, marked, last_of}

-- "Rows are numbered from 0 in order, questions from 0 separately." Constraints have no number, and are kept in their order. Each row has a supplier (02, L6);
-- the last field is the one in force behind the rows, which while a table is read may wait for its row.
pub record Contents : Type 0 where
  pub constraints : List Entry
  pub rows : List Entry
  pub suppliers : List ℕ
  pub questions : List Entry
  pub supplier : ℕ

abbrev pub none : Contents
none = record { constraints = []; rows = []; suppliers = []; questions = []; supplier = no_supplier }

-- how many there are of each
abbrev pub tally_of : Contents → Tally
tally_of c = tally (length c.constraints) (length c.rows) (length c.questions)

-- with one entry more, by its kind
abbrev pub with_kind : Kind → Entry → Contents → Contents
with_kind (Row k) e c = record {
  constraints = c.constraints;
  rows = c.rows ++ (e ∷ []);
  suppliers = c.suppliers ++ (c.supplier ∷ []);
  questions = c.questions;
  supplier = c.supplier;
}
with_kind (Question k) e c = record {
  constraints = c.constraints;
  rows = c.rows;
  suppliers = c.suppliers;
  questions = c.questions ++ (e ∷ []);
  supplier = c.supplier;
}
with_kind (Constraint k) e c = record {
  constraints = c.constraints ++ (e ∷ []);
  rows = c.rows;
  suppliers = c.suppliers;
  questions = c.questions;
  supplier = c.supplier;
}
with_kind Supplier e c = record {
  constraints = c.constraints;
  rows = c.rows;
  suppliers = c.suppliers;
  questions = c.questions;
  supplier = e.a;
}

abbrev pub with_entry : Contents → Entry → Contents
with_entry c e = with_kind e.kind e c

-- "n is one more than the highest predicate that any row uses, and 0 if none does"; "n also counts their predicates" (02, L5)
unfoldable pub highest : List Entry → ℕ
highest [] = 0
highest (e ∷ es) = max (uses e) (highest es)

abbrev pub predicates : Contents → ℕ
predicates c = max (highest c.constraints) (highest c.rows)

-- an n that covers the predicates of entries: each that one uses is below it
abbrev pub Covers : ℕ → List Entry → Type 0
Covers n es = (i : ℕ) → uses (get_or es i blank) ≤ n

-- the last row's supplier; 0 where there is no row
abbrev pub last_supplier : Contents → ℕ
last_supplier c = last_of no_supplier c.suppliers

-- the contents with no 60 that waits for its row
abbrev pub settled : Contents → Contents
settled c = record {
  constraints = c.constraints;
  rows = c.rows;
  suppliers = c.suppliers;
  questions = c.questions;
  supplier = last_supplier c;
}

-- what may name a row
abbrev pub others : Contents → List Entry
others c = c.rows ++ c.questions

-- the rows with their 60s, and one that waits
abbrev pub ruled : Contents → List Entry
ruled c = marked no_supplier c.suppliers c.rows ++ change (last_supplier c) c.supplier

-- "A table is a run of entries with no header. … All rows come before all questions"; "two entries before all rows" (02, L5)
abbrev pub entries : Contents → List Entry
entries c = c.constraints ++ (ruled c ++ c.questions)

-- the bytes of entries, one after the other
unfoldable pub written : List Entry → List ℕ
written [] = []
written (e ∷ es) = bytes_of e ++ written es

-- the bytes of a table
abbrev pub encoded : Contents → List ℕ
encoded c = written (entries c)

-- A table that keeps the rules, said of its contents (01, "The table, byte by byte"; 02, L5 and L6): each that reading accepts is one,
-- and reading accepts each.
use Rattle.std.specs.Prelude.{ℕ, suc, ◌≤◌, ◌<◌, ◌≡◌, Bool, true, ◌&&◌, List, [], ◌∷◌, length}
use Rattle.kinds.specs.declared.Kind.{Kind}
use Rattle.entries.specs.declared.Entry.{Entry}
use Rattle.table.specs.declared.steps.Tally.{Tally}
use Rattle.kinds.specs.Kinds.{is_row, is_question, is_constraint}
use Rattle.entries.specs.Entries.{number_limit, numbers_of}
use Rattle.table.specs.Steps.{tally, row_limit, question_limit, constraint_limit, number_at, fits}
use Rattle.table.specs.Contents.{Contents, last_supplier}

-- a number that an entry's kind has not is 0
pub record Tidy (e : Entry) : Type 0 where
  pub first : e.a ≡ number_at (numbers_of e) 0 (e.a ∷ e.b ∷ [])
  pub second : e.b ≡ number_at (numbers_of e) 1 (e.a ∷ e.b ∷ [])

-- each number that is there is below its limit
abbrev pub named : Entry → Tally → Bool
named e before = fits e before 0 e.a && fits e before 1 e.b

-- an entry of a part of a table, behind so many others
pub record Sound (part : Kind → Bool) (before : Tally) (e : Entry) : Type 0 where
  pub in_part : part e.kind ≡ true
  pub names : named e before ≡ true
  pub tidy : Tidy e

-- constraint i; row i behind so many constraints; and question j behind so many constraints and rows
abbrev pub ConstraintAt : ℕ → Entry → Type 0
ConstraintAt i e = Sound is_constraint (tally i 0 0) e

abbrev pub RowAt : ℕ → ℕ → Entry → Type 0
RowAt constraints i e = Sound is_row (tally constraints i 0) e

abbrev pub QuestionAt : ℕ → ℕ → ℕ → Entry → Type 0
QuestionAt constraints rows j e = Sound is_question (tally constraints rows j) e

-- each element of a list, with its number
abbrev pub Each : {A : Type 0} → (ℕ → A → Type 0) → ℕ → List A → Type 0
Each P i [] = Unit
Each P i (x ∷ l) = P i x × Each P (suc i) l

-- a supplier is one byte
abbrev pub SupplierAt : ℕ → ℕ → Type 0
SupplierAt i s = s < number_limit

-- a table that reading can accept: as many suppliers as rows, and no 60 waits for a row
pub record Whole (c : Contents) : Type 0 where
  pub constraints_fit : length c.constraints ≤ constraint_limit
  pub rows_fit : length c.rows ≤ row_limit
  pub questions_fit : length c.questions ≤ question_limit
  pub constraints_sound : Each ConstraintAt 0 c.constraints
  pub rows_sound : Each (RowAt (length c.constraints)) 0 c.rows
  pub suppliers_fit : length c.suppliers ≡ length c.rows
  pub suppliers_sound : Each SupplierAt 0 c.suppliers
  pub settles : c.supplier ≡ last_supplier c
  pub questions_sound : Each (QuestionAt (length c.constraints) (length c.rows)) 0 c.questions

-- A table that was read holds its contents: the entries of each part stand at the front of its array, and there are no more of them than it has places. So
-- the file of these parts is that of the contents.
-- Assumes nothing.
use mathlib.Core.Path.{◌≡◌, refl, sym, subst}
use mathlib.Core.List.{List, [], ◌∷◌, ◌++◌}
use Prim.Native.Nat.{ℕ, ◌+◌, ◌*◌, ◌≤◌}
use lib.ListN.{length, take}
use lib.Seq.{take-append_seam}
use Rattle.table.specs.declared.Table.{Table}
use Rattle.std.specs.Prelude.{Result, Ok}
use Rattle.entries.specs.declared.refusals.Refusal.{Refusal}
use Rattle.entries.specs.Said.{said}
use Rattle.table.specs.Steps.{predicate_limit, row_limit, question_limit, constraint_limit}
use Rattle.table.specs.Contents.{Contents, predicates}
use Rattle.table.specs.Reading.{reading, tabled, table_of}
use Rattle.table.proofs.Laws.{limits}
use Rattle.table.proofs.Opening.{opened}
use Rattle.clauses.specs.declared.Layout.{Layout}
use Rattle.clauses.specs.Variables.{false_clause, variables_of, negation_of}
use Rattle.dimacs.specs.Dimacs.{clauses_in, file_text}

pub record Holds (t : Table) (c : Contents) : Type 0 where
  pub constraints : take t.tally.constraints t.constraints ≡ c.constraints
  pub rows : take t.tally.rows t.rows ≡ c.rows
  pub questions : take t.tally.questions t.questions ≡ c.questions
  pub used : t.tally.rows ≡ length c.rows
  pub asked : t.tally.questions ≡ length c.questions
  pub most : t.predicates ≡ predicates c

pub record Fits (t : Table) : Type 0 where
  pub constraints : t.tally.constraints ≤ constraint_limit
  pub rows : t.tally.rows ≤ row_limit
  pub questions : t.tally.questions ≤ question_limit
  pub predicates : t.predicates ≤ predicate_limit

module _ (s : List ℕ) (r : Result Table Refusal) (t : Table) (e : said r ≡ tabled (reading s)) (read : r ≡ Ok t) where
  pub holds : Holds t (opened s r t e read).contents
  unfolding table_of
  holds =
      let o = opened s r t e read in
      subst (λ (t : Table). Holds t o.contents) (sym o.table) (record {
        constraints = take-append_seam o.contents.constraints _;
        rows = take-append_seam o.contents.rows _;
        questions = take-append_seam o.contents.questions _;
        used = refl;
        asked = refl;
        most = refl;
      })

  pub read_fits : Fits t
  unfolding table_of
  read_fits =
      let o = opened s r t e read in
      let fits = limits s o.contents o.is in
      subst Fits (sym o.table) (record { constraints = fits.0; rows = fits.1; questions = fits.2; predicates = fits.4 })

-- the file of the parts of a table
abbrev pub lent_file : Table → ℕ → List ℕ
lent_file t q =
    let layout : Layout = record { predicates = t.predicates; rows = t.tally.rows } in
    file_text (t.predicates + 2 * t.tally.rows + t.tally.questions)
    (clauses_in layout (take t.tally.constraints t.constraints)
    ++ (clauses_in layout (take t.tally.rows t.rows) ++ (clauses_in layout (take t.tally.questions t.questions) ++ (false_clause layout q ∷ []))))

pub lent_is : {t : Table} {c : Contents} → Holds t c → (q : ℕ) → lent_file t q ≡ file_text (variables_of c) (negation_of c q)
unfolding negation_of
lent_is h q = rw (h.constraints, h.rows, h.questions, h.used, h.asked, h.most)

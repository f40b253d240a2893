-- The variables of a table, and the clauses of its entries and of a question (02, L7; docs/SOLVERS.md).
use Rattle.std.specs.Prelude.{ℕ, suc, ◌+◌, ◌*◌, true, List, [], ◌∷◌, ◌++◌, length}
use Rattle.kinds.specs.declared.Kind.{Kind}
use Rattle.kinds.specs.declared.Kind.TheVariants.{Row, Question, Constraint, Supplier}
use Rattle.entries.specs.declared.Entry.{Entry}
use Rattle.table.specs.Contents.{Contents, predicates}
use Rattle.clauses.specs.declared.Literal.{Literal}
use Rattle.clauses.specs.declared.Claims.{Claims}
use Rattle.clauses.specs.declared.Layout.{Layout}
use Rattle.clauses.specs.declared.Rules.{Rules}
use Rattle.clauses.specs.Rules.{negated, row_rules, question_rule, constraint_rule, spelled}

abbrev pub yes : ℕ → Literal
yes variable = record { variable = variable; positive = true }

-- "Predicates 0 to n-1 are the variables 1 to n."
abbrev pub predicate_at : ℕ → Literal
predicate_at p = yes (p + 1)

-- "Behind them, two variables a row (it grants; it denies) and one a question (it is true), numbered by the row's and the question's number and the table's
-- counts."
abbrev pub claims_at : Layout → ℕ → Claims
claims_at layout r = record { grants = yes (layout.predicates + 2 * r + 1); denies = yes (layout.predicates + 2 * r + 2) }

abbrev pub truth_at : Layout → ℕ → Literal
truth_at layout j = yes (layout.predicates + 2 * layout.rows + j + 1)

-- "Each entry's clauses follow from its kind, body and number and the counts alone"
abbrev pub rules_by : Layout → ℕ → Kind → ℕ → ℕ → Rules
rules_by layout number (Row k) a b = row_rules k (predicate_at a) (claims_at layout number) (claims_at layout a) (claims_at layout b)
rules_by layout number (Question k) a b =
    Rules.One (question_rule k (truth_at layout number) (claims_at layout a) (claims_at layout b) (truth_at layout a) (truth_at layout b))
rules_by layout number (Constraint k) a b = Rules.One (constraint_rule k (predicate_at a) (predicate_at b))
rules_by layout number Supplier a b = Rules.None

abbrev pub entry_clauses : Layout → ℕ → Entry → List (List Literal)
entry_clauses layout number e = spelled (rules_by layout number e.kind e.a e.b)

-- the clauses of entries, numbered from i on
unfoldable pub clauses_from : Layout → ℕ → List Entry → List (List Literal)
clauses_from layout i [] = []
clauses_from layout i (e ∷ es) = entry_clauses layout i e ++ clauses_from layout (suc i) es

-- "the only other clause, the last, says that the question is false"
abbrev pub false_clause : Layout → ℕ → List Literal
false_clause layout q = negated (truth_at layout q) ∷ []

-- the counts of a table, and how many variables it has
abbrev pub layout_of : Contents → Layout
layout_of c = record { predicates = predicates c; rows = length c.rows }

abbrev pub variables_of : Contents → ℕ
variables_of c = predicates c + 2 * length c.rows + length c.questions

-- "every row, every question and every 50 and 51 of the table gives its clauses, in the table's order": the clauses of the negation of question q
unfoldable pub negation_of : Contents → ℕ → List (List Literal)
negation_of c q =
    let layout = layout_of c in
    clauses_from layout 0 c.constraints ++ (clauses_from layout 0 c.rows ++ (clauses_from layout 0 c.questions ++ (false_clause layout q ∷ [])))

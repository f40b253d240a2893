-- Clauses as a DIMACS CNF file (02, L7; docs/SOLVERS.md).
use Rattle.std.specs.Prelude.{ℕ, ◌≤◌, ◌≡◌, Bool, cond, List, [], ◌∷◌, ◌++◌, length, leb}
use Rattle.std.specs.List.{flat_map}
use Rattle.entries.specs.Refusals.{if_missing}
use Rattle.entries.specs.Said.{Said, answered, and_then, unless}
use Rattle.table.specs.Contents.{Contents}
use Rattle.entries.specs.declared.Entry.{Entry}
use Rattle.entries.specs.Entries.{number_limit}
use Rattle.decimal.specs.Decimal.{zero_digit, decimal, space, line_feed}
use Rattle.clauses.specs.declared.Literal.{Literal}
use Rattle.clauses.specs.declared.Layout.{Layout}
use Rattle.clauses.specs.Variables.{clauses_from, variables_of, negation_of}
use Rattle.dimacs.specs.declared.Extent.{Extent}

abbrev pub minus : ℕ
minus = 45

-- a literal, and the space behind it: the variable in decimal, behind a minus where it is negated
abbrev pub sign : Bool → List ℕ
sign positive = cond positive [] (minus ∷ [])

unfoldable pub literal_text : Literal → List ℕ
literal_text l = sign l.positive ++ (decimal l.variable ++ (space ∷ []))

-- "then a line a clause, numbers separated by single spaces, each ended by ` 0` and a line feed"
abbrev pub clause_text : List Literal → List ℕ
clause_text [] = zero_digit ∷ line_feed ∷ []
clause_text (l ∷ more) = literal_text l ++ clause_text more

abbrev pub text_of : List (List Literal) → List ℕ
text_of clauses = flat_map clause_text clauses

-- "the line `p cnf V C`"
abbrev pub opening : List ℕ
opening = 112 ∷ 32 ∷ 99 ∷ 110 ∷ 102 ∷ 32 ∷ []

unfoldable pub header_text : ℕ → ℕ → List ℕ
header_text variables clauses = opening ++ (decimal variables ++ (space ∷ (decimal clauses ++ (line_feed ∷ []))))

unfoldable pub file_text : ℕ → List (List Literal) → List ℕ
file_text variables clauses = header_text variables (length clauses) ++ text_of clauses

-- "the negation of the question as a DIMACS CNF file", or why there is none: reading's own refusal, then 8 at 0
unfoldable pub file_of : Said Contents → ℕ → Said (List ℕ)
file_of x q = and_then x (λ c. unless (if_missing (leb (length c.questions) q)) (answered (file_text (variables_of c) (negation_of c q))))

-- how many clauses there are, and how many bytes their text has
abbrev pub Measures : Extent → List (List Literal) → Type 0
Measures extent clauses = (extent.clauses ≡ length clauses) × (extent.bytes ≡ length (text_of clauses))

-- the clauses of a part's entries
abbrev pub clauses_in : Layout → List Entry → List (List Literal)
clauses_in layout entries = clauses_from layout 0 entries

-- a part of no more entries than a byte can number
abbrev pub Short : List Entry → Type 0
Short entries = length entries ≤ number_limit

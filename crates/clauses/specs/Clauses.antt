-- Clauses, and the assignments that satisfy them, as textbooks have them (02, L7).
use Rattle.std.specs.Prelude.{ℕ, zero, suc, ◌+◌, ◌^◌, ◌≡◌, Bool, true, cond, ◌&&◌, leb, List}
use Rattle.belnap.specs.Decisions.{alike}
use Rattle.entries.specs.Lists.{some, every}
use Rattle.clauses.specs.declared.Literal.{Literal}

-- an assignment says of each variable whether it is true; it makes a variable true where it says so, and a negation where it does not
abbrev pub makes : (ℕ → Bool) → Literal → Bool
makes assignment l = alike l.positive (assignment l.variable)

-- "an assignment satisfies a file if it satisfies each clause, a clause if one of its literals"
abbrev pub satisfies_one : (ℕ → Bool) → List Literal → Bool
satisfies_one assignment clause = some (makes assignment) clause

abbrev pub satisfies : (ℕ → Bool) → List (List Literal) → Bool
satisfies assignment clauses = every (satisfies_one assignment) clauses

abbrev pub Satisfiable : List (List Literal) → Type 0
Satisfiable clauses = (assignment : ℕ → Bool) × (satisfies assignment clauses ≡ true)

-- "every literal between -V and V and not 0"
abbrev pub in_range : ℕ → List (List Literal) → Bool
in_range most clauses = every (every (λ l. leb 1 l.variable && leb l.variable most)) clauses

-- "cut to the first n variables": the request that says yes to predicate p where variable p + 1 is true
unfoldable pub cut : ℕ → (ℕ → Bool) → ℕ
cut zero assignment = 0
cut (suc p) assignment = cut p assignment + cond (assignment (suc p)) (2 ^ p) 0

-- The four decisions by their two claims, and their codes (01, "The four decisions").
use Rattle.std.specs.Prelude.{ℕ, Bool, true, false, cond, not, ◌&&◌, List, [], ◌∷◌, eqb}
use Rattle.belnap.specs.declared.Decision.{Decision}
use Rattle.belnap.specs.declared.Decision.TheVariants.{U, D, G, C}

-- "Each decision is two claims, 'grants' and 'denies':
-- u has neither, d only denies, g only grants, c has both."
abbrev pub grants : Decision → Bool
grants U = false
grants D = false
grants G = true
grants C = true

abbrev pub denies : Decision → Bool
denies U = false
denies D = true
denies G = false
denies C = true

-- the decision with these claims: whether it grants, whether it denies
abbrev pub claiming : Bool → Bool → Decision
claiming false false = U
claiming false true = D
claiming true false = G
claiming true true = C

-- two claims alike; two decisions with like claims
abbrev pub alike : Bool → Bool → Bool
alike true q = q
alike false q = not q

abbrev pub same : Decision → Decision → Bool
same x y = alike (grants x) (grants y) && alike (denies x) (denies y)

-- "Codes: u 0, d 1, g 2, c 3."
abbrev pub code : Decision → ℕ
code U = 0
code D = 1
code G = 2
code C = 3

-- the decision with a code; a number that is no code reads as u
unfoldable pub coded : ℕ → Decision
coded n = cond (eqb n 1) D (cond (eqb n 2) G (cond (eqb n 3) C U))

-- every decision, in the order of the codes
abbrev pub every_decision : List Decision
every_decision = U ∷ D ∷ G ∷ C ∷ []

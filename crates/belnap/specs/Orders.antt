-- The two orders by the claims (01, "The four decisions").
use Rattle.std.specs.Prelude.{Bool, not, ◌&&◌, ◌||◌, List, [], ◌∷◌}
use Rattle.belnap.specs.Decisions.{grants, denies}
use Rattle.belnap.specs.declared.Decision.{Decision}
use Rattle.belnap.specs.declared.orders.Order.{Order}
use Rattle.belnap.specs.declared.orders.Order.TheVariants.{Truth, Knowledge}

-- the first claim only if the second
abbrev pub only_if : Bool → Bool → Bool
only_if p q = not p || q

-- "Truth order, x at or below y: x grants only if y grants, and y denies only if x denies."
abbrev pub truth_order : Decision → Decision → Bool
truth_order x y = only_if (grants x) (grants y) && only_if (denies y) (denies x)

-- "Knowledge order: each claim of x is a claim of y."
abbrev pub knowledge_order : Decision → Decision → Bool
knowledge_order x y = only_if (grants x) (grants y) && only_if (denies x) (denies y)

-- x at or below y in an order given by name
abbrev pub at_or_below : Order → Decision → Decision → Bool
at_or_below Truth = truth_order
at_or_below Knowledge = knowledge_order

-- both orders
abbrev pub every_order : List Order
every_order = Truth ∷ Knowledge ∷ []

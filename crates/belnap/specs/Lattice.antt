-- The operators of the two orders by their claims, each under its sentence of 01, "The four decisions": the negation, the meet and the join of each.
use Rattle.std.specs.Prelude.{not, ◌&&◌, ◌||◌}
use Rattle.belnap.specs.Decisions.{grants, denies, claiming}
use Rattle.belnap.specs.declared.Decision.{Decision}

-- "Negation exchanges the claims."
abbrev pub negation : Decision → Decision
negation x = claiming (denies x) (grants x)

-- "Conflation exchanges u and c and keeps g and d":
-- it grants unless x denied, and denies unless x granted.
abbrev pub conflation : Decision → Decision
conflation x = claiming (not (denies x)) (not (grants x))

-- "Truth meet: grants if both grant, denies if either denies.
-- Truth join: grants if either, denies if both."
abbrev pub truth_meet : Decision → Decision → Decision
truth_meet x y = claiming (grants x && grants y) (denies x || denies y)

abbrev pub truth_join : Decision → Decision → Decision
truth_join x y = claiming (grants x || grants y) (denies x && denies y)

-- "Knowledge meet: each claim if both have it. Knowledge join: each claim if either has it."
abbrev pub knowledge_meet : Decision → Decision → Decision
knowledge_meet x y = claiming (grants x && grants y) (denies x && denies y)

abbrev pub knowledge_join : Decision → Decision → Decision
knowledge_join x y = claiming (grants x || grants y) (denies x || denies y)

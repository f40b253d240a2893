-- The operators that are of no order by their claims, each under its sentence of 01, "The four decisions"; and all operators by name.
use Rattle.std.specs.Prelude.{Bool, cond, List, [], ◌∷◌}
use Rattle.belnap.specs.Decisions.{grants, denies, alike, same}
use Rattle.belnap.specs.Lattice.{negation, conflation, truth_meet, truth_join, knowledge_meet, knowledge_join}
use Rattle.belnap.specs.declared.Decision.{Decision}
use Rattle.belnap.specs.declared.Decision.TheVariants.{U, D, G, C}
use Rattle.operators.specs.declared.OneRow.{OneRow}
use Rattle.operators.specs.declared.OneRow.TheVariants.{Negation, Conflation, ClosedDefault, OpenDefault}
use Rattle.operators.specs.declared.TwoRow.{TwoRow}
use Rattle.operators.specs.declared.TwoRow.TheVariants.{TruthMeet, TruthJoin, KnowledgeMeet, KnowledgeJoin, Implication}
use Rattle.operators.specs.declared.TwoRow.TheVariants.{Guard, OverrideU, OverrideD, OverrideG, OverrideC}

-- u and c: the claims are alike, so they leave the matter open
abbrev pub undecided : Decision → Bool
undecided x = alike (grants x) (denies x)

-- "Closed default turns u and c into d; open default turns them into g."
abbrev pub closed_default : Decision → Decision
closed_default x = cond (undecided x) D x

abbrev pub open_default : Decision → Decision
open_default x = cond (undecided x) G x

-- "Implication: the second if the first is g or c; otherwise g."
abbrev pub implication : Decision → Decision → Decision
implication x y = cond (grants x) y G

-- "Guard: the second if the first is g or c; otherwise u."
abbrev pub guard : Decision → Decision → Decision
guard x y = cond (grants x) y U

-- "Override of v: the second if the first is v; otherwise the first."
abbrev pub override : Decision → Decision → Decision → Decision
override v x y = cond (same x v) y x

-- the operators by name
abbrev pub one : OneRow → Decision → Decision
one Negation = negation
one Conflation = conflation
one ClosedDefault = closed_default
one OpenDefault = open_default

abbrev pub two : TwoRow → Decision → Decision → Decision
two TruthMeet = truth_meet
two TruthJoin = truth_join
two KnowledgeMeet = knowledge_meet
two KnowledgeJoin = knowledge_join
two Implication = implication
two Guard = guard
two OverrideU = override U
two OverrideD = override D
two OverrideG = override G
two OverrideC = override C

-- every operator there is
abbrev pub every_one_row : List OneRow
every_one_row = Negation ∷ Conflation ∷ ClosedDefault ∷ OpenDefault ∷ []

abbrev pub every_two_row : List TwoRow
every_two_row =
    TruthMeet ∷ TruthJoin ∷ KnowledgeMeet ∷ KnowledgeJoin ∷ Implication ∷ Guard ∷ OverrideU ∷ OverrideD ∷ OverrideG ∷ OverrideC ∷ []

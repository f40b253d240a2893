-- The rules of each kind over the claims of the rows that it names, and the clauses of a rule (02, L7; docs/SOLVERS.md).
use Rattle.std.specs.Prelude.{Bool, cond, not, List, [], ◌∷◌, ◌++◌, Option, Some}
use Rattle.belnap.specs.declared.Decision.{Decision}
use Rattle.belnap.specs.declared.Decision.TheVariants.{U, D, G, C}
use Rattle.belnap.specs.declared.orders.Order.{Order}
use Rattle.belnap.specs.declared.orders.Order.TheVariants.{Truth, Knowledge}
use Rattle.belnap.specs.Decisions.{grants, denies}
use Rattle.operators.specs.declared.OneRow.{OneRow}
use Rattle.operators.specs.declared.OneRow.TheVariants.{Negation, Conflation, ClosedDefault, OpenDefault}
use Rattle.operators.specs.declared.TwoRow.{TwoRow}
use Rattle.operators.specs.declared.TwoRow.TheVariants.{TruthMeet, TruthJoin, KnowledgeMeet, KnowledgeJoin, Implication}
use Rattle.operators.specs.declared.TwoRow.TheVariants.{Guard, OverrideU, OverrideD, OverrideG, OverrideC}
use Rattle.kinds.specs.declared.RowKind.{RowKind}
use Rattle.kinds.specs.declared.RowKind.TheVariants.{Always, DenyIf, GrantIf, One, Two}
use Rattle.kinds.specs.declared.QuestionKind.{QuestionKind}
use Rattle.kinds.specs.declared.QuestionKind.TheVariants.{Compare, Not, Both}
use Rattle.kinds.specs.declared.ConstraintKind.{ConstraintKind}
use Rattle.kinds.specs.declared.ConstraintKind.TheVariants.{NeverBoth, OnlyIf}
use Rattle.clauses.specs.declared.Literal.{Literal}
use Rattle.clauses.specs.declared.Claims.{Claims}
use Rattle.clauses.specs.declared.Clause.{Clause}
use Rattle.clauses.specs.declared.Clause.TheVariants.{Three}
use Rattle.clauses.specs.declared.Rule.{Rule}
use Rattle.clauses.specs.declared.Rule.TheVariants.{Only, Either, Same, And, AndOr, OrAndOr}
use Rattle.clauses.specs.declared.Rules.{Rules}

-- the negation of a literal; a literal, or its negation where it is said to be false
abbrev pub negated : Literal → Literal
negated l = record { variable = l.variable; positive = not l.positive }

abbrev pub signed : Bool → Literal → Literal
signed said l = cond said l (negated l)

-- the clauses of a rule: "t", "a or b", "t = a", "t = a and b", "t = a and (b or c)", "t = (a or b) and (c or d)"
abbrev pub clauses_of : Rule → List (List Literal)
clauses_of (Only t) = (t ∷ []) ∷ []
clauses_of (Either a b) = (a ∷ b ∷ []) ∷ []
clauses_of (Same t a) = (negated t ∷ a ∷ []) ∷ (t ∷ negated a ∷ []) ∷ []
clauses_of (And t a b) = (negated t ∷ a ∷ []) ∷ (negated t ∷ b ∷ []) ∷ (t ∷ negated a ∷ negated b ∷ []) ∷ []
clauses_of (AndOr t a b c) =
    (negated t ∷ a ∷ []) ∷ (negated t ∷ b ∷ c ∷ []) ∷ (t ∷ negated a ∷ negated b ∷ []) ∷ (t ∷ negated a ∷ negated c ∷ []) ∷ []
clauses_of (OrAndOr t a b c d) =
    (negated t ∷ a ∷ b ∷ []) ∷ (negated t ∷ c ∷ d ∷ [])
    ∷ (t ∷ negated a ∷ negated c ∷ []) ∷ (t ∷ negated a ∷ negated d ∷ [])
    ∷ (t ∷ negated b ∷ negated c ∷ []) ∷ (t ∷ negated b ∷ negated d ∷ []) ∷ []

-- "t = a or b" is "-t = -a and -b"
abbrev pub any_of : Literal → Literal → Literal → Rule
any_of t a b = And (negated t) (negated a) (negated b)

-- the clause of these literals, one to three of them; there is none of no literal
abbrev pub shown_clause : List Literal → Option Clause
shown_clause [] = Option.None
shown_clause (a ∷ []) = Some (Clause.One a)
shown_clause (a ∷ b ∷ []) = Some (Clause.Two a b)
shown_clause (a ∷ b ∷ c ∷ more) = Some (Three a b c)

-- the literals that a clause has
abbrev pub literals_in : Clause → List Literal
literals_in (Clause.One a) = a ∷ []
literals_in (Clause.Two a b) = a ∷ b ∷ []
literals_in (Three a b c) = a ∷ b ∷ c ∷ []

-- the one-row operators: the claims of the row itself by those of the row that it names
abbrev pub one_rules : OneRow → Claims → Claims → Rules
one_rules Negation own x = Rules.Two (Same own.grants x.denies) (Same own.denies x.grants)
one_rules Conflation own x = Rules.Two (Same own.grants (negated x.denies)) (Same own.denies (negated x.grants))
one_rules ClosedDefault own x = Rules.Two (And own.grants x.grants (negated x.denies)) (Same own.denies (negated own.grants))
one_rules OpenDefault own x = Rules.Two (Same own.grants (negated own.denies)) (And own.denies x.denies (negated x.grants))

-- a claim of an override, by whether the decision to be overridden has this claim and whether it has the other: the row's own, those of the first row, this
-- and the other, and that of the second
abbrev pub overriding : Bool → Bool → Literal → Literal → Literal → Literal → Rule
overriding has other own cx ox cy = AndOr (signed has own) (signed has cx) (signed (not other) ox) (signed has cy)

abbrev pub override_rules : Decision → Claims → Claims → Claims → Rules
override_rules v own x y =
    Rules.Two (overriding (grants v) (denies v) own.grants x.grants x.denies y.grants)
    (overriding (denies v) (grants v) own.denies x.denies x.grants y.denies)

-- the two-row operators
abbrev pub two_rules : TwoRow → Claims → Claims → Claims → Rules
two_rules TruthMeet own x y = Rules.Two (And own.grants x.grants y.grants) (any_of own.denies x.denies y.denies)
two_rules TruthJoin own x y = Rules.Two (any_of own.grants x.grants y.grants) (And own.denies x.denies y.denies)
two_rules KnowledgeMeet own x y = Rules.Two (And own.grants x.grants y.grants) (And own.denies x.denies y.denies)
two_rules KnowledgeJoin own x y = Rules.Two (any_of own.grants x.grants y.grants) (any_of own.denies x.denies y.denies)
two_rules Implication own x y = Rules.Two (any_of own.grants (negated x.grants) y.grants) (And own.denies x.grants y.denies)
two_rules Guard own x y = Rules.Two (And own.grants x.grants y.grants) (And own.denies x.grants y.denies)
two_rules OverrideU own x y = override_rules U own x y
two_rules OverrideD own x y = override_rules D own x y
two_rules OverrideG own x y = override_rules G own x y
two_rules OverrideC own x y = override_rules C own x y

-- a row of a kind with the predicate p, where it names rows with the claims x and y
abbrev pub row_rules : RowKind → Literal → Claims → Claims → Claims → Rules
row_rules (Always v) p own x y = Rules.Two (Only (signed (grants v) own.grants)) (Only (signed (denies v) own.denies))
row_rules DenyIf p own x y = Rules.Two (Only (negated own.grants)) (Same own.denies p)
row_rules GrantIf p own x y = Rules.Two (Same own.grants p) (Only (negated own.denies))
row_rules (One op) p own x y = one_rules op own x
row_rules (Two op) p own x y = two_rules op own x y

-- a question of a kind about the rows with the claims u and v, or the questions x and y
abbrev pub comparison : Order → Literal → Claims → Claims → Rule
comparison Truth own u v = OrAndOr own (negated u.grants) v.grants (negated v.denies) u.denies
comparison Knowledge own u v = OrAndOr own (negated u.grants) v.grants (negated u.denies) v.denies

abbrev pub question_rule : QuestionKind → Literal → Claims → Claims → Literal → Literal → Rule
question_rule (Compare o) own u v x y = comparison o own u v
question_rule Not own u v x y = Same own (negated x)
question_rule Both own u v x y = And own x y

-- a constraint of a kind with two predicates
abbrev pub constraint_rule : ConstraintKind → Literal → Literal → Rule
constraint_rule NeverBoth p q = Either (negated p) (negated q)
constraint_rule OnlyIf p q = Either (negated p) q

-- the clauses of an entry's rules
abbrev pub spelled : Rules → List (List Literal)
spelled Rules.None = []
spelled (Rules.One r) = clauses_of r
spelled (Rules.Two r s) = clauses_of r ++ clauses_of s

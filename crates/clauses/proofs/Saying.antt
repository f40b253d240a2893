-- What the clauses of each kind say: an assignment satisfies them exactly if what it says of the entry itself is what the kind makes of the rest.
-- Each is computed, at every decision or at every truth.
-- Assumes nothing.
use mathlib.Core.Path.{◌≡◌, refl}
use mathlib.Core.Bool.{Bool, true, false, cond, not, ◌&&◌}
use Prim.Native.Nat.{ℕ, zero, suc, ◌≤◌, ◌<◌}
use native.Mathlib.Numerals.{add-one}
use Rattle.belnap.specs.declared.Decision.{Decision}
use Rattle.belnap.specs.declared.Decision.TheVariants.{U, D, G, C}
use Rattle.belnap.specs.declared.orders.Order.{Order}
use Rattle.belnap.specs.declared.orders.Order.TheVariants.{Truth, Knowledge}
use Rattle.belnap.specs.Decisions.{grants, denies, alike, same}
use Rattle.belnap.specs.Orders.{at_or_below}
use Rattle.belnap.proofs.Finite.{everywhere, one_outcome}
use Rattle.operators.specs.declared.OneRow.TheVariants.{Negation, Conflation, ClosedDefault, OpenDefault}
use Rattle.operators.specs.declared.TwoRow.TheVariants.{TruthMeet, TruthJoin, KnowledgeMeet, KnowledgeJoin, Implication}
use Rattle.operators.specs.declared.TwoRow.TheVariants.{Guard, OverrideU, OverrideD, OverrideG, OverrideC}
use Rattle.operators.specs.Operators.{one, two}
use Rattle.kinds.specs.declared.RowKind.{RowKind}
use Rattle.kinds.specs.declared.RowKind.TheVariants.{Always, DenyIf, GrantIf, One, Two}
use Rattle.kinds.specs.declared.Kind.TheVariants.{Row}
use Rattle.kinds.specs.Kinds.{form_of}
use Rattle.entries.specs.Entries.{used_by}
use Rattle.kinds.specs.declared.QuestionKind.{QuestionKind}
use Rattle.kinds.specs.declared.QuestionKind.TheVariants.{Compare, Not, Both}
use Rattle.kinds.specs.declared.ConstraintKind.{ConstraintKind}
use Rattle.kinds.specs.declared.ConstraintKind.TheVariants.{NeverBoth, OnlyIf}
use Rattle.decide.specs.Meaning.{bit, decide_by}
use Rattle.questions.specs.Questions.{truth_by}
use Rattle.constraints.specs.Constraints.{keeps}
use Rattle.clauses.specs.declared.Claims.{Claims}
use Rattle.clauses.specs.Clauses.{satisfies}
use Rattle.clauses.specs.Rules.{clauses_of, row_rules, comparison, question_rule, constraint_rule, spelled}
use Rattle.clauses.specs.Variables.{yes}

-- a row's claims, by their variables
abbrev pub claims : ℕ → ℕ → Claims
claims g d = record { grants = yes g; denies = yes d }

-- an assignment that tells the claims of three decisions by the variables 0 to 5, and a truth by the next
abbrev telling : Bool → Decision → Decision → Decision → ℕ → Bool
telling said w x y zero = grants w
telling said w x y (suc zero) = denies w
telling said w x y (suc (suc zero)) = grants x
telling said w x y (suc (suc (suc zero))) = denies x
telling said w x y (suc (suc (suc (suc zero)))) = grants y
telling said w x y (suc (suc (suc (suc (suc zero))))) = denies y
telling said w x y (suc (suc (suc (suc (suc (suc n)))))) = said

-- whether it satisfies the clauses of a row of a kind that decides w, where the rows named decide x and y, and of a comparison that is true where w grants
abbrev row_says : RowKind → Bool → Order → Decision → Decision → Decision → Bool
row_says kind said o w x y = satisfies (telling said w x y) (spelled (row_rules kind (yes 6) (claims 0 1) (claims 2 3) (claims 4 5)))

abbrev order_says : Order → Decision → Decision → Decision → Bool
order_says o w x y = satisfies (telling true w x y) (clauses_of (comparison o (yes 0) (claims 2 3) (claims 4 5)))

order_says_lem : (o : Order) (w x y : Decision) → order_says o w x y ≡ alike (grants w) (at_or_below o x y)
order_says_lem = one_outcome order_says (λ o w x y. alike (grants w) (at_or_below o x y)) refl

-- an assignment that tells three truths by the variables 0 to 2, and "not", "both" and the constraints by it
abbrev truths : Bool → Bool → Bool → ℕ → Bool
truths t a b zero = t
truths t a b (suc zero) = a
truths t a b (suc (suc n)) = b

abbrev asked : QuestionKind → Bool → Bool → Bool → Bool
asked kind t a b = satisfies (truths t a b) (clauses_of (question_rule kind (yes 0) (claims 0 0) (claims 0 0) (yes 1) (yes 2)))

not_says : (t a : Bool) → asked Not t a a ≡ alike t (not a)
not_says true true = refl
not_says true false = refl
not_says false true = refl
not_says false false = refl

both_says : (t a b : Bool) → asked Both t a b ≡ alike t (a && b)
both_says true true true = refl
both_says true true false = refl
both_says true false b = refl
both_says false true true = refl
both_says false true false = refl
both_says false false true = refl
both_says false false false = refl

abbrev kept : ConstraintKind → Bool → Bool → Bool
kept kind a b = satisfies (truths a b b) (clauses_of (constraint_rule kind (yes 0) (yes 1)))

never_says : (a b : Bool) → kept NeverBoth a b ≡ keeps NeverBoth a b
never_says true true = refl
never_says true false = refl
never_says false true = refl
never_says false false = refl

only_says : (a b : Bool) → kept OnlyIf a b ≡ keeps OnlyIf a b
only_says true true = refl
only_says true false = refl
only_says false true = refl
only_says false false = refl

module _ (A : ℕ → Bool) where
  -- an assignment that says these decisions of a row and of those that it names
  module _ (g d gx dx gy dy : ℕ) (w x y : Decision) (hg : A g ≡ grants w) (hd : A d ≡ denies w) (hgx : A gx ≡ grants x) (hdx : A dx ≡ denies x)
      (hgy : A gy ≡ grants y) (hdy : A dy ≡ denies y) where
    computed : (kind : RowKind) (said : Bool) (f : Decision → Decision → Decision) →
        everywhere (λ o w x y. alike (row_says kind said o w x y) (same w (f x y))) ≡ true → row_says kind said Truth w x y ≡ same w (f x y)
    computed kind said f e = one_outcome (row_says kind said) (λ o w x y. same w (f x y)) e Truth w x y

    pub row_says_lem : (kind : RowKind) (p predicate request n : ℕ) → used_by (form_of (Row kind)).names predicate ≤ n →
        (predicate < n → A p ≡ bit request predicate) →
        satisfies A (spelled (row_rules kind (yes p) (claims g d) (claims gx dx) (claims gy dy))) ≡ same w (decide_by kind predicate request x y)
    unfolding decide_by
    row_says_lem (Always U) p predicate request n u h = rw (hg, hd) (computed (Always U) true (λ x y. U) refl)
    row_says_lem (Always D) p predicate request n u h = rw (hg, hd) (computed (Always D) true (λ x y. D) refl)
    row_says_lem (Always G) p predicate request n u h = rw (hg, hd) (computed (Always G) true (λ x y. G) refl)
    row_says_lem (Always C) p predicate request n u h = rw (hg, hd) (computed (Always C) true (λ x y. C) refl)
    row_says_lem DenyIf p predicate request n u h = rw (hg, hd, h (rw (add-one predicate) at u)) (at (bit request predicate))
      where
        at : (said : Bool) → row_says DenyIf said Truth w x y ≡ same w (cond said D U)
        at true = computed DenyIf true (λ x y. D) refl
        at false = computed DenyIf false (λ x y. U) refl
    row_says_lem GrantIf p predicate request n u h = rw (hg, hd, h (rw (add-one predicate) at u)) (at (bit request predicate))
      where
        at : (said : Bool) → row_says GrantIf said Truth w x y ≡ same w (cond said G U)
        at true = computed GrantIf true (λ x y. G) refl
        at false = computed GrantIf false (λ x y. U) refl
    row_says_lem (One Negation) p predicate request n u h = rw (hg, hd, hgx, hdx) (computed (One Negation) true (λ x y. one Negation x) refl)
    row_says_lem (One Conflation) p predicate request n u h = rw (hg, hd, hgx, hdx) (computed (One Conflation) true (λ x y. one Conflation x) refl)
    row_says_lem (One ClosedDefault) p predicate request n u h = rw (hg, hd, hgx, hdx) (computed (One ClosedDefault) true (λ x y. one ClosedDefault x) refl)
    row_says_lem (One OpenDefault) p predicate request n u h = rw (hg, hd, hgx, hdx) (computed (One OpenDefault) true (λ x y. one OpenDefault x) refl)
    row_says_lem (Two TruthMeet) p predicate request n u h = rw (hg, hd, hgx, hdx, hgy, hdy) (computed (Two TruthMeet) true (two TruthMeet) refl)
    row_says_lem (Two TruthJoin) p predicate request n u h = rw (hg, hd, hgx, hdx, hgy, hdy) (computed (Two TruthJoin) true (two TruthJoin) refl)
    row_says_lem (Two KnowledgeMeet) p predicate request n u h = rw (hg, hd, hgx, hdx, hgy, hdy) (computed (Two KnowledgeMeet) true (two KnowledgeMeet) refl)
    row_says_lem (Two KnowledgeJoin) p predicate request n u h = rw (hg, hd, hgx, hdx, hgy, hdy) (computed (Two KnowledgeJoin) true (two KnowledgeJoin) refl)
    row_says_lem (Two Implication) p predicate request n u h = rw (hg, hd, hgx, hgy, hdy) (computed (Two Implication) true (two Implication) refl)
    row_says_lem (Two Guard) p predicate request n u h = rw (hg, hd, hgx, hgy, hdy) (computed (Two Guard) true (two Guard) refl)
    row_says_lem (Two OverrideU) p predicate request n u h = rw (hg, hd, hgx, hdx, hgy, hdy) (computed (Two OverrideU) true (two OverrideU) refl)
    row_says_lem (Two OverrideD) p predicate request n u h = rw (hg, hd, hgx, hdx, hgy, hdy) (computed (Two OverrideD) true (two OverrideD) refl)
    row_says_lem (Two OverrideG) p predicate request n u h = rw (hg, hd, hgx, hdx, hgy, hdy) (computed (Two OverrideG) true (two OverrideG) refl)
    row_says_lem (Two OverrideC) p predicate request n u h = rw (hg, hd, hgx, hdx, hgy, hdy) (computed (Two OverrideC) true (two OverrideC) refl)

    -- a question, whose truth is whether w grants
    pub question_says : (kind : QuestionKind) (qx qy : ℕ) →
        satisfies A (clauses_of (question_rule kind (yes g) (claims gx dx) (claims gy dy) (yes qx) (yes qy))) ≡ alike (A g) (truth_by kind x y (A qx) (A qy))
    question_says (Compare Truth) qx qy = rw (hg, hgx, hdx, hgy, hdy) (order_says_lem Truth w x y)
    question_says (Compare Knowledge) qx qy = rw (hg, hgx, hdx, hgy, hdy) (order_says_lem Knowledge w x y)
    question_says Not qx qy = not_says (A g) (A qx)
    question_says Both qx qy = both_says (A g) (A qx) (A qy)

  -- a constraint
  pub constraint_says : (kind : ConstraintKind) (p q : ℕ) → satisfies A (clauses_of (constraint_rule kind (yes p) (yes q))) ≡ keeps kind (A p) (A q)
  constraint_says NeverBoth p q = never_says (A p) (A q)
  constraint_says OnlyIf p q = only_says (A p) (A q)

-- Each derived operator equals its formula in 002's Figure 4 (guard: in 000); and 000's printed formulas for override are wrong, as 01 warns.
-- Figure 4's text prints negation and conflation with one sign. The reading that makes its formulas right: the left side of the line for conflation
-- is conflation; an override of f or t negates a join or meet with the conflation; an override of ⊥ or ⊤ conflates a join or meet with the negation.
-- Assumes nothing.
use mathlib.Core.Path.{◌≡◌, refl}
use Rattle.belnap.specs.declared.Decision.{Decision}
use Rattle.belnap.specs.declared.Decision.TheVariants.{U, D, G, C}
use Rattle.belnap.specs.declared.orders.Order.TheVariants.{Truth}
use Rattle.belnap.specs.Lattice.{negation, conflation, truth_meet, truth_join, knowledge_meet, knowledge_join}
use Rattle.operators.specs.Operators.{closed_default, open_default, implication, guard, override}
use Rattle.belnap.proofs.Finite.{one_decision, one_from_one, one_from_two}

-- p ∨ q = ¬(¬p ∧ ¬q)
pub truth_join_formula : (p q : Decision) → truth_join p q ≡ negation (truth_meet (negation p) (negation q))
truth_join_formula = one_from_two truth_join (λ p q. negation (truth_meet (negation p) (negation q))) refl

-- p ⊗ q = (p ∧ ⊥) ∨ (q ∧ ⊥) ∨ (p ∧ q), and p ⊕ q = (p ∧ ⊤) ∨ (q ∧ ⊤) ∨ (p ∧ q)
abbrev through : Decision → Decision → Decision → Decision
through v p q = truth_join (truth_join (truth_meet p v) (truth_meet q v)) (truth_meet p q)

pub knowledge_meet_formula : (p q : Decision) → knowledge_meet p q ≡ through U p q
knowledge_meet_formula = one_from_two knowledge_meet (through U) refl

pub knowledge_join_formula : (p q : Decision) → knowledge_join p q ≡ through C p q
knowledge_join_formula = one_from_two knowledge_join (through C) refl

-- -p = (¬p ⊃ ⊥) ⊕ ¬(p ⊃ ⊥)
pub conflation_formula : (p : Decision) → conflation p ≡ knowledge_join (implication (negation p) U) (negation (implication p U))
conflation_formula = one_from_one conflation (λ p. knowledge_join (implication (negation p) U) (negation (implication p U))) refl

-- p[f ↦ q] = p ∨ (¬(p ∨ -p) ∧ q), p[t ↦ q] = p ∧ (¬(p ∧ -p) ∨ q),
-- p[⊥ ↦ q] = p ⊕ (-(p ⊕ ¬p) ⊗ q), p[⊤ ↦ q] = p ⊗ (-(p ⊗ ¬p) ⊕ q)
abbrev figure : Decision → Decision → Decision → Decision
figure D p q = truth_join p (truth_meet (negation (truth_join p (conflation p))) q)
figure G p q = truth_meet p (truth_join (negation (truth_meet p (conflation p))) q)
figure U p q = knowledge_join p (knowledge_meet (conflation (knowledge_join p (negation p))) q)
figure C p q = knowledge_meet p (knowledge_join (conflation (knowledge_meet p (negation p))) q)

pub override_formula : (v p q : Decision) → override v p q ≡ figure v p q
override_formula = one_decision (λ o. override) (λ o. figure) refl Truth

-- p↓ = p[⊤ ↦ f][⊥ ↦ f] and p↑ = p[⊤ ↦ t][⊥ ↦ t]
pub closed_default_formula : (p : Decision) → closed_default p ≡ override U (override C p D) D
closed_default_formula = one_from_one closed_default (λ p. override U (override C p D) D) refl

pub open_default_formula : (p : Decision) → open_default p ≡ override U (override C p G) G
open_default_formula = one_from_one open_default (λ p. override U (override C p G) G) refl

-- p : q = (p ⊃ q) ⊗ ¬(p ⊃ ¬q) (000)
pub guard_formula : (p q : Decision) → guard p q ≡ knowledge_meet (implication p q) (negation (implication p (negation q)))
guard_formula = one_from_two guard (λ p q. knowledge_meet (implication p q) (negation (implication p (negation q)))) refl

-- 000's formulas for override as printed: at the very value to be overridden each gives that value back
abbrev printed : Decision → Decision → Decision → Decision
printed D p q = truth_join p (truth_meet (negation (truth_join p (negation p))) q)
printed G p q = truth_meet p (truth_join (negation (truth_meet p (negation p))) q)
printed U p q = knowledge_join p (knowledge_meet (negation (knowledge_join p (negation p))) q)
printed C p q = knowledge_join p (knowledge_meet (negation (knowledge_meet p (negation p))) q)

pub printed_gives_back : (v q : Decision) → printed v v q ≡ v
printed_gives_back = one_from_two (λ v q. printed v v q) (λ v q. v) refl

-- PBel's bilattice (002, section 2): two orders, each with its meet, its join and its negation. A law is stated once, over the order.
-- Assumes nothing.
use mathlib.Core.Path.{◌≡◌, refl}
use mathlib.Core.Bool.{Bool, true, ◌&&◌}
use Rattle.belnap.specs.declared.Decision.{Decision}
use Rattle.belnap.specs.declared.orders.Order.{Order}
use Rattle.belnap.specs.declared.orders.Order.TheVariants.{Truth, Knowledge}
use Rattle.belnap.specs.Decisions.{same}
use Rattle.belnap.specs.Lattice.{negation, conflation, truth_meet, truth_join, knowledge_meet, knowledge_join}
use Rattle.belnap.specs.Orders.{only_if, at_or_below}
use Rattle.belnap.proofs.Finite.{in_order, everywhere, law, one_outcome, one_decision}

-- the meet, the join and the negation of an order, and the other order
abbrev pub meet : Order → Decision → Decision → Decision
meet Truth = truth_meet
meet Knowledge = knowledge_meet

abbrev pub join : Order → Decision → Decision → Decision
join Truth = truth_join
join Knowledge = knowledge_join

abbrev pub turned : Order → Decision → Decision
turned Truth = negation
turned Knowledge = conflation

abbrev pub other : Order → Order
other Truth = Knowledge
other Knowledge = Truth

-- both are partial orders
pub reflexive : (o : Order) (x : Decision) → at_or_below o x x ≡ true
reflexive o x = law (λ o x y z. at_or_below o x x) refl o x x x

pub antisymmetric : (o : Order) (x y : Decision) → (at_or_below o x y && at_or_below o y x) ≡ same x y
antisymmetric o x y = one_outcome (λ o x y z. at_or_below o x y && at_or_below o y x) (λ o x y z. same x y) refl o x y y

pub transitive : (o : Order) (x y z : Decision) → only_if (at_or_below o x y && at_or_below o y z) (at_or_below o x z) ≡ true
transitive = law (λ o x y z. only_if (at_or_below o x y && at_or_below o y z) (at_or_below o x z)) refl

-- the meet is the greatest lower bound: what is at or below it is what is at or below both
pub meet_greatest : (o : Order) (x y z : Decision) → at_or_below o z (meet o x y) ≡ (at_or_below o z x && at_or_below o z y)
meet_greatest = one_outcome (λ o x y z. at_or_below o z (meet o x y)) (λ o x y z. at_or_below o z x && at_or_below o z y) refl

-- the join is the least upper bound: what it is at or below is what both are at or below
pub join_least : (o : Order) (x y z : Decision) → at_or_below o (join o x y) z ≡ (at_or_below o x z && at_or_below o y z)
join_least = one_outcome (λ o x y z. at_or_below o (join o x y) z) (λ o x y z. at_or_below o x z && at_or_below o y z) refl

-- each negation inverts its own order, leaves the other as it is, and undoes itself
pub turned_inverts : (o : Order) (x y : Decision) → at_or_below o (turned o y) (turned o x) ≡ at_or_below o x y
turned_inverts o x y = one_outcome (λ o x y z. at_or_below o (turned o y) (turned o x)) (λ o x y z. at_or_below o x y) refl o x y y

pub turned_keeps : (o : Order) (x y : Decision) → at_or_below (other o) (turned o x) (turned o y) ≡ at_or_below (other o) x y
turned_keeps o x y = one_outcome (λ o x y z. at_or_below (other o) (turned o x) (turned o y)) (λ o x y z. at_or_below (other o) x y) refl o x y y

pub turned_twice : (o : Order) (x : Decision) → turned o (turned o x) ≡ x
turned_twice o x = one_decision (λ o x y z. turned o (turned o x)) (λ o x y z. x) refl o x x x

pub turned_commute : (o : Order) (x : Decision) → turned o (turned (other o) x) ≡ turned (other o) (turned o x)
turned_commute o x = one_decision (λ o x y z. turned o (turned (other o) x)) (λ o x y z. turned (other o) (turned o x)) refl o x x x

-- De Morgan: each negation exchanges the meet and the join of its own order, and goes through those of the other
pub de_morgan_meet : (o : Order) (x y : Decision) → turned o (meet o x y) ≡ join o (turned o x) (turned o y)
de_morgan_meet o x y = one_decision (λ o x y z. turned o (meet o x y)) (λ o x y z. join o (turned o x) (turned o y)) refl o x y y

pub de_morgan_join : (o : Order) (x y : Decision) → turned o (join o x y) ≡ meet o (turned o x) (turned o y)
de_morgan_join o x y = one_decision (λ o x y z. turned o (join o x y)) (λ o x y z. meet o (turned o x) (turned o y)) refl o x y y

pub through_meet : (o : Order) (x y : Decision) → turned o (meet (other o) x y) ≡ meet (other o) (turned o x) (turned o y)
through_meet o x y = one_decision (λ o x y z. turned o (meet (other o) x y)) (λ o x y z. meet (other o) (turned o x) (turned o y)) refl o x y y

pub through_join : (o : Order) (x y : Decision) → turned o (join (other o) x y) ≡ join (other o) (turned o x) (turned o y)
through_join o x y = one_decision (λ o x y z. turned o (join (other o) x y)) (λ o x y z. join (other o) (turned o x) (turned o y)) refl o x y y

-- interlacing: the meet and the join of either order keep both orders
abbrev Kept : Order → Order → Decision → Decision → Decision → Bool
Kept p o x y z = only_if (at_or_below o x y) (at_or_below o (meet p x z) (meet p y z) && at_or_below o (join p x z) (join p y z))

pub interlaced : (p o : Order) (x y z : Decision) →
    only_if (at_or_below o x y) (at_or_below o (meet p x z) (meet p y z) && at_or_below o (join p x z) (join p y z)) ≡ true
interlaced p = law (Kept p) (in_order (λ p. everywhere (Kept p)) refl p)

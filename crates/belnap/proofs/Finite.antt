-- A test that antt computes at both orders and at every decision holds at each: so a law of this crate is one computation.
-- A law that speaks of fewer decisions, or of no order, leaves the others unused.
-- Assumes nothing.
use mathlib.Core.Path.{◌≡◌, refl, sym, ap₂, ◌∙◌}
use mathlib.Core.Bool.{Bool, true, false, ◌&&◌, ◌||◌}
use Prim.Native.Nat.{ℕ}
use native.Mathlib.Omega.{arith}
use Rattle.belnap.specs.declared.Decision.{Decision}
use Rattle.belnap.specs.declared.Decision.TheVariants.{U, D, G, C}
use Rattle.belnap.specs.declared.orders.Order.{Order}
use Rattle.belnap.specs.declared.orders.Order.TheVariants.{Truth, Knowledge}
use Rattle.belnap.specs.Decisions.{grants, denies, claiming, alike, same}

-- true is not false
pub never : {P : Type 0} → true ≡ false → P
never e = absurd (let z : ◌≡◌ {A = ℕ} 0 1 = cc in omega arith)

-- a conjunction that is true has both parts true
pub both_parts : (p q : Bool) → (p && q) ≡ true → (p ≡ true) × (q ≡ true)
both_parts true q e = (refl, e)
both_parts false q e = never (sym e)

-- a disjunction is true if a part is, and then has a part that is
pub or_left : (p q : Bool) → p ≡ true → (p || q) ≡ true
or_left p q e = rw e

pub or_right : (p q : Bool) → q ≡ true → (p || q) ≡ true
or_right true q e = refl
or_right false q e = e

pub or_part : {P : Type 0} (p q : Bool) → (p || q) ≡ true → (p ≡ true → P) → (q ≡ true → P) → P
or_part true q e f g = f refl
or_part false q e f g = g e

-- one that is false has both parts false
pub neither : (p q : Bool) → (p || q) ≡ false → (p ≡ false) × (q ≡ false)
neither true q e = never e
neither false q e = (refl, e)

-- outcomes that bring each other are equal
pub both_ways : (p q : Bool) → (p ≡ true → q ≡ true) → (q ≡ true → p ≡ true) → p ≡ q
both_ways true q a b = sym (a refl)
both_ways false true a b = b refl
both_ways false false a b = refl

-- a test at the four decisions, and at the two orders
abbrev pub every : (Decision → Bool) → Bool
every p = (p U && p D) && (p G && p C)

abbrev pub in_both : (Order → Bool) → Bool
in_both p = p Truth && p Knowledge

pub at : (p : Decision → Bool) → every p ≡ true → (x : Decision) → p x ≡ true
at p e x =
    let halves = both_parts (p U && p D) (p G && p C) e in
    let low = both_parts (p U) (p D) halves.0 in
    let high = both_parts (p G) (p C) halves.1 in
    elim x as (λ x. p x ≡ true) [ U ↦ low.0 | D ↦ low.1 | G ↦ high.0 | C ↦ high.1 ]

pub in_order : (p : Order → Bool) → in_both p ≡ true → (o : Order) → p o ≡ true
in_order p e o =
    let halves = both_parts (p Truth) (p Knowledge) e in
    elim o as (λ o. p o ≡ true) [ Truth ↦ halves.0 | Knowledge ↦ halves.1 ]

-- a test of an order and three decisions, everywhere
abbrev pub everywhere : (Order → Decision → Decision → Decision → Bool) → Bool
everywhere p = in_both (λ o. every (λ x. every (λ y. every (p o x y))))

pub law : (p : Order → Decision → Decision → Decision → Bool) → everywhere p ≡ true →
    (o : Order) (x y z : Decision) → p o x y z ≡ true
law p e o x y =
    at (p o x y) (at (λ y. every (p o x y)) (at (λ x. every (λ y. every (p o x y))) (in_order (λ o. every (λ x. every (λ y. every (p o x y)))) e o) x) y)

-- like claims are equal claims, and decisions with like claims are equal
pub alike_is : (p q : Bool) → alike p q ≡ true → p ≡ q
alike_is true q e = sym e
alike_is false false e = refl
alike_is false true e = e

pub claims_of : (x : Decision) → claiming (grants x) (denies x) ≡ x
claims_of U = refl
claims_of D = refl
claims_of G = refl
claims_of C = refl

pub claimed : (p q : Bool) → (grants (claiming p q) ≡ p) × (denies (claiming p q) ≡ q)
claimed true true = (refl, refl)
claimed true false = (refl, refl)
claimed false true = (refl, refl)
claimed false false = (refl, refl)

-- and each is alike itself
pub alike_itself : (p : Bool) → alike p p ≡ true
alike_itself true = refl
alike_itself false = refl

pub same_itself : (x : Decision) → same x x ≡ true
same_itself x = ap₂ ◌&&◌ (alike_itself (grants x)) (alike_itself (denies x))

pub same_is : (x y : Decision) → same x y ≡ true → x ≡ y
same_is x y e =
    let h = both_parts (alike (grants x) (grants y)) (alike (denies x) (denies y)) e in
    sym (claims_of x)
    ∙ ap₂ claiming (alike_is (grants x) (grants y) h.0) (alike_is (denies x) (denies y) h.1)
    ∙ claims_of y

-- two tests with one outcome; two ways to one decision
pub one_outcome : (f g : Order → Decision → Decision → Decision → Bool) → everywhere (λ o x y z. alike (f o x y z) (g o x y z)) ≡ true →
    (o : Order) (x y z : Decision) → f o x y z ≡ g o x y z
one_outcome f g e o x y z = alike_is (f o x y z) (g o x y z) (law (λ o x y z. alike (f o x y z) (g o x y z)) e o x y z)

pub one_decision : (f g : Order → Decision → Decision → Decision → Decision) → everywhere (λ o x y z. same (f o x y z) (g o x y z)) ≡ true →
    (o : Order) (x y z : Decision) → f o x y z ≡ g o x y z
one_decision f g e o x y z = same_is (f o x y z) (g o x y z) (law (λ o x y z. same (f o x y z) (g o x y z)) e o x y z)

-- the same from two decisions, and from one
pub one_from_two : (f g : Decision → Decision → Decision) → everywhere (λ o x y z. same (f x y) (g x y)) ≡ true →
    (x y : Decision) → f x y ≡ g x y
one_from_two f g e x y = one_decision (λ o x y z. f x y) (λ o x y z. g x y) e Truth x y y

pub one_from_one : (f g : Decision → Decision) → everywhere (λ o x y z. same (f x) (g x)) ≡ true → (x : Decision) → f x ≡ g x
one_from_one f g e x = one_decision (λ o x y z. f x) (λ o x y z. g x) e Truth x x x

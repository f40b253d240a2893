-- An image holds the result of every choice, and nothing else, over any finite types. Each law is that of `choosing`, at one operand and at two.
-- Assumes nothing.
use mathlib.Core.Path.{◌≡◌, refl, sym, ap, fun_ext, ◌∙◌}
use mathlib.Core.Bool.{Bool, true, false, ◌&&◌, ◌||◌}
use mathlib.Core.List.{List, [], ◌∷◌, foldr}
use mathlib.Core.Option.{none, some}
use Prim.Native.Nat.{ℕ, zero, suc}
use lib.ListN.{get_elem?}
use borrow.Author.Tests.{eqb-true, eq-eqb}
use Rattle.belnap.proofs.Finite.{both_parts, or_left, or_right, or_part, both_ways, never}
use Rattle.possible.specs.Sets.{Finite, Set, Within, any, single, either, choosing, choices, image_one, image_two}

-- nothing stands in an empty list
pub none_stands : {P A : Type 0} {x : A} → none ≡ some x → P
none_stands e = never cc

-- any member passes a test if one does, and then there is one that does
any_listed : {A : Type 0} (p : A → Bool) (l : List A) (i : ℕ) {x : A} → get_elem? l i ≡ some x → p x ≡ true →
    foldr (λ x later. p x || later) false l ≡ true
any_listed p [] i at e = none_stands at
any_listed p (y ∷ l) zero at e = or_left (p y) _ (let q : y ≡ _ = cc in rw q e)
any_listed p (y ∷ l) (suc i) at e = or_right (p y) _ (any_listed p l i at e)

any_of : (F : Finite) (p : F.Member → Bool) (x : F.Member) → p x ≡ true → any F p ≡ true
any_of F p x e = any_listed p F.members (F.place x) (F.there x) e

which : {P A : Type 0} (p : A → Bool) (l : List A) → foldr (λ x later. p x || later) false l ≡ true → ((x : A) → p x ≡ true → P) → P
which p [] e k = never (sym e)
which p (x ∷ l) e k = or_part (p x) _ e (k x) (λ e. which p l e k)

-- sets with the same members are equal
pub same_set : {F : Finite} (s t : Set F) → ((v : F.Member) → s.has v ≡ t.has v) → s ≡ t
same_set s t h = λ i. record { has = λ v. h v i }

each_within : {F : Finite} (s t : Set F) → Within s t → Within t s → s ≡ t
each_within s t a b = same_set s t (λ v. both_ways (s.has v) (t.has v) (a v) (b v))

-- "its one decision"
pub single_has : (F : Finite) (x : F.Member) → (single {F = F} x).has x ≡ true
single_has F x = eq-eqb (F.place x) (F.place x) refl

single_is : (F : Finite) (x v : F.Member) → (single {F = F} x).has v ≡ true → x ≡ v
single_is F x v e =
    let q = sym (F.there x) ∙ ap (get_elem? F.members) (eqb-true (F.place x) (F.place v) e) ∙ F.there v in
    cc

-- "u and its own"
pub either_left : {F : Finite} (s t : Set F) → Within s (either s t)
either_left s t v e = or_left (s.has v) (t.has v) e

pub either_right : {F : Finite} (s t : Set F) → Within t (either s t)
either_right s t v e = or_right (s.has v) (t.has v) e

-- what a choice leads to is there, and nothing else; one choice alone; more choices, each of which leads to more
choosing_has : {F G : Finite} (s : Set F) (f : F.Member → Set G) (x : F.Member) (v : G.Member) → s.has x ≡ true → (f x).has v ≡ true →
    (choosing s f).has v ≡ true
unfolding choosing
choosing_has {F} s f x v a b = any_of F (λ x. s.has x && (f x).has v) x (rw (a, b))

choosing_from : {P : Type 0} {F G : Finite} (s : Set F) (f : F.Member → Set G) (v : G.Member) → (choosing s f).has v ≡ true →
    ((x : F.Member) → s.has x ≡ true → (f x).has v ≡ true → P) → P
unfolding choosing
choosing_from {F} s f v e k = which (λ x. s.has x && (f x).has v) F.members e (λ x e. let h = both_parts (s.has x) ((f x).has v) e in k x h.0 h.1)

choosing_single : (F : Finite) {G : Finite} (x : F.Member) (f : F.Member → Set G) → choosing (single {F = F} x) f ≡ f x
choosing_single F x f =
    let s : Set F = single x in
    each_within (choosing s f) (f x)
    (λ v e. choosing_from s f v e (λ y a b. let q = single_is F x y a in rw q b))
    (λ v e. choosing_has s f x v (single_has F x) e)

choosing_within : {F G : Finite} (s t : Set F) (f g : F.Member → Set G) → Within s t → ((x : F.Member) → s.has x ≡ true → Within (f x) (g x)) →
    Within (choosing s f) (choosing t g)
choosing_within s t f g a b v e = choosing_from s f v e (λ x m r. choosing_has t g x v (a x m) (b x m v r))

-- `equal` allows no choice that `other` does not: one choice serves both wherever it does by `other`; and where it does by `equal` alone, both sets are one
abbrev pub Fewer : {F : Finite} → Bool → Bool → Set F → Set F → Type 0
Fewer equal other s t = (other ≡ true → equal ≡ true) × (equal ≡ true → other ≡ false → s ≡ t)

pub as_many : {F : Finite} (equal : Bool) (s t : Set F) → Fewer equal equal s t
as_many equal s t = (λ e. e, λ e d. never (sym e ∙ d))

pub for_twice : {F : Finite} (equal : Bool) (s t : Set F) → (equal ≡ true → s ≡ t) → Fewer equal false s t
for_twice equal s t e = (λ d. never (sym d), λ h d. e h)

-- what may be chosen beside y: a member of the set that is y where one choice serves both; no more from fewer; the one member that there is
module _ {F : Finite} where
  choice_has : (equal : Bool) (s : Set F) (x y : F.Member) → s.has x ≡ true → (equal ≡ true → x ≡ y) → (choices equal s y).has x ≡ true
  choice_has true s x y a e = rw (e refl) (single_has F y)
  choice_has false s x y a e = a

  choice_within : (equal other : Bool) (s t p : Set F) (y : F.Member) → Fewer equal other s t → Within s p → t.has y ≡ true →
      Within (choices equal s y) (choices other p y)
  choice_within true true s t p y few a m = λ x e. e
  choice_within true false s t p y few a m = λ x e. a x (rw (few.1 refl refl, ← single_is F y x e) m)
  choice_within false true s t p y few a m = never (sym (few.0 refl))
  choice_within false false s t p y few a m = a

  choice_single : (equal : Bool) (x y : F.Member) → (equal ≡ true → x ≡ y) → choices equal (single {F = F} x) y ≡ single x
  choice_single true x y e = ap (single {F = F}) (sym (e refl))
  choice_single false x y e = refl

module _ {F : Finite} (G : Finite) where
  -- the result of every choice is in the image
  pub one_has : (f : F.Member → G.Member) (s : Set F) (x : F.Member) → s.has x ≡ true → (image_one {G = G} f s).has (f x) ≡ true
  unfolding image_one
  one_has f s x a = choosing_has s (λ x. single (f x)) x (f x) a (single_has G (f x))

  pub two_has : (f : F.Member → F.Member → G.Member) (equal : Bool) (s t : Set F) (x y : F.Member) → s.has x ≡ true → t.has y ≡ true →
      (equal ≡ true → x ≡ y) → (image_two {G = G} f equal s t).has (f x y) ≡ true
  unfolding image_two
  two_has f equal s t x y a b e =
      choosing_has t (λ y. image_one (λ x. f x y) (choices equal s y)) y (f x y) b
      (one_has (λ x. f x y) (choices equal s y) x (choice_has equal s x y a e))

  -- and each member of the image is the result of a choice
  pub one_from : {P : Type 0} (f : F.Member → G.Member) (s : Set F) (v : G.Member) → (image_one {G = G} f s).has v ≡ true →
      ((x : F.Member) → s.has x ≡ true → f x ≡ v → P) → P
  unfolding image_one
  one_from f s v e k = choosing_from s (λ x. single (f x)) v e (λ x a r. k x a (single_is G (f x) v r))

  pub two_from : {P : Type 0} (f : F.Member → F.Member → G.Member) (equal : Bool) (s t : Set F) (v : G.Member) →
      (image_two {G = G} f equal s t).has v ≡ true →
      ((x y : F.Member) → (choices equal s y).has x ≡ true → t.has y ≡ true → f x y ≡ v → P) → P
  unfolding image_two
  two_from f equal s t v e k =
      choosing_from t (λ y. image_one (λ x. f x y) (choices equal s y)) v e
      (λ y b r. one_from (λ x. f x y) (choices equal s y) v r (λ x a q. k x y a b q))

  -- fewer choices have no other result
  pub one_within : (f : F.Member → G.Member) (s t : Set F) → Within s t → Within (image_one {G = G} f s) (image_one f t)
  unfolding image_one
  one_within f s t a = choosing_within s t (λ x. single (f x)) (λ x. single (f x)) a (λ x m v e. e)

  pub two_within : (f : F.Member → F.Member → G.Member) (equal other : Bool) (s t p q : Set F) → Fewer equal other s t →
      Within s p → Within t q → Within (image_two {G = G} f equal s t) (image_two f other p q)
  unfolding image_two
  two_within f equal other s t p q few a b =
      choosing_within t q (λ y. image_one (λ x. f x y) (choices equal s y)) (λ y. image_one (λ x. f x y) (choices other p y)) b
      (λ y m. one_within (λ x. f x y) (choices equal s y) (choices other p y) (choice_within equal other s t p y few a m))

-- one choice has one result
pub one_single : (F G : Finite) (f : F.Member → G.Member) (x : F.Member) → image_one f (single {F = F} x) ≡ single {F = G} (f x)
unfolding image_one
one_single F G f x = choosing_single F x (λ x. single (f x))

pub two_single : (F G : Finite) (f : F.Member → F.Member → G.Member) (equal : Bool) (x y : F.Member) → (equal ≡ true → x ≡ y) →
    image_two f equal (single {F = F} x) (single y) ≡ single {F = G} (f x y)
unfolding image_two
two_single F G f equal x y e =
    choosing_single F y (λ y. image_one (λ x. f x y) (choices equal (single x) y))
    ∙ ap (image_one (λ x. f x y)) (choice_single equal x y e) ∙ one_single F G (λ x. f x y) x

-- one choice that serves both is one choice
pub two_itself : {F : Finite} (G : Finite) (f : F.Member → F.Member → G.Member) (s t : Set F) →
    image_two {G = G} f true s t ≡ image_one (λ x. f x x) t
unfolding image_one image_two
two_itself {F} G f s t = ap (choosing t) (fun_ext (λ y. one_single F G (λ x. f x y) y))

-- one result for every choice, and each choice its own result
pub one_result : {F : Finite} (G : Finite) (f : F.Member → G.Member) (v : G.Member) → ((x : F.Member) → f x ≡ v) → (s : Set F) (x : F.Member) →
    s.has x ≡ true → image_one f s ≡ single {F = G} v
one_result G f v all s x a =
    each_within (image_one f s) (single v)
    (λ w e. one_from G f s w e (λ y b q. rw (sym q ∙ all y) (single_has G v)))
    (λ w e. let q = single_is G v w e in rw (sym q ∙ sym (all x)) (one_has G f s x a))

pub own_result : (F : Finite) (f : F.Member → F.Member) → ((x : F.Member) → f x ≡ x) → (s : Set F) → image_one {G = F} f s ≡ s
own_result F f own s =
    each_within (image_one f s) s
    (λ v e. one_from F f s v e (λ x a q. rw (sym q ∙ own x) a))
    (λ v e. rw (← own v) (one_has F f s v e))

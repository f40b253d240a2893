-- Sets over a finite type: what remains possible where facts are missing, of decisions and of truths alike (01, "Missing facts").
use Rattle.std.specs.Prelude.{ℕ, ◌+◌, ◌*◌, ◌≡◌, refl, Bool, true, false, cond, ◌&&◌, ◌||◌, eqb}
use mathlib.Core.List.{List, [], ◌∷◌, foldr}
use Rattle.std.proofs.Math.Option.{some}
use Rattle.std.proofs.Math.ListN.{get_elem?}
use Rattle.belnap.specs.declared.Decision.{Decision}
use Rattle.belnap.specs.declared.Decision.TheVariants.{U, D, G, C}
use Rattle.belnap.specs.Decisions.{code, every_decision}
use Rattle.decide.specs.Meaning.{bit}

-- a finite type: its members in order, and the place of each among them, where it stands
pub record Finite : Type 1 where
  pub Member : Type 0
  pub members : List Member
  pub place : Member → ℕ
  pub there : (x : Member) → get_elem? members (place x) ≡ some x

-- the decisions in the order of their codes; "true and false"
abbrev pub decisions : Finite
decisions = record { Member = Decision; members = every_decision; place = code; there = elim [ U ↦ refl | D ↦ refl | G ↦ refl | C ↦ refl ] }

abbrev pub truths : Finite
truths = record { Member = Bool; members = true ∷ false ∷ []; place = λ b. cond b 0 1; there = elim [ true ↦ refl | false ↦ refl ] }

-- which of the members are possible
pub record Set (F : Finite) : Type 0 where
  pub has : F.Member → Bool

-- each member of the first is one of the second
abbrev pub Within : {F : Finite} → Set F → Set F → Type 0
Within {F} s t = (v : F.Member) → s.has v ≡ true → t.has v ≡ true

-- "its one decision"; "u and its own"
abbrev pub single : {F : Finite} → F.Member → Set F
single {F} x = record { has = λ v. eqb (F.place x) (F.place v) }

abbrev pub either : {F : Finite} → Set F → Set F → Set F
either s t = record { has = λ v. s.has v || t.has v }

-- whether any member passes a test
abbrev pub any : (F : Finite) → (F.Member → Bool) → Bool
any F p = foldr (λ x later. p x || later) false F.members

-- what some choice from a set leads to
unfoldable pub choosing : {F G : Finite} → Set F → (F.Member → Set G) → Set G
choosing {F} s leads = record { has = λ v. any F (λ x. s.has x && (leads x).has v) }

-- Which choices there are: "each operand chosen independently" (01), from its own set; but "where both numbers in a body are equal, one choice must serve
-- both, in rows and in questions alike" (02, L3). What may be chosen for the first of two operands, with the set s, where y is chosen for the second.
abbrev pub choices : {F : Finite} → Bool → Set F → F.Member → Set F
choices equal s y = cond equal (single y) s

-- "An operator's set is every result over every choice from its operands' sets. A question's set, of true and false, is formed alike": an order, "not" and
-- "both" are operators too. Two operands are given with whether their numbers are equal.
unfoldable pub image_one : {F G : Finite} → (F.Member → G.Member) → Set F → Set G
image_one f s = choosing s (λ x. single (f x))

unfoldable pub image_two : {F G : Finite} → (F.Member → F.Member → G.Member) → Bool → Set F → Set F → Set G
image_two f equal s t = choosing t (λ y. image_one (λ x. f x y) (choices equal s y))

-- "a mask in which u counts 1, d 2, g 4, c 8": the first member counts 1, each other twice what the one before it counts; so true counts 1, false 2
unfoldable pub mask : (F : Finite) → Set F → ℕ
mask F s = foldr (λ x later. cond (s.has x) 1 0 + 2 * later) 0 F.members

-- the set that a number is the mask of; only as many low bits count as there are members
unfoldable pub of_mask : (F : Finite) → ℕ → Set F
of_mask F n = record { has = λ x. bit n (F.place x) }

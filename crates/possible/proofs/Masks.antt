-- Masks go both ways: each set is the one with its mask, and only as many low bits of a number that is taken for a mask count as there are members.
-- A member is there exactly if the bit at its place is set.
-- Assumes nothing.
use Prim.Native.Nat.{ℕ, zero, suc, ◌+◌, ◌*◌, ◌/◌, ◌%◌, ◌^◌, ◌<◌}
use mathlib.Core.Path.{◌≡◌, refl, ap, ◌∙◌}
use mathlib.Core.Bool.{Bool, true, false, cond}
use mathlib.Core.List.{List, [], ◌∷◌, foldr}
use mathlib.Core.Option.{some}
use native.Mathlib.Nat.{two-pow-succ}
use native.Mathlib.Omega.{arith}
use lib.ListN.{length, get_elem?}
use lib.Dec.{eqb}
use Rattle.belnap.specs.declared.Decision.{Decision}
use Rattle.belnap.specs.declared.Decision.TheVariants.{U, D, G, C}
use Rattle.belnap.specs.Decisions.{code}
use Rattle.decide.specs.Meaning.{bit}
use Rattle.possible.specs.Sets.{Finite, decisions, Set, single, mask, of_mask}
use Rattle.possible.proofs.Bits.{bit_zero, bit_suc, bit_low}
use Rattle.possible.proofs.Images.{none_stands, same_set}

-- a mask by its lowest bit and the rest of it
abbrev onto : Bool → ℕ → ℕ
onto b later = cond b 1 0 + 2 * later

low_bit : (b : Bool) (later : ℕ) → bit (onto b later) 0 ≡ b
low_bit b later = bit_zero (onto b later) ∙ at b
  where
    at : (b : Bool) → eqb (onto b later % 2) 1 ≡ b
    at true = let q : (1 + 2 * later) % 2 ≡ 1 = omega arith in rw q
    at false = let q : (0 + 2 * later) % 2 ≡ 0 = omega arith in rw q

high_bits : (b : Bool) (later : ℕ) → onto b later / 2 ≡ later
high_bits true later = omega arith
high_bits false later = omega arith

-- over a list of members: its bits, and how large it is
module _ {A : Type 0} (has : A → Bool) where
  abbrev masked : List A → ℕ
  masked l = foldr (λ x later. onto (has x) later) 0 l

  bit_listed : (l : List A) (i : ℕ) {x : A} → get_elem? l i ≡ some x → bit (masked l) i ≡ has x
  bit_listed [] i at = none_stands at
  bit_listed (y ∷ l) zero at = low_bit (has y) (masked l) ∙ ap has (cc)
  bit_listed (y ∷ l) (suc i) at = bit_suc (masked (y ∷ l)) i ∙ rw (high_bits (has y) (masked l)) (bit_listed l i at)

  masked_below : (l : List A) → masked l < 2 ^ length l
  masked_below [] = omega arith
  masked_below (x ∷ l) = rw (two-pow-succ (length l)) (at (has x) (masked_below l))
    where
      at : (b : Bool) → masked l < 2 ^ length l → onto b (masked l) < 2 ^ length l + 2 ^ length l
      at true h = omega arith
      at false h = omega arith

place_below : {A : Type 0} (l : List A) (i : ℕ) {x : A} → get_elem? l i ≡ some x → i < length l
place_below [] i at = none_stands at
place_below (y ∷ l) zero at = omega arith
place_below (y ∷ l) (suc i) at = let h = place_below l i at in omega arith

module _ (F : Finite) where
  pub member_bit : (s : Set F) (v : F.Member) → bit (mask F s) (F.place v) ≡ s.has v
  unfolding mask
  member_bit s v = bit_listed s.has F.members (F.place v) (F.there v)

  pub of_mask_lem : (s : Set F) → of_mask F (mask F s) ≡ s
  unfolding of_mask
  of_mask_lem s = same_set (of_mask F (mask F s)) s (member_bit s)

  pub mask_below : (s : Set F) → mask F s < 2 ^ length F.members
  unfolding mask
  mask_below s = masked_below s.has F.members

  pub low : (n : ℕ) → of_mask F (n % 2 ^ length F.members) ≡ of_mask F n
  unfolding of_mask
  low n = same_set (of_mask F (n % 2 ^ length F.members)) (of_mask F n)
      (λ v. bit_low n (length F.members) (F.place v) (place_below F.members (F.place v) (F.there v)))

-- a decision counts two to the power of its code
pub single_mask : (v : Decision) → mask decisions (single v) ≡ 2 ^ code v
unfolding mask
single_mask U = refl
single_mask D = refl
single_mask G = refl
single_mask C = refl

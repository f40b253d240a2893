-- What the tables of sets list (src/tables.rt here and in questions), computed from the definition of an image, and the rule of a look-up in them.
-- A look-up is then proved by this rule if antt finds the table to be the computed list.
-- Assumes nothing.
use Prim.Native.Nat.{ℕ, zero, suc, ◌+◌, ◌*◌, ◌/◌, ◌%◌, ◌^◌, ◌≤◌, ◌<◌}
use mathlib.Core.Path.{◌≡◌, refl, ◌∙◌, ap}
use mathlib.Core.List.{List, [], ◌∷◌}
use native.Mathlib.Nat.{le_of_suc-le-suc, div-div-eq-div-mul, lt_of_lt_of_le, mod-lt}
use native.Mathlib.Omega.{arith}
use lib.ListN.{length, get_or}
use lib.Pow.{pow-add, pow_pos, pow_mono}
use Rattle.possible.specs.Sets.{Finite, Set, mask, of_mask}
use Rattle.possible.proofs.Masks.{mask_below, low}

-- a digit of a word in hexadecimal, from the low end; the word with given digits
abbrev pub digit : ℕ → ℕ → ℕ
digit w n = w / 2 ^ (4 * n) % 16

abbrev spelling : ℕ → (ℕ → ℕ) → ℕ
spelling zero f = zero
spelling (suc n) f = f zero + 16 * spelling n (λ k. f (suc k))

spelled : (n : ℕ) (f : ℕ → ℕ) → ((k : ℕ) → f k < 16) → (k : ℕ) → k < n → digit (spelling n f) k ≡ f k
spelled zero f b k h = absurd (omega arith)
spelled (suc n) f b zero h = omega (arith, b zero)
spelled (suc n) f b (suc k) h =
    let place : 4 * suc k ≡ 4 + 4 * k = omega arith in
    let rest : (f zero + 16 * spelling n (λ k. f (suc k))) / 16 ≡ spelling n (λ k. f (suc k)) = omega (arith, b zero) in
    rw (place, pow-add 2 4 (4 * k), ← div-div-eq-div-mul, rest) (spelled n (λ k. f (suc k)) (λ k. b (suc k)) k (le_of_suc-le-suc h))

-- the list with given entries
abbrev listing : ℕ → (ℕ → ℕ) → List ℕ
listing zero f = []
listing (suc n) f = f zero ∷ listing n (λ k. f (suc k))

listed : (n : ℕ) (f : ℕ → ℕ) (k : ℕ) → k < n → get_or (listing n f) k 0 ≡ f k
listed zero f k h = absurd (omega arith)
listed (suc n) f zero h = refl
listed (suc n) f (suc k) h = listed n (λ k. f (suc k)) k (le_of_suc-le-suc h)

-- the word of the images of one operand's sets, and for two operands the list of words, one for each set of the first
abbrev pub word : {F G : Finite} → (Set F → Set G) → ℕ
word {F} {G} f = spelling (2 ^ length F.members) (λ n. mask G (f (of_mask F n)))

abbrev pub words : {F G : Finite} → (Set F → Set F → Set G) → List ℕ
words {F} f = listing (2 ^ length F.members) (λ m. word (f (of_mask F m)))

-- a look-up in them: a mask is a digit where there are at most four members
module _ (F G : Finite) (few : length G.members ≤ 4) where
  pub in_word : (f : Set F → Set G) (n : ℕ) → digit (word f) (n % 2 ^ length F.members) ≡ mask G (f (of_mask F n))
  in_word f n =
      spelled (2 ^ length F.members) (λ n. mask G (f (of_mask F n))) (λ n. lt_of_lt_of_le (mask_below G (f (of_mask F n))) (pow_mono few))
      (n % 2 ^ length F.members) (mod-lt n (pow_pos (length F.members)))
      ∙ ap (λ (s : Set F). mask G (f s)) (low F n)

  pub in_words : (f : Set F → Set F → Set G) (m n : ℕ) →
      digit (get_or (words f) (m % 2 ^ length F.members) 0) (n % 2 ^ length F.members) ≡ mask G (f (of_mask F m) (of_mask F n))
  in_words f m n =
      let size = 2 ^ length F.members in
      ap (λ (w : ℕ). digit w (n % size)) (listed size (λ m. word (f (of_mask F m))) (m % size) (mod-lt m (pow_pos (length F.members))))
      ∙ in_word (f (of_mask F (m % size))) n
      ∙ ap (λ (s : Set F). mask G (f s (of_mask F n))) (low F m)

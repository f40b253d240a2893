-- Bits of a number: the lowest, the others, and those that are left where the number is cut short; which predicates are known where the first k are; and
-- what one fact more does.
-- Assumes nothing.
use mathlib.Core.Path.{◌≡◌, refl, sym, ap, ◌∙◌}
use mathlib.Core.Bool.{true, false}
use Prim.Native.Nat.{ℕ, zero, suc, ◌+◌, ◌-◌, ◌/◌, ◌%◌, ◌^◌, ◌≤◌, ◌<◌}
use native.Mathlib.Omega.{arith}
use native.Mathlib.Nat.{div-one, div-div-eq-div-mul, div-eq_of_lt, pow-succ', pow-le-pow_right, lt_of_lt_of_le, one-le-pow, two-pow-succ}
use lib.Dec.{eqb}
use lib.Pow.{field, mod-mod-pow}
use borrow.Author.Tests.{eqb-false}
use Rattle.belnap.proofs.Finite.{never}
use Rattle.decide.specs.Meaning.{bit}

pub bit_zero : (m : ℕ) → bit m 0 ≡ eqb (m % 2) 1
unfolding bit
bit_zero m = ap (λ (x : ℕ). eqb (x % 2) 1) (div-one m)

pub bit_suc : (m i : ℕ) → bit m (suc i) ≡ bit (m / 2) i
unfolding bit
bit_suc m i = ap (λ (x : ℕ). eqb (x % 2) 1) (ap (λ (x : ℕ). m / x) (pow-succ' 2 i) ∙ sym (div-div-eq-div-mul m 2 (2 ^ i)))

-- the k low bits of a number are those of what is left of it below 2^k
pub bit_low : (m k i : ℕ) → i < k → bit (m % 2 ^ k) i ≡ bit m i
unfolding bit
bit_low m k i h =
    let above = k - (i + 1) in
    let q : k ≡ (above + 1) + i = omega arith in
    rw q (ap (λ (x : ℕ). eqb (x % 2) 1) (field m (above + 1) i) ∙ ap (λ (x : ℕ). eqb x 1) (mod-mod-pow (m / 2 ^ i) above 1))

-- facts on predicates below k say no of every other
pub bit_above : (m k i : ℕ) → m < 2 ^ k → k ≤ i → bit m i ≡ false
unfolding bit
bit_above m k i h l = ap (λ (x : ℕ). eqb (x % 2) 1) (div-eq_of_lt (lt_of_lt_of_le h (pow-le-pow_right (omega arith) l)))

-- with predicates 0 to k-1 known, just those are
pub bit_known : (k i : ℕ) → i < k → bit (2 ^ k - 1) i ≡ true
bit_known zero i h = absurd (omega arith)
bit_known (suc k) zero h =
    let p : 1 ≤ 2 ^ k = one-le-pow k 2 (omega arith) in
    let q : (2 ^ suc k - 1) % 2 ≡ 1 = rw (two-pow-succ k) (omega arith) in
    bit_zero (2 ^ suc k - 1) ∙ ap (λ (x : ℕ). eqb x 1) q
bit_known (suc k) (suc i) h =
    let p : 1 ≤ 2 ^ k = one-le-pow k 2 (omega arith) in
    let q : (2 ^ suc k - 1) / 2 ≡ 2 ^ k - 1 = rw (two-pow-succ k) (omega arith) in
    bit_suc (2 ^ suc k - 1) i ∙ ap (λ (x : ℕ). bit x i) q ∙ bit_known k i (omega arith)

-- an even number, by its lowest bit
even : (m : ℕ) → bit m 0 ≡ false → m % 2 ≡ 0
even m e = let odd = eqb-false (m % 2) 1 (sym (bit_zero m) ∙ e) in omega (arith, odd)

-- one fact more, predicate p yes: that bit is set, and every other stays
pub bit_set : (m p : ℕ) → bit m p ≡ false → bit (m + 2 ^ p) p ≡ true
bit_set m zero e =
    let q : (m + 2 ^ 0) % 2 ≡ 1 = omega (arith, even m e) in
    bit_zero (m + 2 ^ 0) ∙ ap (λ (x : ℕ). eqb x 1) q
bit_set m (suc p) e =
    let q : (m + 2 ^ suc p) / 2 ≡ m / 2 + 2 ^ p = rw (two-pow-succ p) (omega arith) in
    bit_suc (m + 2 ^ suc p) p ∙ ap (λ (x : ℕ). bit x p) q ∙ bit_set (m / 2) p (sym (bit_suc m p) ∙ e)

pub bit_else : (m p i : ℕ) → bit m p ≡ false → (i ≡ p → ⊥) → bit (m + 2 ^ p) i ≡ bit m i
bit_else m zero zero e h = absurd (h refl)
bit_else m zero (suc i) e h =
    let q : (m + 2 ^ 0) / 2 ≡ m / 2 = omega (arith, even m e) in
    bit_suc (m + 2 ^ 0) i ∙ ap (λ (x : ℕ). bit x i) q ∙ sym (bit_suc m i)
bit_else m (suc p) zero e h =
    let q : (m + 2 ^ suc p) % 2 ≡ m % 2 = rw (two-pow-succ p) (omega arith) in
    bit_zero (m + 2 ^ suc p) ∙ ap (λ (x : ℕ). eqb x 1) q ∙ sym (bit_zero m)
bit_else m (suc p) (suc i) e h =
    let q : (m + 2 ^ suc p) / 2 ≡ m / 2 + 2 ^ p = rw (two-pow-succ p) (omega arith) in
    bit_suc (m + 2 ^ suc p) i ∙ ap (λ (x : ℕ). bit x i) q ∙ bit_else (m / 2) p i (sym (bit_suc m p) ∙ e) (λ s. h (ap suc s)) ∙ sym (bit_suc m i)

-- a number without bits is 0, and one without bits from n up lies below 2^n
no_bits : (most m : ℕ) → m ≤ most → ((i : ℕ) → bit m i ≡ false) → m ≡ 0
no_bits zero m l h = omega arith
no_bits (suc most) zero l h = refl
no_bits (suc most) (suc m) l h =
    let half = no_bits most (suc m / 2) (omega arith) (λ i. sym (bit_suc (suc m) i) ∙ h (suc i)) in
    omega (arith, half, even (suc m) (h 0))

pub bits_below : (n m : ℕ) → ((i : ℕ) → n ≤ i → bit m i ≡ false) → m < 2 ^ n
bits_below zero m h = let z = no_bits m m (omega arith) (λ i. h i (omega arith)) in omega (arith, z)
bits_below (suc n) m h =
    let half = bits_below n (m / 2) (λ i l. sym (bit_suc m i) ∙ h (suc i) (omega arith)) in
    omega (arith, half, two-pow-succ n)

-- two numbers below 2^n with the same n bits are equal
pub same_bits : (n m o : ℕ) → m < 2 ^ n → o < 2 ^ n → ((i : ℕ) → i < n → bit m i ≡ bit o i) → m ≡ o
same_bits zero m o h k e = omega arith
same_bits (suc n) m o h k e =
    let halves : m / 2 ≡ o / 2 =
    same_bits n (m / 2) (o / 2) (omega (arith, two-pow-succ n)) (omega (arith, two-pow-succ n))
    (λ i l. sym (bit_suc m i) ∙ e (suc i) (omega arith) ∙ bit_suc o i) in
    let lowest : m % 2 ≡ o % 2 = low (m % 2) (o % 2) (omega arith) (omega arith) (sym (bit_zero m) ∙ e 0 (omega arith) ∙ bit_zero o) in
    omega (arith, halves, lowest)
  where
    low : (x y : ℕ) → x < 2 → y < 2 → eqb x 1 ≡ eqb y 1 → x ≡ y
    low zero zero h k e = refl
    low zero (suc zero) h k e = never (sym e)
    low (suc zero) zero h k e = never e
    low (suc zero) (suc zero) h k e = refl
    low (suc (suc x)) y h k e = absurd (omega arith)
    low zero (suc (suc y)) h k e = absurd (omega arith)
    low (suc zero) (suc (suc y)) h k e = absurd (omega arith)

-- Powers of two that a mask with a bit for each predicate holds.
-- Assumes nothing.
use mathlib.Core.Path.{◌≡◌, ap, ◌∙◌}
use Prim.Native.Nat.{ℕ, ◌≤◌, ◌+◌, ◌-◌, ◌*◌, ◌%◌, ◌^◌}
use native.Mathlib.Omega.{arith}
use native.Mathlib.Numerals.{add-one}
use Rattle.table.specs.Steps.{predicate_limit}
use native.Mathlib.Nat.{pow-le-pow_right, one-le-pow, mod-eq_of_lt, one-mul, two-pow-succ}

pub power_positive : (k : ℕ) → 1 ≤ 2 ^ k
power_positive k = one-le-pow k 2 (omega arith)

pub power_twice : (k : ℕ) → 2 ^ (k + 1) ≡ 2 ^ k + 2 ^ k
power_twice k = rw (add-one k) (two-pow-succ k)

-- predicates 0 to k-1 known, and predicate k too
pub known_more : (k : ℕ) → 2 ^ k - 1 + 2 ^ k ≡ 2 ^ (k + 1) - 1
known_more k = omega (arith, power_twice k, power_positive k)

-- a one shifted by a predicate's number
pub power_small : (k : ℕ) → k ≤ predicate_limit → 2 ^ k ≤ 2 ^ predicate_limit
power_small k h = pow-le-pow_right (omega arith) h

pub power_shifted : (k : ℕ) → k ≤ predicate_limit → 1 * 2 ^ k % 4294967296 ≡ 2 ^ k
power_shifted k h = ap (λ (n : ℕ). n % 4294967296) (one-mul (2 ^ k)) ∙ mod-eq_of_lt (omega (arith, power_small k h))

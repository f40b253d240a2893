-- The loop that looks whether each predicate that is yes is known.
-- Assumes nothing.
use mathlib.Core.Path.{◌≡◌, refl, sym}
use mathlib.Core.Bool.{Bool, true, false, not, ◌&&◌, and-false}
use Prim.Native.Nat.{ℕ, zero, suc, ◌+◌, ◌<◌}
use native.Mathlib.Omega.{arith}
use native.Mathlib.Numerals.{add-one}
use Rattle.belnap.proofs.Finite.{never}
use Rattle.belnap.specs.Orders.{only_if}
use Rattle.entries.proofs.Numbers.{by_order}
use Rattle.decide.specs.Meaning.{bit}
use Rattle.pierstride.specs.Masks.{known_below}

-- yes without known
unknown_yes : (y k : Bool) → (y && not k) ≡ true → only_if y k ≡ false
unknown_yes true true e = sym e
unknown_yes true false e = refl
unknown_yes false k e = never cc

known_yes : (y k : Bool) → (y && not k) ≡ false → only_if y k ≡ true
known_yes true true e = refl
known_yes true false e = sym e
known_yes false k e = refl

module _ (known request : ℕ) where
  pub known_more : (i : ℕ) → known_below i known request ≡ true → (bit request i && not (bit known i)) ≡ false →
      known_below (i + 1) known request ≡ true
  unfolding known_below
  known_more i h e = rw (add-one i, h) (known_yes (bit request i) (bit known i) e)

  -- one that is not known is not known among more
  pub known_never : (i n : ℕ) → (bit request i && not (bit known i)) ≡ true → i < n → known_below n known request ≡ false
  unfolding known_below
  known_never i zero e l = absurd (omega arith)
  known_never i (suc n) e l =
      let ih = known_never i n e in
      by_order i n (λ h. rw (ih h)) (λ h. let q : n ≡ i = omega arith in rw (q, unknown_yes (bit request i) (bit known i) e)
      (and-false (known_below i known request)))

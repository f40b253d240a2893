-- An assignment cut to the first n variables: the request lies below 2^n, and its bits are what the assignment says.
-- Assumes nothing.
use mathlib.Core.Path.{◌≡◌, refl, sym, ◌∙◌}
use mathlib.Core.Bool.{Bool, true, false, cond}
use Prim.Native.Nat.{ℕ, zero, suc, ◌+◌, ◌^◌, ◌<◌}
use native.Mathlib.Omega.{arith}
use native.Mathlib.Nat.{two-pow-succ}
use Rattle.entries.proofs.Numbers.{by_equal}
use Rattle.decide.specs.Meaning.{bit}
use Rattle.possible.proofs.Bits.{bit_above, bit_set, bit_else, same_bits}
use Rattle.clauses.specs.Clauses.{cut}

module _ (A : ℕ → Bool) where
  pub cut_below : (n : ℕ) → cut n A < 2 ^ n
  unfolding cut
  cut_below zero = omega arith
  cut_below (suc p) = go (A (suc p)) (cut_below p)
    where
      go : (said : Bool) → cut p A < 2 ^ p → cut p A + cond said (2 ^ p) 0 < 2 ^ suc p
      go true h = omega (arith, h, two-pow-succ p)
      go false h = omega (arith, h, two-pow-succ p)

  pub cut_bit : (n p : ℕ) → p < n → bit (cut n A) p ≡ A (suc p)
  unfolding cut
  cut_bit zero p h = absurd (omega arith)
  cut_bit (suc n) p h = go (A (suc n)) refl (λ l. cut_bit n p l)
    where
      clear : bit (cut n A) n ≡ false
      clear = bit_above (cut n A) n n (cut_below n) (omega arith)

      go : (said : Bool) → A (suc n) ≡ said → (p < n → bit (cut n A) p ≡ A (suc p)) → bit (cut n A + cond said (2 ^ n) 0) p ≡ A (suc p)
      go true e on = by_equal p n (λ q. rw q (bit_set (cut n A) n clear ∙ sym e)) (λ d. bit_else (cut n A) n p clear d ∙ on (omega (arith, d)))
      go false e on =
          let same : cut n A + 0 ≡ cut n A = omega arith in
          rw same (by_equal p n (λ q. rw q (clear ∙ sym e)) (λ d. on (omega (arith, d))))

  -- a request below 2^n whose bits are what the assignment says
  pub cut_is : (n m : ℕ) → m < 2 ^ n → ((p : ℕ) → p < n → A (suc p) ≡ bit m p) → cut n A ≡ m
  cut_is n m h e = same_bits n (cut n A) m (cut_below n) h (λ p l. cut_bit n p l ∙ e p l)

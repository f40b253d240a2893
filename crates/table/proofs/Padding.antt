-- A list in an array that is longer: what stands where, and one element more.
-- Assumes nothing.
use mathlib.Core.Path.{◌≡◌, refl, sym, ap, ◌∙◌}
use mathlib.Core.List.{List, [], ◌∷◌, ◌++◌, append_assoc}
use Prim.Native.Nat.{ℕ, zero, suc, ◌-◌, ◌≤◌, ◌<◌}
use native.Mathlib.Omega.{arith}
use lib.ListN.{length, get_or, take, set, replicate, length-append, length-replicate}
use lib.Seq.{set_at, take-append-le}
use Rattle.table.specs.Reading.{padded}

module _ {A : Type 0} (z : A) where
  pub padded_length : (n : ℕ) (l : List A) → length l ≤ n → length (padded z n l) ≡ n
  padded_length n l h = length-append l (replicate (n - length l) z) ∙ omega (arith, length-replicate (n - length l) z)

  pub padded_front : (n : ℕ) (l : List A) (i : ℕ) → i ≤ length l → take i (padded z n l) ≡ take i l
  padded_front n l i h = take-append-le i l (replicate (n - length l) z) h

  -- at every place the array shows what the list shows, where z stands past the list's end
  behind : (l : List A) (m i : ℕ) → get_or (l ++ replicate m z) i z ≡ get_or l i z
  behind [] zero i = refl
  behind [] (suc m) zero = refl
  behind [] (suc m) (suc i) = behind [] m i
  behind (x ∷ l) m zero = refl
  behind (x ∷ l) m (suc i) = behind l m i

  pub padded_at : (n : ℕ) (l : List A) (i : ℕ) → get_or (padded z n l) i z ≡ get_or l i z
  padded_at n l i = behind l (n - length l) i

  pub padded_more : (n : ℕ) (l : List A) (x : A) → length l < n → set (padded z n l) (length l) x ≡ padded z n (l ++ (x ∷ []))
  padded_more n l x h =
      let m : n - length l ≡ suc (n - length (l ++ (x ∷ []))) = omega (arith, length-append l (x ∷ [])) in
      rw m (set_at l z (replicate (n - length (l ++ (x ∷ []))) z) x (length l) refl
      ∙ sym (append_assoc l (x ∷ []) (replicate (n - length (l ++ (x ∷ []))) z)))

  -- the same at a number that is the list's length
  pub padded_next : (n : ℕ) (l : List A) (x : A) (at : ℕ) → length l ≡ at → at < n → set (padded z n l) at x ≡ padded z n (l ++ (x ∷ []))
  padded_next n l x at m h = ap (λ (i : ℕ). set (padded z n l) i x) (sym m) ∙ padded_more n l x (rw m h)

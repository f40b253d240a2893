-- Bytes stored one after the other into a list.
-- Assumes nothing.
use mathlib.Core.Path.{◌≡◌}
use mathlib.Core.List.{List, [], ◌∷◌, ◌++◌}
use Prim.Native.Nat.{ℕ, suc, ◌+◌, ◌<◌}
use native.Mathlib.Omega.{arith}
use lib.ListN.{length, get_or, take, set}
use lib.Seq.{sets, length-take-le}
use Rattle.std.proofs.lemmas.List.{take_more}

-- some bytes, and others behind them
pub sets_append : (xs ys l : List ℕ) (i : ℕ) → sets l i (xs ++ ys) ≡ sets (sets l i xs) (i + length xs) ys
sets_append [] ys l i = let q : i + 0 ≡ i = omega arith in rw q
sets_append (x ∷ xs) ys l i = let q : i + suc (length xs) ≡ suc i + length xs = omega arith in rw q (sets_append xs ys (set l i x) (suc i))

-- from the front on, one more of a list's
pub sets_more : (xs l : List ℕ) (i : ℕ) → i < length xs → sets l 0 (take (i + 1) xs) ≡ set (sets l 0 (take i xs)) i (get_or xs i 0)
sets_more xs l i h =
    let q : 0 + length (take i xs) ≡ i = omega (arith, length-take-le i xs (omega arith)) in
    rw (take_more xs i 0 h) (rw q at (sets_append (take i xs) (get_or xs i 0 ∷ []) l 0))

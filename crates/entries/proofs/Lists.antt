-- Whether some element of a list is so: by its parts, and element by element as a loop looks for one. Whether every one is: by its parts.
-- Assumes nothing.
use mathlib.Core.Path.{◌≡◌, refl, ap, ap₂, ◌∙◌}
use mathlib.Core.Bool.{Bool, true, false, ◌&&◌, ◌||◌}
use mathlib.Core.List.{List, [], ◌∷◌, ◌++◌}
use Prim.Native.Nat.{ℕ, zero, suc, ◌<◌}
use native.Mathlib.Omega.{arith}
use lib.ListN.{length, get_or}
use Rattle.belnap.proofs.Finite.{or_left, or_right, neither}
use Rattle.entries.specs.Lists.{some, every}

module _ {A : Type 0} (is : A → Bool) where
  -- where no element is so, none at a place is; where one is, some one is
  pub none_at : (l : List A) (d : A) → some is l ≡ false → (i : ℕ) → i < length l → is (get_or l i d) ≡ false
  none_at [] d h i k = absurd (omega arith)
  none_at (x ∷ l) d h zero k = (neither (is x) (some is l) h).0
  none_at (x ∷ l) d h (suc i) k = none_at l d (neither (is x) (some is l) h).1 i (omega arith)

  pub some_at : (l : List A) (d : A) (i : ℕ) → i < length l → is (get_or l i d) ≡ true → some is l ≡ true
  some_at [] d i k h = absurd (omega arith)
  some_at (x ∷ l) d zero k h = or_left (is x) (some is l) h
  some_at (x ∷ l) d (suc i) k h = or_right (is x) (some is l) (some_at l d i (omega arith) h)

  pub nowhere : (l : List A) (d : A) → ((i : ℕ) → i < length l → is (get_or l i d) ≡ false) → some is l ≡ false
  nowhere [] d h = refl
  nowhere (x ∷ l) d h = ap₂ ◌||◌ (h 0 (omega arith)) (nowhere l d (λ i k. h (suc i) (omega arith)))

  -- lists one behind the other
  pub some_append : (l m : List A) → some is (l ++ m) ≡ (some is l || some is m)
  some_append [] m = refl
  some_append (x ∷ l) m = ap (λ (p : Bool). is x || p) (some_append l m) ∙ assoc (is x) (some is l) (some is m)
    where
      assoc : (p q r : Bool) → (p || (q || r)) ≡ ((p || q) || r)
      assoc true q r = refl
      assoc false q r = refl

  pub none_append : (l m : List A) → some is l ≡ false → some is (l ++ m) ≡ some is m
  none_append l m h = some_append l m ∙ ap (λ (p : Bool). p || some is m) h

  pub every_append : (l m : List A) → every is (l ++ m) ≡ (every is l && every is m)
  every_append [] m = refl
  every_append (x ∷ l) m = ap (λ (p : Bool). is x && p) (every_append l m) ∙ assoc (is x) (every is l) (every is m)
    where
      assoc : (p q r : Bool) → (p && (q && r)) ≡ ((p && q) && r)
      assoc true q r = refl
      assoc false q r = refl

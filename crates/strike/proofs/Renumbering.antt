-- The row named under the old number is the row named under the new one (01, "Taking one entry, and striking a row").
-- Assumes nothing.
use mathlib.Core.Path.{◌≡◌, refl, sym, ap, ◌∙◌}
use mathlib.Core.List.{List, [], ◌∷◌, ◌++◌}
use Prim.Native.Nat.{ℕ, zero, suc, ◌-◌, ◌≤◌, ◌<◌}
use native.Mathlib.Omega.{arith}
use lib.ListN.{length, get_or}
use borrow.Author.Tests.{lt-ltb, le-ltb}
use Rattle.entries.proofs.Numbers.{by_order}
use Rattle.strike.specs.Strike.{lower, old, without}

-- the two sides of r
pub lower_above : (r x : ℕ) → r < x → lower r x ≡ x - 1
unfolding lower
lower_above r x h = rw (lt-ltb r x h)

pub lower_below : (r x : ℕ) → x ≤ r → lower r x ≡ x
unfolding lower
lower_below r x h = rw (le-ltb r x h)

pub old_below : (r j : ℕ) → j < r → old r j ≡ j
unfolding old
old_below r j h = rw (lt-ltb j r h)

pub old_above : (r j : ℕ) → r ≤ j → old r j ≡ suc j
unfolding old
old_above r j h = rw (le-ltb j r h)

-- lowering undone
pub old_lower : (r x : ℕ) → (x ≡ r → ⊥) → old r (lower r x) ≡ x
old_lower r x h =
    by_order r x
    (λ l. rw (lower_above r x l, old_above r (x - 1) (omega arith)) (omega arith))
    (λ l. rw (lower_below r x l) (old_below r x (omega (arith, h))))

-- two rows that are left have one new number only if they are one row
pub lower_apart : (r x y : ℕ) → (x ≡ r → ⊥) → (y ≡ r → ⊥) → lower r x ≡ lower r y → x ≡ y
lower_apart r x y h k e = sym (old_lower r x h) ∙ ap (old r) e ∙ old_lower r y k

-- a lower row is lower under its new number
pub lower_lt : (r x j : ℕ) → (x ≡ r → ⊥) → x < old r j → lower r x < j
lower_lt r x j h l =
    by_order j r
    (λ s. rw (lower_below r x (omega (arith, old_below r j s))) (omega (arith, old_below r j s)))
    (λ s. by_order r x
    (λ t. rw (lower_above r x t) (omega (arith, old_above r j s)))
    (λ t. rw (lower_below r x t) (omega (arith, h))))

pub lower_still : (r x i : ℕ) → (x ≡ r → ⊥) → (i ≡ r → ⊥) → x < i → lower r x < lower r i
lower_still r x i h k l = lower_lt r x (lower r i) h (rw (old_lower r i k) l)

-- the old number of a row that is left is that of a row
pub old_lt : (r j n : ℕ) → r ≤ n → j < n → old r j < suc n
old_lt r j n h l = by_order j r (λ s. rw (old_below r j s) (omega arith)) (λ s. rw (old_above r j s) (omega arith))

old_suc : (r j : ℕ) → old (suc r) (suc j) ≡ suc (old r j)
old_suc r j =
    by_order j r
    (λ l. rw (old_below r j l) (old_below (suc r) (suc j) (omega arith)))
    (λ l. rw (old_above r j l) (old_above (suc r) (suc j) (omega arith)))

-- what stands at j without the element at r
pub without_at : {A : Type 0} (r : ℕ) (l : List A) (j : ℕ) (d : A) → get_or (without r l) j d ≡ get_or l (old r j) d
unfolding without
without_at r [] j d = refl
without_at zero (x ∷ l) j d = sym (ap (λ (i : ℕ). get_or (x ∷ l) i d) (old_above 0 j (omega arith)))
without_at (suc r) (x ∷ l) zero d = sym (ap (λ (i : ℕ). get_or (x ∷ l) i d) (old_below (suc r) 0 (omega arith)))
without_at (suc r) (x ∷ l) (suc j) d = without_at r l j d ∙ sym (ap (λ (i : ℕ). get_or (x ∷ l) i d) (old_suc r j))

-- one element fewer
pub length_without : {A : Type 0} (r : ℕ) (l : List A) → r < length l → suc (length (without r l)) ≡ length l
unfolding without
length_without r [] h = absurd (omega arith)
length_without zero (x ∷ l) h = refl
length_without (suc r) (x ∷ l) h = ap suc (length_without r l (omega arith))

-- one element more behind a list, which may be the one at r, and some more
pub without_own : {A : Type 0} (r : ℕ) (l : List A) (x : A) → length l ≡ r → without r (l ++ (x ∷ [])) ≡ without r l
unfolding without
without_own zero [] x q = refl
without_own (suc r) [] x q = absurd (omega arith)
without_own zero (y ∷ l) x q = absurd (omega arith)
without_own {A} (suc r) (y ∷ l) x q = ap (λ (l : List A). y ∷ l) (without_own r l x (omega arith))

pub without_more : {A : Type 0} (r : ℕ) (l : List A) (x : A) → (length l ≡ r → ⊥) → without r (l ++ (x ∷ [])) ≡ without r l ++ (x ∷ [])
unfolding without
without_more zero [] x d = absurd (d refl)
without_more (suc r) [] x d = refl
without_more zero (y ∷ l) x d = refl
without_more {A} (suc r) (y ∷ l) x d = ap (λ (l : List A). y ∷ l) (without_more r l x (λ q. d (ap suc q)))

pub without_front : {A : Type 0} (r : ℕ) (l m : List A) → (rest : List A) × (without r (l ++ m) ≡ without r l ++ rest)
unfolding without
without_front r [] m = (without r m, refl)
without_front zero (y ∷ l) m = (m, refl)
without_front {A} (suc r) (y ∷ l) m = let h = without_front r l m in (h.0, ap (λ (l : List A). y ∷ l) h.1)

-- lists of one length have one length without it
pub without_long : {A B : Type 0} (r : ℕ) (l : List A) (m : List B) → length l ≡ length m → length (without r l) ≡ length (without r m)
unfolding without
without_long r [] [] q = refl
without_long r [] (y ∷ m) q = absurd (omega arith)
without_long r (x ∷ l) [] q = absurd (omega arith)
without_long zero (x ∷ l) (y ∷ m) q = omega arith
without_long (suc r) (x ∷ l) (y ∷ m) q = ap suc (without_long r l m (omega arith))

-- What stands in a list of numbers: whether some one of them is so, the rows that an entry names, and the numbers that pass a test.
-- Assumes nothing.
use mathlib.Core.Path.{◌≡◌, refl, sym, ap, ap₂, ◌∙◌}
use mathlib.Core.Bool.{Bool, true, false, cond, ◌&&◌, ◌||◌, or-false}
use mathlib.Core.List.{List, [], ◌∷◌}
use Prim.Native.Nat.{ℕ, zero, suc, ◌<◌}
use native.Mathlib.Omega.{arith}
use lib.ListN.{take}
use lib.Dec.{ltb, eqb}
use borrow.Author.Tests.{eqb-true, eq-eqb}
use Rattle.belnap.proofs.Finite.{never, both_parts, or_left, or_right, or_part}
use Rattle.entries.specs.declared.Entry.{Entry}
use Rattle.entries.specs.Lists.{some}
use Rattle.entries.specs.Refusals.{is_among}
use Rattle.entries.specs.Entries.{numbers_of, names_of}
use Rattle.entries.specs.Renaming.{row_numbers, names_row, renamed}
use Rattle.entries.proofs.Lists.{some_append}
use Rattle.entries.proofs.Numbers.{by_order}
use Rattle.entries.proofs.OneEntry.{few}
use Rattle.decide.specs.Reach.{rows_named, passing}

-- a number stands at the front of a list that begins with it
pub at_front : (x : ℕ) (l : List ℕ) → is_among (x ∷ l) x ≡ true
at_front x l = or_left (eqb x x) (is_among l x) (eq-eqb x x refl)

-- some one is so if one that stands there is, and then there is one
pub some_in : (is : ℕ → Bool) (l : List ℕ) (x : ℕ) → is_among l x ≡ true → is x ≡ true → some is l ≡ true
some_in is [] x e h = never (sym e)
some_in is (y ∷ l) x e h =
    or_part (eqb x y) (is_among l x) e
    (λ q. or_left (is y) (some is l) (rw (eqb-true x y q) at h))
    (λ q. or_right (is y) (some is l) (some_in is l x q h))

pub found_in : {P : Type 0} (is : ℕ → Bool) (l : List ℕ) → some is l ≡ true → ((x : ℕ) → is_among l x ≡ true → is x ≡ true → P) → P
found_in is [] e k = never (sym e)
found_in is (y ∷ l) e k =
    or_part (is y) (some is l) e
    (k y (at_front y l))
    (λ e. found_in is l e (λ x q. k x (or_right (eqb x y) (is_among l x) q)))

-- the rows that an entry names, at the first place and at the second
pub named_some : (is : ℕ → Bool) (e : Entry) → some is (rows_named e) ≡ ((names_row 0 e && is e.a) || (names_row 1 e && is e.b))
named_some is e = go (row_numbers (names_of e)) (numbers_of e) (few e.kind)
  where
    go : (rows : Bool) (n : ℕ) → n < 3 →
        some is (cond rows (take n (e.a ∷ e.b ∷ [])) []) ≡ (((rows && ltb 0 n) && is e.a) || ((rows && ltb 1 n) && is e.b))
    go false n h = refl
    go true zero h = refl
    go true (suc zero) h = refl
    go true (suc (suc zero)) h = ap (λ (p : Bool). is e.a || p) (or-false (is e.b))
    go true (suc (suc (suc n))) h = absurd (omega arith)

pub first_named : (e : Entry) → names_row 0 e ≡ true → is_among (rows_named e) e.a ≡ true
first_named e t = named_some (eqb e.a) e ∙ or_left _ _ (ap₂ ◌&&◌ t (eq-eqb e.a e.a refl))

pub second_named : (e : Entry) → names_row 1 e ≡ true → is_among (rows_named e) e.b ≡ true
second_named e t = named_some (eqb e.b) e ∙ or_right (names_row 0 e && eqb e.b e.a) _ (ap₂ ◌&&◌ t (eq-eqb e.b e.b refl))

pub named_by : (P : ℕ → Type 0) (e : Entry) → (names_row 0 e ≡ true → P e.a) → (names_row 1 e ≡ true → P e.b) →
    (x : ℕ) → is_among (rows_named e) x ≡ true → P x
named_by P e f g x h =
    or_part (names_row 0 e && eqb x e.a) (names_row 1 e && eqb x e.b) (sym (named_some (eqb x) e) ∙ h)
    (λ h. let p = both_parts (names_row 0 e) (eqb x e.a) h in rw (eqb-true x e.a p.1) (f p.0))
    (λ h. let p = both_parts (names_row 1 e) (eqb x e.b) h in rw (eqb-true x e.b p.1) (g p.0))

-- under new numbers they are so if they were before
pub named_kept : (new : ℕ → ℕ) (e : Entry) (is was : ℕ → Bool) → (names_row 0 e ≡ true → is (new e.a) ≡ was e.a) →
    (names_row 1 e ≡ true → is (new e.b) ≡ was e.b) → some is (rows_named (renamed new e)) ≡ some was (rows_named e)
named_kept new e is was p q =
    named_some is (renamed new e) ∙ ap₂ ◌||◌ (go (names_row 0 e) e.a p) (go (names_row 1 e) e.b q) ∙ sym (named_some was e)
  where
    go : (named : Bool) (x : ℕ) → (named ≡ true → is (new x) ≡ was x) → (named && is (cond named (new x) x)) ≡ (named && was x)
    go true x h = h refl
    go false x h = refl

-- of the numbers that pass a test, some one is so: one below the last, or the last
pub passing_some : (f : ℕ → Bool) (n : ℕ) (is : ℕ → Bool) → some f (passing (suc n) is) ≡ (some f (passing n is) || (is n && f n))
unfolding passing
passing_some f n is = some_append f (passing n is) (cond (is n) (n ∷ []) []) ∙ ap (λ (p : Bool). some f (passing n is) || p) (last (is n))
  where
    last : (b : Bool) → some f (cond b (n ∷ []) []) ≡ (b && f n)
    last true = or-false (f n)
    last false = refl

-- a number is listed among them if it passes, and passes if it is listed
pub passing_in : (n : ℕ) (is : ℕ → Bool) (x : ℕ) → x < n → is x ≡ true → is_among (passing n is) x ≡ true
passing_in zero is x h e = absurd (omega arith)
passing_in (suc n) is x h e =
    passing_some (eqb x) n is ∙ by_order x n
    (λ l. or_left _ _ (passing_in n is x l e))
    (λ l. let q : x ≡ n = omega arith in or_right (is_among (passing n is) x) _ (ap₂ ◌&&◌ (ap is (sym q) ∙ e) (eq-eqb x n q)))

pub passing_of : (n : ℕ) (is : ℕ → Bool) (x : ℕ) → is_among (passing n is) x ≡ true → (x < n) × (is x ≡ true)
unfolding passing
passing_of zero is x e = never (sym e)
passing_of (suc n) is x e =
    or_part (is_among (passing n is) x) (is n && eqb x n) (sym (passing_some (eqb x) n is) ∙ e)
    (λ e. let h = passing_of n is x e in (omega arith, h.1))
    (λ e.
    let h = both_parts (is n) (eqb x n) e in
    let q = eqb-true x n h.1 in
    (omega arith, ap is q ∙ h.0))

-- Laws of values row by row, over the values' type: what stands at a row's number, one turn of a loop that fills an array,
-- values kept as others, induction over rows, and two kinds of values that go side by side.
-- Assumes nothing.
use mathlib.Core.Path.{◌≡◌, refl, sym, ap, ap₂, ◌∙◌}
use mathlib.Core.Bool.{true}
use mathlib.Core.List.{List, [], ◌∷◌, ◌++◌, map}
use Prim.Native.Nat.{ℕ, zero, suc, ◌+◌, ◌≤◌, ◌<◌}
use native.Mathlib.Omega.{arith}
use native.Mathlib.Numerals.{add-one}
use lib.ListN.{length, get_or, drop, set, length-append, length-map, get_or-append, get_or-eq_default, get_or-map}
use lib.Seq.{get_or_at}
use borrow.Author.Tests.{eqb-true}
use Rattle.std.proofs.lemmas.List.{map-append}
use Rattle.entries.specs.declared.Entry.{Entry}
use Rattle.entries.specs.Entries.{blank, equal_numbers}
use Rattle.table.specs.Reading.{padded}
use Rattle.entries.proofs.Numbers.{by_order}
use Rattle.table.proofs.Padding.{padded_at, padded_next}
use Rattle.decide.specs.Rows.{value_by, values, value_at}

-- a fact of every row, from the same fact of the rows below it
pub by_rows : (P : ℕ → Type 0) → ((r : ℕ) → ((x : ℕ) → x < r → P x) → P r) → (r : ℕ) → P r
by_rows P step r = below (suc r) r (omega arith)
  where
    below : (n x : ℕ) → x < n → P x
    below zero x h = absurd (omega arith)
    below (suc n) x h = step x (λ y l. below n y (omega arith))

module _ {A : Type 0} (f : Entry → A → A → A) (z : A) where
  pub values_length : (es : List Entry) (n : ℕ) → length (values f z es n) ≡ n
  unfolding values
  values_length es zero = refl
  values_length es (suc n) =
      let h = values_length es n in
      length-append (values f z es n) (value_by f z (get_or es n blank) (values f z es n) ∷ []) ∙ omega (arith, h)

  -- what stands at x among the values of the first n entries: the value of entry x, or past the end z
  pub before_there : (es : List Entry) (n x : ℕ) → x < n → get_or (values f z es n) x z ≡ value_at f z es x
  unfolding values value_at
  before_there es zero x h = absurd (omega arith)
  before_there es (suc n) x h =
      let l = values f z es n in
      let v = value_by f z (get_or es n blank) l in
      let m = values_length es n in
      let ih = before_there es n x in
      by_order x n
      (λ k. get_or-append l (v ∷ []) z x (rw m k) ∙ ih k)
      (λ k. let q : x ≡ n = omega arith in rw q (get_or_at l v [] z n m))

  pub before_past : (es : List Entry) (n x : ℕ) → n ≤ x → get_or (values f z es n) x z ≡ z
  before_past es n x h = get_or-eq_default (values f z es n) z (rw (values_length es n) h)

  -- the values of the first n entries come from those entries alone
  pub same_values : (es fs : List Entry) (n : ℕ) → ((i : ℕ) → i < n → get_or es i blank ≡ get_or fs i blank) → values f z es n ≡ values f z fs n
  unfolding values
  same_values es fs zero h = refl
  same_values es fs (suc n) h = let ih = same_values es fs n (λ i l. h i (omega arith)) in rw (ih, h n (omega arith))

  pub same_value : (es fs : List Entry) (i : ℕ) → ((j : ℕ) → j ≤ i → get_or es j blank ≡ get_or fs j blank) →
      value_at f z es i ≡ value_at f z fs i
  unfolding value_at
  same_value es fs i h = rw (same_values es fs i (λ j l. h j (omega arith)), h i (omega arith))

  -- one turn of a loop that fills an array of n places, where a place not yet filled reads z
  pub turn : (es : List Entry) (n i : ℕ) (d : List A) (v : A) → i < n → d ≡ padded z n (values f z es i) →
      v ≡ f (get_or es i blank) (get_or d (get_or es i blank).a z) (get_or d (get_or es i blank).b z) →
      set d i v ≡ padded z n (values f z es (i + 1))
  unfolding values
  turn es n i d v h q e =
      let l = values f z es i in
      let m = values_length es i in
      let w : v ≡ value_by f z (get_or es i blank) l =
      e ∙ ap₂ (f (get_or es i blank)) (ap (λ (d : List A). get_or d (get_or es i blank).a z) q ∙ padded_at z n l (get_or es i blank).a)
      (ap (λ (d : List A). get_or d (get_or es i blank).b z) q ∙ padded_at z n l (get_or es i blank).b) in
      rw (add-one i, q, w) (padded_next z n l (value_by f z (get_or es i blank) l) i m h)

-- values kept as others: where the rule's answer is kept as the other rule's, from what is kept of the two before it
module _ {A B : Type 0} (f : Entry → A → A → A) (z : A) (code : A → B) (g : Entry → B → B → B)
    (h : (e : Entry) (x y : A) → g e (code x) (code y) ≡ code (f e x y)) where
  pub values_coded : (es : List Entry) (n : ℕ) → values g (code z) es n ≡ map code (values f z es n)
  unfolding values
  values_coded es zero = refl
  values_coded es (suc n) =
      let l = values f z es n in
      let e = get_or es n blank in
      rw (values_coded es n, get_or-map code l e.a z, get_or-map code l e.b z, h e (get_or l e.a z) (get_or l e.b z))
      (sym (map-append code l (value_by f z e l ∷ [])))

-- inside a list it does not matter what would stand past its end
pub get_d_any : {A : Type 0} (l : List A) (i : ℕ) (d e : A) → i < length l → get_or l i d ≡ get_or l i e
get_d_any [] i d e h = absurd (omega arith)
get_d_any (x ∷ l) zero d e h = refl
get_d_any (x ∷ l) (suc i) d e h = get_d_any l i d e (omega arith)

-- what stands at a number where values stand in front of what is lent, kept as numbers
module _ {A : Type 0} (f : Entry → A → A → A) (z : A) (code : A → ℕ) (es : List Entry) (i : ℕ) (out₀ out : List ℕ)
    (q : out ≡ map code (values f z es i) ++ drop i out₀) where
  pub coded_get : (x : ℕ) → x < i → get_or out x 0 ≡ code (value_at f z es x)
  coded_get x h =
      let l = map code (values f z es i) in
      let m : x < length l = rw (length-map (values f z es i) code, values_length f z es i) h in
      ap (λ (o : List ℕ). get_or o x 0) q ∙ get_or-append l (drop i out₀) 0 x m ∙ get_d_any l x 0 (code z) m
      ∙ get_or-map code (values f z es i) x z ∙ ap code (before_there f z es i x h)

-- an entry's value, where number n has the value x n
abbrev from : {A : Type 0} → (Entry → A → A → A) → Entry → (ℕ → A) → A
from f e x = f e (x e.a) (x e.b)

-- where its numbers are equal, so are the values
pub equal_values : {A : Type 0} (x : ℕ → A) (e : Entry) → equal_numbers e ≡ true → x e.a ≡ x e.b
equal_values x e q = ap x (eqb-true e.a e.b q)

-- two kinds of values side by side: what each row hands on from the numbers that it names holds of every row
module _ {A B : Type 0} (R : A → B → Type 0) (f : Entry → A → A → A) (g : Entry → B → B → B) (z : A) (w : B) (es : List Entry) (base : R z w)
    (step : (i : ℕ) (x : ℕ → A) (u : ℕ → B) → ((n : ℕ) → R (x n) (u n)) →
    R (from f (get_or es i blank) x) (from g (get_or es i blank) u)) where
  pub side_by_side : (i : ℕ) → R (value_at f z es i) (value_at g w es i)
  unfolding value_at
  side_by_side = by_rows (λ i. R (value_at f z es i) (value_at g w es i)) (λ i ih.
      step i (λ n. get_or (values f z es i) n z) (λ n. get_or (values g w es i) n w) (λ n. by_order n i
      (λ h. rw (before_there f z es i n h, before_there g w es i n h) (ih n h))
      (λ h. rw (before_past f z es i n h, before_past g w es i n h) base)))

-- What the loop that fills places in by a rule keeps (src/rows.rt), and what it leaves: what every answer hands on, and the values of a function that
-- answers alike.
-- Assumes nothing.
use mathlib.Core.Path.{◌≡◌, refl, sym, ap, ap₂, ◌∙◌}
use mathlib.Core.List.{List, [], ◌∷◌, ◌++◌}
use Prim.Native.Nat.{ℕ, zero, suc, ◌+◌, ◌≤◌, ◌<◌}
use native.Mathlib.Omega.{arith}
use lib.ListN.{length, get_or, take, drop, set, replicate, length-replicate, get_or-eq_default}
use lib.Seq.{take-suc, length-take-le}
use Rattle.std.specs.Prelude.{◌≢◌}
use Rattle.std.proofs.lemmas.List.{take-append-drop, take-set-le, drop-set-lt, get_or-set_same, get_or-set_other, get_or-take, length-set, drop_more}
use Rattle.std.proofs.lemmas.List.{drop-replicate}
use Rattle.entries.specs.declared.Entry.{Entry}
use Rattle.entries.specs.Entries.{blank}
use Rattle.entries.proofs.Numbers.{by_order}
use Rattle.table.specs.Reading.{padded}
use Rattle.decide.specs.Rows.{values, FilledBy}
use Rattle.decide.proofs.RowByRow.{by_rows, values_length}

module _ {A : Type 0} {answers : Entry → A → A → A → Type 0} {z : A} {es : List Entry} where
  pub filled_none : (old : List A) → FilledBy answers z es 0 old old
  filled_none old = record { each = λ i h. absurd (omega arith); behind = refl; long = refl }

  pub filled_more : (i : ℕ) (old new : List A) (v : A) → FilledBy answers z es i old new → i < length old →
      let e = get_or es i blank in answers e (get_or (take i new) e.a z) (get_or (take i new) e.b z) v → FilledBy answers z es (i + 1) old (set new i v)
  filled_more i old new v h l a = record {
    each = λ k m. by_order k i
        (λ j. let apart : k ≢ i = omega arith in rw (take-set-le k new i v (omega arith), get_or-set_other new i k v z apart) (h.each k j))
        (λ j. let q : k ≡ i = omega arith in rw (q, take-set-le i new i v (omega arith), get_or-set_same new i v z (omega (arith, h.long))) a);
    behind = drop-set-lt (i + 1) new i v (omega arith)
        ∙ ap (drop 1) (sym (drop_more new i z (omega (arith, h.long))) ∙ h.behind ∙ drop_more old i z l);
    long = length-set new i v ∙ h.long;
  }

  module _ {n : ℕ} {old new : List A} (h : FilledBy answers z es n old new) (room : n ≤ length old) where
    -- what holds of z and passes from two values to each answer to them holds of every value
    module _ (P : A → Type 0) (none : P z) (step : (e : Entry) (x y v : A) → answers e x y v → P x → P y → P v) where
      all_before : (i : ℕ) → i ≤ n → ((a : ℕ) → a < i → P (get_or new a z)) → (a : ℕ) → P (get_or (take i new) a z)
      all_before i l before a =
          by_order a i (λ k. rw (get_or-take i new a z k) (before a k))
          (λ k. let past : length (take i new) ≤ a = omega (arith, length-take-le i new (omega (arith, h.long))) in
          rw (get_or-eq_default (take i new) z past) none)

      pub filled_all : (a : ℕ) → P (get_or (take n new) a z)
      filled_all = all_before n (omega arith) (by_rows (λ i. i < n → P (get_or new i z)) (λ i ih l.
          let before = all_before i (omega arith) (λ a k. ih a k (omega arith)) in
          step (get_or es i blank) _ _ _ (h.each i l) (before (get_or es i blank).a) (before (get_or es i blank).b)))

    -- where a function answers alike, the values are that function's
    module _ (f : Entry → A → A → A) (is : (e : Entry) (x y v : A) → answers e x y v → v ≡ f e x y) where
      front : (i : ℕ) → i ≤ n → take i new ≡ values f z es i
      unfolding values
      front zero l = refl
      front (suc i) l =
          let e = get_or es i blank in
          let before = front i (omega arith) in
          take-suc new i z (omega (arith, h.long))
          ∙ ap₂ (λ (o : List A) (v : A). o ++ (v ∷ [])) before (rw before at (is e _ _ _ (h.each i (omega arith))))

      pub filled_front : take n new ≡ values f z es n
      filled_front = front n (omega arith)

      pub filled_values : new ≡ values f z es n ++ drop n old
      filled_values = sym (take-append-drop n new) ∙ ap₂ ◌++◌ filled_front h.behind

-- a rule that has one answer to each entry and two values fills in one list
module _ {A : Type 0} {answers : Entry → A → A → A → Type 0} {z : A} {es : List Entry} {n : ℕ} {old new other : List A}
    (one : (e : Entry) (x y v w : A) → answers e x y v → answers e x y w → v ≡ w)
    (h : FilledBy answers z es n old new) (k : FilledBy answers z es n old other) (room : n ≤ length old) where
  same_front : (i : ℕ) → i ≤ n → take i new ≡ take i other
  same_front zero l = refl
  same_front (suc i) l =
      let before = same_front i (omega arith) in
      let value = one (get_or es i blank) _ _ _ _ (rw before at (h.each i (omega arith))) (k.each i (omega arith)) in
      take-suc new i z (omega (arith, h.long))
      ∙ ap₂ (λ (o : List A) (v : A). o ++ (v ∷ [])) before value
      ∙ sym (take-suc other i z (omega (arith, k.long)))

  pub filled_same : new ≡ other
  filled_same =
      sym (take-append-drop n new) ∙ ap₂ ◌++◌ (same_front n (omega arith)) (h.behind ∙ sym k.behind) ∙ take-append-drop n other

-- and in an array that was all z
pub filled_array : {A : Type 0} {answers : Entry → A → A → A → Type 0} {z : A} {es : List Entry} {n : ℕ} {new : List A} (m : ℕ) →
    FilledBy answers z es n (replicate m z) new → n ≤ m → (f : Entry → A → A → A) →
    ((e : Entry) (x y v : A) → answers e x y v → v ≡ f e x y) →
    new ≡ padded z m (values f z es n)
filled_array {z = z} {es} {n} m h room f is =
    filled_values h (rw (length-replicate m z) room) f is ∙ rw (drop-replicate n m z, values_length f z es n) refl

-- The numbers that pass a test, as loops find them: one more, how many, and where they are written (02, L6).
-- Assumes nothing.
use mathlib.Core.Path.{◌≡◌, refl, sym, ap, ap₂, subst, ◌∙◌}
use mathlib.Core.Bool.{Bool, true, false, cond}
use mathlib.Core.List.{List, [], ◌∷◌, ◌++◌, append_assoc, append-nil}
use Prim.Native.Nat.{ℕ, zero, suc, ◌+◌, ◌≤◌, ◌<◌}
use native.Mathlib.Omega.{arith}
use native.Mathlib.Numerals.{add-one}
use lib.ListN.{length, get_or, take, drop, set, length-append, length-drop, get_or-append}
use lib.Seq.{take-length, set_at, drop-cons, get_or_at}
use lib.Dec.{eqb}
use borrow.Author.Tests.{eq-eqb}
use Rattle.entries.proofs.Lists.{some_at}
use Rattle.entries.proofs.Numbers.{by_order}
use Rattle.decide.specs.Reach.{passing}
use Rattle.decide.proofs.Among.{passing_of}
use Rattle.suppliers.specs.Suppliers.{flag}
use Rattle.std.specs.List.{count_by}
use Rattle.std.proofs.lemmas.Bool.{cases_Bool}
use Rattle.std.proofs.lemmas.List.Sums.{count_by_more_yes, count_by_more_no}
use mathlib.Core.Logic.{⊎_elim}

-- tests with the same outcomes pass the same numbers
pub passing_same : (n : ℕ) (is was : ℕ → Bool) → ((i : ℕ) → i < n → is i ≡ was i) → passing n is ≡ passing n was
unfolding passing
passing_same zero is was h = refl
passing_same (suc n) is was h =
    ap₂ (λ (l : List ℕ) (b : Bool). l ++ cond b (n ∷ []) []) (passing_same n is was (λ i l. h i (omega arith))) (h n (omega arith))

module _ (is : ℕ → Bool) where
  -- the next number passes, or not
  pub one_listed : (n : ℕ) → is n ≡ true → passing (n + 1) is ≡ passing n is ++ (n ∷ [])
  unfolding passing
  one_listed n e = rw (add-one n, e)

  pub none_listed : (n : ℕ) → is n ≡ false → passing (n + 1) is ≡ passing n is
  unfolding passing
  none_listed n e = rw (add-one n, e) (append-nil (passing n is))

  pub one_longer : (n : ℕ) → is n ≡ true → length (passing (n + 1) is) ≡ length (passing n is) + 1
  one_longer n e = ap length (one_listed n e) ∙ length-append (passing n is) (n ∷ [])

  -- and the list only grows
  longer : (n k : ℕ) → n ≤ k → length (passing n is) ≤ length (passing k is)
  unfolding passing
  longer n zero h = let q : n ≡ 0 = omega arith in rw q (omega arith)
  longer n (suc k) h =
      by_order k n
      (λ l. let q : n ≡ suc k = omega arith in rw q (omega arith))
      (λ l. omega (arith, longer n k l, length-append (passing k is) (cond (is k) (k ∷ []) [])))

  -- the list rises
  below : (n i : ℕ) → i < length (passing n is) → get_or (passing n is) i 0 < n
  below n i h = let x = get_or (passing n is) i 0 in (passing_of n is x (some_at (eqb x) (passing n is) 0 i h (eq-eqb x x refl))).0

  pub rises : (n i j : ℕ) → i < j → j < length (passing n is) → get_or (passing n is) i 0 < get_or (passing n is) j 0
  unfolding passing
  rises zero i j h k = absurd (omega arith)
  rises (suc n) i j h k = go (is n) (rises n i j h) k
    where
      l : List ℕ
      l = passing n is

      go : (b : Bool) → (j < length l → get_or l i 0 < get_or l j 0) → let more = l ++ cond b (n ∷ []) [] in
          j < length more → get_or more i 0 < get_or more j 0
      go true inside k =
          by_order j (length l)
          (λ k. rw (get_or-append l (n ∷ []) 0 i (omega arith), get_or-append l (n ∷ []) 0 j k) (inside k))
          (λ q.
          let end : length l ≡ j = omega (arith, length-append l (n ∷ [])) in
          rw (get_or-append l (n ∷ []) 0 i (omega arith), get_or_at l n [] 0 j end) (below n i (omega arith)))
      go false inside k = rw (append-nil l) (inside (rw (append-nil l) at k))

-- the numbers below s that pass a test, over the front of an output that has room for all of them
pub record Written (is : ℕ → Bool) (end : ℕ) (out₀ : List ℕ) (s n : ℕ) (out : List ℕ) : Type 0 where
  pub room : length (passing end is) ≤ length out₀
  pub counted : n ≡ length (passing s is)
  pub written : out ≡ passing s is ++ drop n out₀

pub written_none : (is : ℕ → Bool) (end : ℕ) (out : List ℕ) → length (passing end is) ≤ length out → Written is end out 0 0 out
unfolding passing
written_none is end out h = record { room = h; counted = refl; written = refl }

module _ {is : ℕ → Bool} {end s n : ℕ} {out₀ out : List ℕ} (was : Written is end out₀ s n out) where
  pub written_length : s ≤ end → length out ≡ length out₀
  written_length h =
      ap length was.written ∙ length-append (passing s is) (drop n out₀)
      ∙ omega (arith, was.room, was.counted, longer is s end h, length-drop n out₀)

  -- a number that passes has room, and is written behind the others; one that does not is passed over
  pub written_room : s < end → is s ≡ true → n < length out₀
  written_room h e = omega (arith, was.room, was.counted, one_longer is s e, longer is (s + 1) end (omega arith))

  pub written_more : s < end → is s ≡ true → Written is end out₀ (s + 1) (n + 1) (set out n s)
  written_more h e =
      let l = passing s is in record {
        room = was.room;
        counted = omega (arith, was.counted, one_longer is s e);
        written =
            ap (λ (o : List ℕ). set o n s) (was.written ∙ ap (λ (r : List ℕ). l ++ r) (drop-cons out₀ n 0 (written_room h e)))
            ∙ set_at l (get_or out₀ n 0) (drop (suc n) out₀) s n (sym was.counted)
            ∙ rw (add-one n, one_listed is s e, append_assoc l (s ∷ []) (drop (suc n) out₀));
      }

  pub written_less : is s ≡ false → Written is end out₀ (s + 1) n out
  written_less e = record {
    room = was.room;
    counted = was.counted ∙ ap length (sym (none_listed is s e));
    written = was.written ∙ ap (λ (l : List ℕ). l ++ drop n out₀) (sym (none_listed is s e));
  }

-- of flags, as many numbers pass as flags are set
passing_taken : (flags : List Bool) (n : ℕ) → n ≤ length flags → length (passing n (flag flags)) ≡ count_by (λ b. b) (take n flags)
passing_taken flags zero h = unfold passing in refl
passing_taken flags (suc n) h =
    let rest = passing_taken flags n (omega arith) in
    subst (λ (k : ℕ). length (passing k (flag flags)) ≡ count_by (λ b. b) (take k flags)) (add-one n)
    (⊎_elim
    (λ e. one_longer (flag flags) n e ∙ ap (λ (k : ℕ). k + 1) rest ∙ sym (count_by_more_yes (λ b. b) flags n false (omega arith) e))
    (λ e. ap length (none_listed (flag flags) n e) ∙ rest ∙ sym (count_by_more_no (λ b. b) flags n false (omega arith) e))
    (cases_Bool (flag flags n)))

pub passing_counted : (flags : List Bool) → length (passing (length flags) (flag flags)) ≡ count_by (λ b. b) flags
passing_counted flags = passing_taken flags (length flags) (omega arith) ∙ ap (count_by (λ b. b)) (take-length flags)

-- Flags that are raised one by one: by a row that is marked, those of the rows that it names (02, L6).
-- Assumes nothing.
use mathlib.Core.Path.{◌≡◌, refl, sym, ap, ap₂, ◌∙◌}
use mathlib.Core.Bool.{Bool, true, false, ◌&&◌, ◌||◌, and-true, and-false, or-false}
use mathlib.Core.List.{List}
use Prim.Native.Nat.{ℕ, zero, suc, ◌+◌, ◌≤◌, ◌<◌}
use native.Mathlib.Omega.{arith}
use native.Mathlib.Numerals.{add-one}
use lib.ListN.{length, get_or, set, replicate, length-set, length-replicate}
use lib.Seq.{get_or-set_same, get_or-set_other}
use lib.Dec.{eqb}
use borrow.Author.Tests.{eq-eqb, ne_eqb}
use Rattle.belnap.proofs.Finite.{never, both_parts, or_left, or_right, or_part, both_ways}
use Rattle.entries.specs.declared.Entry.{Entry}
use Rattle.entries.specs.Refusals.{is_among}
use Rattle.entries.specs.Entries.{blank}
use Rattle.entries.specs.Renaming.{names_row}
use Rattle.entries.proofs.Numbers.{by_equal}
use Rattle.decide.specs.Reach.{rows_named, reaches_row, NameLower, passing}
use Rattle.decide.proofs.Among.{named_some, passing_some}
use Rattle.decide.proofs.Reaching.{reaches_itself, closed, last_step}
use Rattle.suppliers.specs.Suppliers.{supplier_at, has, flag, Shows}

-- at first none is set
pub none_set : (n i : ℕ) → flag (replicate n false) i ≡ false
none_set zero i = refl
none_set (suc n) zero = refl
none_set (suc n) (suc i) = none_set n i

-- one raised where b says so
pub raised : (flags : List Bool) (x : ℕ) (b : Bool) → x < length flags → (i : ℕ) →
    flag (set flags x (flag flags x || b)) i ≡ (flag flags i || (b && eqb i x))
raised flags x b h i =
    by_equal i x
    (λ q. rw (q, get_or-set_same flags x (flag flags x || b) false h, eq-eqb x x refl) (ap (λ (p : Bool). flag flags x || p) (sym (and-true b))))
    (λ d. rw (get_or-set_other flags x i (flag flags x || b) false d, ne_eqb i x d)
    (sym (ap (λ (p : Bool). flag flags i || p) (and-false b) ∙ or-false (flag flags i))))

-- the supplier of the next row, raised where that row is marked
pub supplier_raised : (suppliers : List ℕ) (marks flags : List Bool) (i s : ℕ) → s ≡ supplier_at suppliers i → s < length flags →
    Shows flags (has suppliers (passing i (flag marks))) → Shows (set flags s (flag flags s || flag marks i)) (has suppliers (passing (i + 1) (flag marks)))
supplier_raised suppliers marks flags i s is h shows x =
    raised flags s (flag marks i) h x
    ∙ rw (shows x, is, add-one i) (sym (passing_some (λ k. eqb x (supplier_at suppliers k)) i (flag marks)))

-- the rows that an entry names, raised where its own flag is set
both_raised : (p on first second u v : Bool) →
    ((p || ((on && first) && u)) || ((on && second) && v)) ≡ (p || (on && ((first && u) || (second && v))))
both_raised true on first second u v = refl
both_raised false false first second u v = refl
both_raised false true first second u v = refl

pub names_raised : (m : List Bool) (e : Entry) (on : Bool) (a b : ℕ) (p q : Bool) →
    a ≡ e.a → b ≡ e.b → p ≡ names_row 0 e → q ≡ names_row 1 e → a < length m → b < length m → (i : ℕ) →
    let first = set m a (flag m a || (on && p)) in
    flag (set first b (flag first b || (on && q))) i ≡ (flag m i || (on && is_among (rows_named e) i))
names_raised m e on a b p q is-a is_b is-p is-q h k i =
    let first = set m a (flag m a || (on && p)) in
    raised first b (on && q) (omega (arith, length-set m a (flag m a || (on && p)))) i
    ∙ ap (λ (f : Bool). f || ((on && q) && eqb i b)) (raised m a (on && p) h i)
    ∙ both_raised (flag m i) on p q (eqb i a) (eqb i b)
    ∙ rw (is-a, is_b, is-p, is-q) (sym (ap (λ (f : Bool). flag m i || (on && f)) (named_some (eqb i) e)))

-- marks on the way down from row r: it is marked, what is marked is reached, and what the marked rows from i up name is marked
pub record Marked (rows : List Entry) (r i : ℕ) (m : List Bool) : Type 0 where
  pub there : flag m r ≡ true
  pub reached : (x : ℕ) → flag m x ≡ true → reaches_row rows r x ≡ true
  pub followed : (k a : ℕ) → i ≤ k → flag m k ≡ true → is_among (rows_named (get_or rows k blank)) a ≡ true → flag m a ≡ true

module _ (rows : List Entry) (low : NameLower rows) (r : ℕ) where
  pub marked_first : (n : ℕ) → r < n → Marked rows r (r + 1) (set (replicate n false) r true)
  marked_first n h =
      let m = set (replicate n false) r true in
      let only : (x : ℕ) → flag m x ≡ true → x ≡ r =
      λ x e. by_equal x r (λ q. q) (λ d. never (sym (sym (get_or-set_other (replicate n false) r x true false d ∙ none_set n x) ∙ e))) in
      record {
        there = get_or-set_same (replicate n false) r true false (omega (arith, length-replicate n false));
        reached = λ x e. rw (only x e) (reaches_itself r rows r);
        followed = λ k a h e named. absurd (omega (arith, only k e));
      }

  -- one row further down; what it names is lower still
  pub marked_more : (i : ℕ) (m later : List Bool) → Marked rows r (i + 1) m →
      ((x : ℕ) → flag later x ≡ (flag m x || (flag m i && is_among (rows_named (get_or rows i blank)) x))) → Marked rows r i later
  marked_more i m later was now = record {
    there = now r ∙ or_left (flag m r) _ was.there;
    reached = λ x e. by x e (was.reached x) (λ on named. last_step rows low r i x (was.reached i on) named);
    followed = λ k a h e named. now a ∙ by k e
        (λ on. by_equal k i
        (λ q. or_right (flag m a) _ (ap₂ ◌&&◌ (ap (flag m) (sym q) ∙ on) (rw q at named)))
        (λ d. or_left (flag m a) _ (was.followed k a (omega (arith, d)) on named)))
        (λ on above. absurd (omega (arith, low i k above)));
  }
    where
      by : {P : Type 0} (x : ℕ) → flag later x ≡ true → (flag m x ≡ true → P) →
          (flag m i ≡ true → is_among (rows_named (get_or rows i blank)) x ≡ true → P) → P
      by x e f g =
          or_part (flag m x) _ (sym (now x) ∙ e) f
          (λ e. let p = both_parts (flag m i) (is_among (rows_named (get_or rows i blank)) x) e in g p.0 p.1)

  pub marked_all : (n : ℕ) (m : List Bool) → n ≡ 0 → Marked rows r n m → Shows m (reaches_row rows r)
  marked_all n m none done i =
      both_ways (flag m i) (reaches_row rows r i) (done.reached i)
      (closed (λ k. flag m k ≡ true) rows (λ k a on named. done.followed k a (omega (arith, none)) on named) r r i done.there)

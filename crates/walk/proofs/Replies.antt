-- Replies by the visits that a walk makes: visits that found nothing come before others, and the walk's reply in each case that the code meets.
-- Assumes nothing.
use mathlib.Core.Path.{◌≡◌, refl, sym, ap, ap₂, ◌∙◌}
use mathlib.Core.Bool.{true, false}
use mathlib.Core.List.{List, [], ◌∷◌, ◌++◌, append-nil}
use mathlib.Core.Option.{Option, none, some}
use Prim.Native.Nat.{ℕ, suc, ◌≤◌, ◌<◌, ◌-◌, ◌+◌, ◌^◌}
use native.Mathlib.Omega.{arith}
use lib.ListN.{length, length-append}
use borrow.Author.Tests.{ltb-true, ltb-false, le-leb, lt-leb}
use Rattle.belnap.proofs.Finite.{never}
use Rattle.entries.proofs.Numbers.{by_order}
use Rattle.walk.specs.declared.Look.{Look}
use Rattle.walk.specs.declared.Look.TheVariants.{Nothing, Found, Open}
use Rattle.walk.specs.declared.Reply.{Reply}
use Rattle.walk.specs.declared.Reply.TheVariants.{Holds, Fails, Unfinished}
use Rattle.walk.specs.Walk.{Visit, visit, found_at, found, or_else, below, visits_from, predicates_from, ended, reply_of}
use Rattle.walk.specs.Inner.{walk_from, count_of, plus_of, goes_on}
use Rattle.walk.proofs.Powers.{known_more}

-- within the budget, and beyond it
pub reply_within : (b : ℕ) (vs : List Visit) → length vs ≤ b → reply_of b vs ≡ ended (found vs) (length vs)
unfolding reply_of
reply_within b vs h = simp (le-leb _ _ h)

pub reply_beyond : (b : ℕ) (vs : List Visit) → b < length vs → reply_of b vs ≡ Unfinished b
unfolding reply_of
reply_beyond b vs h = simp (lt-leb _ _ h)

-- what holds of a reply in either case
either_way : (b : ℕ) (vs : List Visit) (P : Reply → Type 0) → (length vs ≤ b → P (ended (found vs) (length vs))) →
    (b < length vs → P (Unfinished b)) → P (reply_of b vs)
either_way b vs P f g = by_order b (length vs) (λ h. rw (reply_beyond b vs h) (g h)) (λ h. rw (reply_within b vs h) (f h))

ended_count : (f : Option ℕ) (n : ℕ) → count_of (ended f n) ≡ n
ended_count none n = refl
ended_count (some m) n = refl

count_within : (b : ℕ) (vs : List Visit) → count_of (reply_of b vs) ≤ b
count_within b vs = either_way b vs (λ r. count_of r ≤ b) (λ h. rw (ended_count (found vs) (length vs)) h) (λ h. omega arith)

pub count_of_lem : (r : Reply) (b : ℕ) (vs : List Visit) → r ≡ reply_of b vs → count_of r ≤ b
count_of_lem r b vs e = rw e (count_within b vs)

pub held_count : (r : Reply) (a b : ℕ) (vs : List Visit) → r ≡ reply_of b vs → r ≡ Holds a → a ≤ b
held_count r a b vs e h = rw h at (count_of_lem r b vs e)

-- where a reply holds, nothing was found
held_nothing : (f : Option ℕ) (n c : ℕ) → ended f n ≡ Holds c → (f ≡ none) × (n ≡ c)
held_nothing none n c e = (refl, cc)
held_nothing (some m) n c e = never cc

holds_nothing : (b c : ℕ) (vs : List Visit) → reply_of b vs ≡ Holds c → (found vs ≡ none) × (length vs ≡ c)
holds_nothing b c vs = either_way b vs (λ r. r ≡ Holds c → (found vs ≡ none) × (length vs ≡ c)) (λ h. held_nothing (found vs) (length vs) c)
    (λ h e. never cc)

-- visits that found nothing, before others
pub found_behind : (before vs : List Visit) → found before ≡ none → found (before ++ vs) ≡ found vs
unfolding found
found_behind [] vs e = refl
found_behind (v ∷ before) vs e = go v.seen e (found_behind before vs)
  where
    go : (l : Look) → found_at l v.facts (found before) ≡ none → (found before ≡ none → found (before ++ vs) ≡ found vs) →
        found_at l v.facts (found (before ++ vs)) ≡ found vs
    go Nothing e on = on e
    go Found e on = never cc
    go Open e on = on e

plus_ended : (k b : ℕ) (f : Option ℕ) (n : ℕ) → plus_of (ended f n) k b ≡ ended f (k + n)
plus_ended k b none n = refl
plus_ended k b (some m) n = refl

reply_behind : (before vs : List Visit) (b : ℕ) → found before ≡ none → length before ≤ b →
    plus_of (reply_of (b - length before) vs) (length before) b ≡ reply_of b (before ++ vs)
reply_behind before vs b e l =
    let k = length before in
    let sum = length-append before vs in
    either_way (b - k) vs (λ r. plus_of r k b ≡ reply_of b (before ++ vs))
    (λ h. plus_ended k b (found vs) (length vs) ∙ sym (reply_within b (before ++ vs) (omega (arith, sum)) ∙ ap₂ ended (found_behind before vs e) sum))
    (λ h. sym (reply_beyond b (before ++ vs) (omega (arith, sum))))

-- the code's answers, each from what it knows where it gives them
module _ (see : ℕ → ℕ → Look) (n k facts b : ℕ) where
  abbrev here : Visit
  here = visit see (2 ^ k - 1) facts

  -- every walk makes a visit
  makes_visit : (ps : List ℕ) (known : ℕ) → 0 < length (visits_from see ps known facts)
  unfolding visits_from
  makes_visit [] known = omega arith
  makes_visit (p ∷ ps) known = omega arith

  -- and one that is settled is the only one
  one_visit : (ps : List ℕ) (known : ℕ) (l : Look) → see known facts ≡ l → ((vs : List Visit) → below l vs ≡ []) →
      visits_from see ps known facts ≡ visit see known facts ∷ []
  unfolding visits_from
  one_visit [] known l e h = refl
  one_visit (p ∷ ps) known l e h =
      let tried = or_else (visits_from see ps (known + 2 ^ p) facts) (visits_from see ps (known + 2 ^ p) (facts + 2 ^ p)) in
      ap (λ (vs : List Visit). visit see known facts ∷ vs) (ap (λ (l : Look). below l tried) e ∙ h tried)

  alone : (l : Look) (r : Reply) → see (2 ^ k - 1) facts ≡ l → 0 < b → ended (found_at l facts none) 1 ≡ r → reply_of b (here ∷ []) ≡ r
  unfolding found
  alone l r e h q = reply_within b (here ∷ []) h ∙ ap (λ (l : Look). ended (found_at l facts none) 1) e ∙ q

  pub no_budget : b ≡ 0 → Unfinished 0 ≡ reply_of b (walk_from see n k facts)
  no_budget e =
      sym (reply_beyond b (walk_from see n k facts) (omega (arith, makes_visit (predicates_from k (n - k)) (2 ^ k - 1))) ∙ ap Unfinished e)

  -- a visit below which none is made
  pub ends_here : (l : Look) → see (2 ^ k - 1) facts ≡ l → goes_on l k n ≡ false → 0 < b →
      ended (found_at l facts none) 1 ≡ reply_of b (walk_from see n k facts)
  unfolding visits_from predicates_from
  ends_here Nothing e t h =
      sym (ap (reply_of b) (one_visit (predicates_from k (n - k)) (2 ^ k - 1) Nothing e (λ vs. refl)) ∙ alone Nothing (Holds 1) e h refl)
  ends_here Found e t h =
      sym (ap (reply_of b) (one_visit (predicates_from k (n - k)) (2 ^ k - 1) Found e (λ vs. refl)) ∙ alone Found (Fails facts 1) e h refl)
  ends_here Open e t h = let z : n - k ≡ 0 = omega (arith, ltb-false k n t) in rw z (sym (alone Open (Holds 1) e h refl))

-- and one below which others are made
pub goes_below : (l : Look) (k n : ℕ) → goes_on l k n ≡ true → (l ≡ Open) × (k < n)
goes_below Nothing k n t = never (sym t)
goes_below Found k n t = never (sym t)
goes_below Open k n t = (refl, ltb-true k n t)

-- an unsettled visit: the walk with predicate k no, and the one with predicate k yes
module _ (see : ℕ → ℕ → Look) (n k facts b : ℕ) (l : k < n) (p : 0 < b) (o : see (2 ^ k - 1) facts ≡ Open) where
  abbrev walk_no : List Visit
  walk_no = walk_from see n (k + 1) facts

  abbrev walk_yes : List Visit
  walk_yes = walk_from see n (k + 1) (facts + 2 ^ k)

  abbrev root : Visit
  root = visit see (2 ^ k - 1) facts

  unsettled : walk_from see n k facts ≡ root ∷ or_else walk_no walk_yes
  unfolding visits_from predicates_from
  unsettled =
      let q : n - k ≡ suc (n - (k + 1)) = omega arith in
      rw (q, known_more k, o)

  none_yet : (vs : List Visit) → found vs ≡ none → found (root ∷ vs) ≡ none
  unfolding found
  none_yet vs e = rw (o, e)

  ends : (first second : List Visit) (f : Option ℕ) → found first ≡ f → (r : Reply) → r ≡ reply_of (b - 1) first →
      ((a : ℕ) → r ≡ Holds a → ⊥) →
      plus_of r 1 b ≡ reply_of b (root ∷ or_else first second)
  unfolding found
  ends first second (some m) q r e h = rw (e, q, append-nil first) (reply_behind (root ∷ []) first b (none_yet [] refl) p)
  ends first second none q r e h =
      by_order (b - 1) (length first)
      (λ k. rw (e, reply_beyond (b - 1) first k, q, reply_beyond b (root ∷ (first ++ second)) (omega (arith, length-append first second))))
      (λ k. absurd (h (length first) (e ∙ reply_within (b - 1) first k ∙ ap (λ (f : Option ℕ). ended f (length first)) q)))

  pub first_ends : (r : Reply) → r ≡ reply_of (b - 1) walk_no → ((a : ℕ) → r ≡ Holds a → ⊥) →
      plus_of r 1 b ≡ reply_of b (walk_from see n k facts)
  first_ends r e h = rw unsettled (ends walk_no walk_yes (found walk_no) refl r e h)

  pub second_ends : (r y : Reply) (a : ℕ) → r ≡ reply_of (b - 1) walk_no → r ≡ Holds a → a ≤ b - 1 → y ≡ reply_of (b - 1 - a) walk_yes →
      plus_of y (1 + a) b ≡ reply_of b (walk_from see n k facts)
  second_ends r y a e h s f =
      let held = holds_nothing (b - 1) a walk_no (sym e ∙ h) in
      let count : length (root ∷ walk_no) ≡ 1 + a = omega (arith, held.1) in
      let q : b - 1 - a ≡ b - (1 + a) = omega arith in
      rw (unsettled, held.0, f, q) (rw count at (reply_behind (root ∷ walk_no) walk_yes b (none_yet walk_no held.0) (omega (arith, count))))

-- What a walk says: where it finds nothing, the question is true at every request within the constraints; where it finds a request, that one is within
-- them, breaks the question, and is the first of all in 01's order that does. Stated over the predicates to be tried, what a visit sees and what is looked
-- for, and then of the questions of a table.
-- Assumes nothing.
use mathlib.Core.Path.{◌≡◌, refl, sym, ap, subst, ◌∙◌}
use mathlib.Core.Bool.{Bool, true, false, cond, not, ◌&&◌, and-false}
use mathlib.Core.List.{List, [], ◌∷◌, ◌++◌, append-nil}
use mathlib.Core.Option.{Option, none, some}
use mathlib.Core.Logic.{⊎_elim}
use Prim.Native.Nat.{ℕ, zero, suc, ◌+◌, ◌-◌, ◌^◌, ◌≤◌, ◌<◌}
use native.Mathlib.Omega.{arith}
use native.Mathlib.Nat.{zero-add, suc-add}
use borrow.Author.Tests.{not-true, not-false}
use Rattle.belnap.specs.Decisions.{alike}
use Rattle.belnap.proofs.Finite.{never, both_parts}
use Rattle.entries.specs.declared.Entry.{Entry}
use Rattle.table.specs.Contents.{Contents, highest, predicates, Covers}
use Rattle.table.proofs.Laws.{covered}
use Rattle.table.specs.Whole.{Each, ConstraintAt}
use Rattle.entries.proofs.Numbers.{by_order, by_equal}
use Rattle.decide.specs.Meaning.{bit}
use Rattle.decide.specs.Requests.{Fills}
use Rattle.walk.specs.declared.Look.{Look}
use Rattle.walk.specs.declared.Look.TheVariants.{Nothing, Found, Open}
use Rattle.questions.specs.Questions.{truth, truth_set}
use Rattle.walk.specs.Walk.{Visit, look, found_at, found, if_none, or_else, below, visits_from, predicates_from, sees, walk}
use Rattle.walk.specs.Order.{before_by, comes_before}
use Rattle.walk.specs.Inner.{finds}
use Rattle.walk.proofs.Powers.{power_positive, known_more}
use Rattle.possible.proofs.Bits.{bit_above, bit_known, bit_set, bit_else, bits_below}
use Rattle.walk.proofs.Replies.{found_behind}
use Rattle.walk.proofs.Looks.{settled, single_settled, heeds_nothing, heeds_found, heeds_open}
use Rattle.constraints.specs.declared.Standing.{Standing}
use Rattle.constraints.specs.Constraints.{within, standing}
use Rattle.constraints.proofs.Requests.{broken_outside, kept_within, waits_no_more}
pub use Rattle.constraints.proofs.Requests.{OnlyKnown}
use Rattle.questions.proofs.TruthSets.{filling_truth, known_truth}

-- one predicate more is known, to be no or to be yes: what fills in the facts then, and before
module _ (known facts p : ℕ) (unknown : bit known p ≡ false) (unsaid : bit facts p ≡ false) where
  fills_no : (o : ℕ) → Fills known facts o → bit o p ≡ false → Fills (known + 2 ^ p) facts o
  fills_no o a e i h =
      by_equal i p (λ q. rw q (e ∙ sym unsaid)) (λ q. a i (sym (bit_else known p i unknown q) ∙ h))

  fills_yes : (o : ℕ) → Fills known facts o → bit o p ≡ true → Fills (known + 2 ^ p) (facts + 2 ^ p) o
  fills_yes o a e i h =
      by_equal i p (λ q. rw q (e ∙ sym (bit_set facts p unsaid)))
      (λ q. a i (sym (bit_else known p i unknown q) ∙ h) ∙ sym (bit_else facts p i unsaid q))

  other : (i : ℕ) → bit known i ≡ true → i ≡ p → ⊥
  other i h q = never (sym (rw q at h) ∙ unknown)

  pub less_no : (o : ℕ) → Fills (known + 2 ^ p) facts o → Fills known facts o
  less_no o a i h = a i (bit_else known p i unknown (other i h) ∙ h)

  pub less_yes : (o : ℕ) → Fills (known + 2 ^ p) (facts + 2 ^ p) o → Fills known facts o
  less_yes o a i h = a i (bit_else known p i unknown (other i h) ∙ h) ∙ bit_else facts p i unsaid (other i h)

  -- what it says there
  says_no : (o : ℕ) → Fills (known + 2 ^ p) facts o → bit o p ≡ false
  says_no o a = a p (bit_set known p unknown) ∙ unsaid

  says_yes : (o : ℕ) → Fills (known + 2 ^ p) (facts + 2 ^ p) o → bit o p ≡ true
  says_yes o a = a p (bit_set known p unknown) ∙ bit_set facts p unsaid

-- facts that say no to every predicate of a list come first of all that the list puts in order
unfoldable NoneOf : List ℕ → ℕ → Type 0
NoneOf [] facts = Unit
NoneOf (p ∷ ps) facts = (bit facts p ≡ false) × NoneOf ps facts

none_before : (ps : List ℕ) (facts o : ℕ) → NoneOf ps facts → before_by ps o facts ≡ true → ⊥
unfolding before_by NoneOf
none_before [] facts o h e = never (sym e)
none_before (p ∷ ps) facts o h e = go (bit o p) (bit facts p) h.0 e (none_before ps facts o h.1)
  where
    go : (a b : Bool) → b ≡ false → cond (alike a b) (before_by ps o facts) b ≡ true → (before_by ps o facts ≡ true → ⊥) → ⊥
    go a true f e ih = never f
    go true false f e ih = never (sym e)
    go false false f e ih = ih e

-- where two requests differ first, the one that says yes comes later
same_first : (p : ℕ) (ps : List ℕ) (o m : ℕ) → bit o p ≡ bit m p → before_by (p ∷ ps) o m ≡ true → before_by ps o m ≡ true
unfolding before_by
same_first p ps o m e h = go (bit o p) (bit m p) e h
  where
    go : (a b : Bool) → a ≡ b → cond (alike a b) (before_by ps o m) b ≡ true → before_by ps o m ≡ true
    go true true e h = h
    go true false e h = never e
    go false true e h = never (sym e)
    go false false e h = h

yes_later : (p : ℕ) (ps : List ℕ) (o m : ℕ) → bit o p ≡ true → bit m p ≡ false → before_by (p ∷ ps) o m ≡ true → ⊥
unfolding before_by
yes_later p ps o m a b h = never (sym (rw (a, b) at h))

-- of two requests that differ on one of the predicates, one comes before the other
pub neither_alike : (left k m o : ℕ) → before_by (predicates_from k left) m o ≡ false → before_by (predicates_from k left) o m ≡ false →
    (p : ℕ) → k ≤ p → p < k + left → bit m p ≡ bit o p
unfolding before_by predicates_from
neither_alike zero k m o e f p h l = absurd (omega arith)
neither_alike (suc left) k m o e f p h l =
    go (bit m k) (bit o k) refl refl e f (λ x y g. neither_alike left (k + 1) m o x y p g (omega arith))
  where
    rest : ℕ → ℕ → Bool
    rest = before_by (predicates_from (k + 1) left)

    go : (a b : Bool) → bit m k ≡ a → bit o k ≡ b → cond (alike a b) (rest m o) b ≡ false → cond (alike b a) (rest o m) a ≡ false →
        (rest m o ≡ false → rest o m ≡ false → k + 1 ≤ p → bit m p ≡ bit o p) → bit m p ≡ bit o p
    go true true x y e f on = by_order p (k + 1) (λ g. let q : p ≡ k = omega arith in rw (q, x, y)) (on e f)
    go false false x y e f on = by_order p (k + 1) (λ g. let q : p ≡ k = omega arith in rw (q, x, y)) (on e f)
    go true false x y e f on = never f
    go false true x y e f on = never e

-- predicates that the later request says no to do not bring another before it
none_from : (left k facts : ℕ) → ((p : ℕ) → k ≤ p → bit facts p ≡ false) → NoneOf (predicates_from k left) facts
unfolding NoneOf predicates_from
none_from zero k facts h = tt
none_from (suc left) k facts h = (h k (omega arith), none_from left (k + 1) facts (λ p l. h p (omega arith)))

before_fewer : (left more k o m : ℕ) → ((p : ℕ) → k + left ≤ p → bit m p ≡ false) →
    before_by (predicates_from k (left + more)) o m ≡ true → before_by (predicates_from k left) o m ≡ true
unfolding before_by predicates_from
before_fewer zero more k o m h e =
    absurd (none_before (predicates_from k more) m o (none_from more k m (λ p l. h p (omega arith))) (rw (zero-add more) at e))
before_fewer (suc left) more k o m h e =
    go (bit o k) (bit m k) (rw (suc-add left more) at e) (before_fewer left more (k + 1) o m (λ p l. h p (omega arith)))
  where
    go : (a b : Bool) → cond (alike a b) (before_by (predicates_from (k + 1) (left + more)) o m) b ≡ true →
        (before_by (predicates_from (k + 1) (left + more)) o m ≡ true → before_by (predicates_from (k + 1) left) o m ≡ true) →
        cond (alike a b) (before_by (predicates_from (k + 1) left) o m) b ≡ true
    go true true e on = on e
    go true false e on = e
    go false true e on = e
    go false false e on = on e

-- the predicates known once a list of them is tried; and that each was unknown until its turn
unfoldable pub tried : List ℕ → ℕ → ℕ
tried [] known = known
tried (p ∷ ps) known = tried ps (known + 2 ^ p)

unfoldable pub Fresh : List ℕ → ℕ → Type 0
Fresh [] known = Unit
Fresh (p ∷ ps) known = (bit known p ≡ false) × Fresh ps (known + 2 ^ p)

unknown_still : (known p i : ℕ) → bit known p ≡ false → bit (known + 2 ^ p) i ≡ false → bit known i ≡ false
unknown_still known p i u h =
    by_equal i p (λ q. never (sym (bit_set known p u) ∙ (rw q at h))) (λ q. sym (bit_else known p i u q) ∙ h)

tried_more : (ps : List ℕ) (known i : ℕ) → Fresh ps known → bit (tried ps known) i ≡ false → bit known i ≡ false
unfolding tried Fresh
tried_more [] known i f h = h
tried_more (p ∷ ps) known i f h = unknown_still known p i f.0 (tried_more ps (known + 2 ^ p) i f.1 h)

only_no : (known facts p : ℕ) → bit known p ≡ false → OnlyKnown known facts → OnlyKnown (known + 2 ^ p) facts
only_no known facts p u t i h = t i (unknown_still known p i u h)

only_yes : (known facts p : ℕ) → bit known p ≡ false → OnlyKnown known facts → OnlyKnown (known + 2 ^ p) (facts + 2 ^ p)
only_yes known facts p u t i h =
    bit_else facts p i (t p u) (λ q. never (sym (bit_set known p u) ∙ (rw q at h))) ∙ t i (unknown_still known p i u h)

only_none : (ps : List ℕ) (known facts : ℕ) → Fresh ps known → OnlyKnown known facts → NoneOf ps facts
unfolding Fresh NoneOf
only_none [] known facts f t = tt
only_none (p ∷ ps) known facts f t = (t p f.0, only_none ps (known + 2 ^ p) facts f.1 (only_no known facts p f.0 t))

-- what was found by visits and, if that is nothing, by others
abbrev first_of : Option ℕ → Option ℕ → Option ℕ
first_of none g = g
first_of (some m) g = some m

pub found_else : (first second : List Visit) → found (or_else first second) ≡ first_of (found first) (found second)
found_else first second = go (found first) refl
  where
    go : (f : Option ℕ) → found first ≡ f → found (first ++ if_none f second) ≡ first_of f (found second)
    go none e = found_behind first second e
    go (some m) e = ap found (append-nil first) ∙ e

-- what a walk is begun with, and goes on with
pub record Begun (all : ℕ) (ps : List ℕ) (known facts : ℕ) : Type 0 where
  pub fresh : Fresh ps known
  pub only : OnlyKnown known facts
  pub ends : tried ps known ≡ all

module _ {all p known facts : ℕ} {ps : List ℕ} (b : Begun all (p ∷ ps) known facts) where
  pub unknown : bit known p ≡ false
  unfolding Fresh
  unknown = b.fresh.0

  pub unsaid : bit facts p ≡ false
  unsaid = b.only p unknown

  pub begun_no : Begun all ps (known + 2 ^ p) facts
  unfolding Fresh tried
  begun_no = record { fresh = b.fresh.1; only = only_no known facts p unknown b.only; ends = b.ends }

  pub begun_yes : Begun all ps (known + 2 ^ p) (facts + 2 ^ p)
  unfolding Fresh tried
  begun_yes = record { fresh = b.fresh.1; only = only_yes known facts p unknown b.only; ends = b.ends }

-- A walk over any predicates, for anything to be hit: where a visit ends with nothing, no filling of its facts is a hit; where it found, its facts with every
-- other predicate no are one; and it does not go on once all are tried.
module _ (see : ℕ → ℕ → Look) (hit : ℕ → Bool) (all : ℕ)
    (nowhere : (known facts o : ℕ) → see known facts ≡ Nothing → Fills known facts o → hit o ≡ false)
    (there : (known facts : ℕ) → OnlyKnown known facts → see known facts ≡ Found → hit facts ≡ true)
    (shut : (facts : ℕ) → see all facts ≡ Open → ⊥) where
  -- a hit within the facts, and no earlier one
  record First (ps : List ℕ) (known facts m : ℕ) : Type 0 where
    hits : hit m ≡ true
    fills : Fills known facts m
    small : (i : ℕ) → bit all i ≡ false → bit m i ≡ false
    first : (o : ℕ) → Fills known facts o → before_by ps o m ≡ true → hit o ≡ false

  abbrev Says : List ℕ → ℕ → ℕ → Option ℕ → Type 0
  Says ps known facts none = (o : ℕ) → Fills known facts o → hit o ≡ false
  Says ps known facts (some m) = First ps known facts m

  -- a visit that found
  hit_here : (ps : List ℕ) (known facts : ℕ) → Begun all ps known facts → see known facts ≡ Found → First ps known facts facts
  hit_here ps known facts b e = record {
    hits = there known facts b.only e;
    fills = λ i h. refl;
    small = λ i h. b.only i (tried_more ps known i b.fresh (rw b.ends h));
    first = λ o a l. absurd (none_before ps facts o (only_none ps known facts b.fresh b.only) l);
  }

  -- one that goes on, with predicate p no and then yes
  module _ (p : ℕ) (ps : List ℕ) (known facts : ℕ) (u : bit known p ≡ false) (unsaid : bit facts p ≡ false) where
    says_both : (f g : Option ℕ) → Says ps (known + 2 ^ p) facts f → Says ps (known + 2 ^ p) (facts + 2 ^ p) g →
        Says (p ∷ ps) known facts (first_of f g)
    says_both (some m) g x y = record {
      hits = x.hits;
      fills = less_no known facts p u unsaid m x.fills;
      small = x.small;
      first = λ o a l. at o a l (bit o p) refl;
    }
      where
        at : (o : ℕ) → Fills known facts o → before_by (p ∷ ps) o m ≡ true → (t : Bool) → bit o p ≡ t → hit o ≡ false
        at o a l true e = absurd (yes_later p ps o m e (says_no known facts p u unsaid m x.fills) l)
        at o a l false e =
            x.first o (fills_no known facts p u unsaid o a e) (same_first p ps o m (e ∙ sym (says_no known facts p u unsaid m x.fills)) l)
    says_both none none x y = λ o a. at o a (bit o p) refl
      where
        at : (o : ℕ) → Fills known facts o → (t : Bool) → bit o p ≡ t → hit o ≡ false
        at o a true e = y o (fills_yes known facts p u unsaid o a e)
        at o a false e = x o (fills_no known facts p u unsaid o a e)
    says_both none (some m) x y = record {
      hits = y.hits;
      fills = less_yes known facts p u unsaid m y.fills;
      small = y.small;
      first = λ o a l. at o a l (bit o p) refl;
    }
      where
        at : (o : ℕ) → Fills known facts o → before_by (p ∷ ps) o m ≡ true → (t : Bool) → bit o p ≡ t → hit o ≡ false
        at o a l true e =
            y.first o (fills_yes known facts p u unsaid o a e) (same_first p ps o m (e ∙ sym (says_yes known facts p u unsaid m y.fills)) l)
        at o a l false e = x o (fills_no known facts p u unsaid o a e)

  says : (ps : List ℕ) (known facts : ℕ) → Begun all ps known facts → Says ps known facts (found (visits_from see ps known facts))
  unfolding visits_from found tried
  says [] known facts b = go (see known facts) refl
    where
      go : (l : Look) → see known facts ≡ l → Says [] known facts (found_at l facts none)
      go Nothing e = λ o a. nowhere known facts o e a
      go Found e = hit_here [] known facts b e
      go Open e = absurd (shut facts (ap (λ (k : ℕ). see k facts) (sym b.ends) ∙ e))
  says (p ∷ ps) known facts b =
      let no = visits_from see ps (known + 2 ^ p) facts in
      let yes = visits_from see ps (known + 2 ^ p) (facts + 2 ^ p) in
      go (see known facts) refl
      (subst (Says (p ∷ ps) known facts) (sym (found_else no yes))
      (says_both p ps known facts (unknown b) (unsaid b) (found no) (found yes)
      (says ps (known + 2 ^ p) facts (begun_no b)) (says ps (known + 2 ^ p) (facts + 2 ^ p) (begun_yes b))))
    where
      both : List Visit
      both = or_else (visits_from see ps (known + 2 ^ p) facts) (visits_from see ps (known + 2 ^ p) (facts + 2 ^ p))

      go : (l : Look) → see known facts ≡ l → Says (p ∷ ps) known facts (found both) →
          Says (p ∷ ps) known facts (found_at l facts (found (below l both)))
      go Nothing e w = λ o a. nowhere known facts o e a
      go Found e w = hit_here (p ∷ ps) known facts b e
      go Open e w = w

  -- where a walk finds nothing, no filling of the facts is a hit
  pub nothing_hit : (ps : List ℕ) (known facts : ℕ) → Begun all ps known facts → found (visits_from see ps known facts) ≡ none →
      (o : ℕ) → Fills known facts o → hit o ≡ false
  nothing_hit ps known facts b e = rw e at (says ps known facts b)

-- predicates in order, of which those below k are known
fresh_from : (left k : ℕ) → Fresh (predicates_from k left) (2 ^ k - 1)
unfolding Fresh predicates_from
fresh_from zero k = tt
fresh_from (suc left) k =
    (bit_above (2 ^ k - 1) k k (omega (arith, power_positive k)) (omega arith), rw (known_more k) (fresh_from left (k + 1)))

tried_from : (left k : ℕ) → tried (predicates_from k left) (2 ^ k - 1) ≡ 2 ^ (k + left) - 1
unfolding tried predicates_from
tried_from zero k = let q : k + 0 ≡ k = omega arith in rw q
tried_from (suc left) k =
    let q : k + 1 + left ≡ k + suc left = omega arith in
    ap (tried (predicates_from (k + 1) left)) (known_more k) ∙ tried_from left (k + 1) ∙ ap (λ (k : ℕ). 2 ^ k - 1) q

-- a walk over n predicates is begun with nothing known
pub begun_all : (n : ℕ) → Begun (2 ^ n - 1) (predicates_from 0 n) 0 0
begun_all n = record {
  fresh = fresh_from n 0;
  only = λ i h. h;
  ends = let q : 0 + n ≡ n = omega arith in rw q at (tried_from n 0);
}

-- the questions of a table, whose constraints and rows use predicates below n
pub record Bounded (constraints rows : List Entry) (n : ℕ) : Type 0 where
  pub sound : Each ConstraintAt 0 constraints
  pub few : highest constraints ≤ n
  pub covers : Covers n rows

pub bounded : (c : Contents) → Each ConstraintAt 0 c.constraints → Bounded c.constraints c.rows (predicates c)
bounded c sound = record { sound = sound; few = omega arith; covers = covered c }

module _ (constraints rows questions : List Entry) (n : ℕ) (bounded : Bounded constraints rows n) (j : ℕ) where
  abbrev see : ℕ → ℕ → Look
  see = sees constraints rows questions j

  abbrev stands : ℕ → ℕ → Standing
  stands = standing constraints

  abbrev looks : ℕ → ℕ → Look
  looks known facts = look (truth_set rows questions known facts j)

  abbrev true_at : ℕ → Bool
  true_at o = truth rows questions o j

  -- a settled visit sees the truth at every request that fills in its facts
  right : (b : Bool) (known facts o : ℕ) → looks known facts ≡ cond b Nothing Found → Fills known facts o → true_at o ≡ b
  right b known facts o e a = settled (truth_set rows questions known facts j) b (true_at o) e (filling_truth rows questions known facts o j a)

  -- "At k = n every question is settled", and no constraint waits
  pub settled_at_n : (facts : ℕ) → see (2 ^ n - 1) facts ≡ Open → ⊥
  settled_at_n facts e =
      ⊎_elim
      (waits_no_more (2 ^ n - 1) facts n (bit_known n) constraints bounded.sound bounded.few)
      (λ l. single_settled (true_at facts) (sym (ap look (known_truth rows questions n bounded.covers (2 ^ n - 1) facts j (bit_known n))) ∙ l))
      (heeds_open (stands (2 ^ n - 1) facts) (looks (2 ^ n - 1) facts) e)

  -- a request within the constraints that breaks the question
  abbrev pub breaks : ℕ → Bool
  breaks o = within constraints o && not (true_at o)

  pub nowhere : (known facts o : ℕ) → see known facts ≡ Nothing → Fills known facts o → breaks o ≡ false
  nowhere known facts o e a =
      ⊎_elim
      (λ s. rw (broken_outside known facts o a constraints s))
      (λ l. rw (right true known facts o l a) (and-false (within constraints o)))
      (heeds_nothing (stands known facts) (looks known facts) e)

  pub there : (known facts : ℕ) → OnlyKnown known facts → see known facts ≡ Found → breaks facts ≡ true
  there known facts only e =
      let both = heeds_found (stands known facts) (looks known facts) e in
      rw (kept_within known facts only constraints both.0, right false known facts facts both.1 (λ i h. refl))

  -- so at a request below 2^n the visit that knows all n predicates tells whether it breaks the question
  pub breaks_seen : (m : ℕ) → m < 2 ^ n → finds (see (2 ^ n - 1) m) ≡ breaks m
  breaks_seen m h = go (see (2 ^ n - 1) m) refl
    where
      only : OnlyKnown (2 ^ n - 1) m
      only i e = by_order i n (λ l. never (sym (bit_known n i l) ∙ e)) (bit_above m n i h)

      go : (l : Look) → see (2 ^ n - 1) m ≡ l → finds l ≡ breaks m
      go Nothing e = sym (nowhere (2 ^ n - 1) m m e (λ i k. refl))
      go Found e = sym (there (2 ^ n - 1) m only e)
      go Open e = absurd (settled_at_n m e)

  said : Says see breaks (2 ^ n - 1) nowhere there settled_at_n (predicates_from 0 n) 0 0 (found (walk constraints rows questions n j))
  said = says see breaks (2 ^ n - 1) nowhere there settled_at_n (predicates_from 0 n) 0 0 (begun_all n)

  nothing_known : (o : ℕ) → Fills 0 0 o
  nothing_known o i h = never (sym h ∙ bit_above 0 0 i (omega arith) (omega arith))

  -- a request within the constraints that does not break the question keeps it
  keeps : (o : ℕ) → breaks o ≡ false → within constraints o ≡ true → true_at o ≡ true
  keeps o e w = not-false (true_at o) (rw w at e)

  -- where the walk finds nothing, the question is true at every request within the constraints
  pub nothing_holds : found (walk constraints rows questions n j) ≡ none → (o : ℕ) → within constraints o ≡ true → true_at o ≡ true
  nothing_holds e o = keeps o ((rw e at said) o (nothing_known o))

  -- where it finds a request, that one is within the constraints, breaks the question, has no bit from n up, and every request before it that is within the
  -- constraints keeps the question: over the n predicates, and so over any greater number of them
  pub breaking_first : (m : ℕ) → found (walk constraints rows questions n j) ≡ some m →
      (within constraints m ≡ true) × (true_at m ≡ false) × (m < 2 ^ n)
      × ((more o : ℕ) → comes_before (n + more) o m ≡ true → within constraints o ≡ true → true_at o ≡ true)
  breaking_first m e =
      let b = rw e at said in
      let hit = both_parts (within constraints m) (not (true_at m)) b.hits in
      let none_above : (i : ℕ) → n ≤ i → bit m i ≡ false = λ i l. b.small i (bit_above (2 ^ n - 1) n i (omega (arith, power_positive n)) l) in (
        hit.0,
        not-true (true_at m) hit.1,
        bits_below n m none_above,
        λ more o h. keeps o (b.first o (nothing_known o) (before_fewer n more 0 o m (λ p l. none_above p (omega arith)) h)),
      )

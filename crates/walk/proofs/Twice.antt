-- "Walks get shorter" (02, L3): no walk makes more visits than the one by 01's own choice. Stated of any two seeings of which one is settled wherever the
-- other is, and alike; then of the questions of a table.
-- Assumes nothing.
use mathlib.Core.Path.{◌≡◌, refl, sym, ◌∙◌}
use mathlib.Core.Bool.{Bool, true, false, cond}
use mathlib.Core.List.{List, [], ◌∷◌, ◌++◌, append-nil}
use mathlib.Core.Option.{Option, none, some}
use mathlib.Core.Logic.{⊎_elim}
use Prim.Native.Nat.{ℕ, ◌+◌, ◌-◌, ◌^◌, ◌≤◌}
use native.Mathlib.Omega.{arith}
use lib.ListN.{length, length-append}
use Rattle.belnap.proofs.Finite.{never}
use Rattle.entries.specs.declared.Entry.{Entry}
use Rattle.decide.specs.Requests.{Fills}
use Rattle.questions.specs.Questions.{truth, truth_set}
use Rattle.questions.specs.Twice.{truth_twice}
use Rattle.questions.proofs.TruthSets.{filling_truth}
use Rattle.questions.proofs.Twice.{truth_within_twice}
use Rattle.walk.specs.declared.Look.{Look}
use Rattle.walk.specs.declared.Look.TheVariants.{Nothing, Found, Open}
use Rattle.constraints.specs.declared.Standing.{Standing}
use Rattle.constraints.specs.declared.Standing.TheVariants.{Broken, Waiting, Kept}
use Rattle.constraints.specs.Constraints.{standing}
use Rattle.walk.specs.Walk.{Visit, look, heeding, found_at, found, if_none, or_else, below, visits_from, predicates_from, sees, walk}
use Rattle.walk.specs.Twice.{sees_twice, walk_twice}
use Rattle.walk.proofs.Looks.{settled_within, heeds_nothing, heeds_found}
use Rattle.walk.proofs.Budgets.{below_bound}
use Rattle.walk.proofs.Answers.{Bounded, OnlyKnown, Begun, unknown, unsaid, begun_no, begun_yes, begun_all, less_no, less_yes, found_else, nothing_hit}
use Rattle.walk.proofs.Answers.{breaks, nowhere as breaks_nowhere, there as breaks_there, settled_at_n}

-- one look is settled wherever the other is, and alike
abbrev Sharper : Look → Look → Type 0
Sharper l m = (b : Bool) → m ≡ cond b Nothing Found → l ≡ cond b Nothing Found

-- and so it is where both heed constraints
heeds_sharper : (s : Standing) (l m : Look) → Sharper l m → Sharper (heeding s l) (heeding s m)
heeds_sharper Broken l m h b e = e
heeds_sharper Waiting l m h true e = ⊎_elim (λ broken. never cc) (λ nothing. rw (h true nothing)) (heeds_nothing Waiting m e)
heeds_sharper Waiting l m h false e = let kept = (heeds_found Waiting m e).0 in never cc
heeds_sharper Kept l m h b e = h b e

-- fewer visits below a visit, and fewer behind others
below_fewer : (l m : Look) (vs ws : List Visit) → Sharper l m → length vs ≤ length ws → length (below l vs) ≤ length (below m ws)
below_fewer l Nothing vs ws s h = rw (s true refl) (omega arith)
below_fewer l Found vs ws s h = rw (s false refl) (omega arith)
below_fewer l Open vs ws s h = omega (arith, below_bound l vs)

else_fewer : (f g : Option ℕ) (vs ws first second : List Visit) → (f ≡ none → g ≡ none) → length vs ≤ length first →
    length ws ≤ length second → length (vs ++ if_none f ws) ≤ length (first ++ if_none g second)
else_fewer none g vs ws first second e h k = rw (e refl) (omega (arith, length-append vs ws, length-append first second))
else_fewer (some m) g vs ws first second e h k = rw (append-nil vs) (omega (arith, length-append first (if_none g second)))

-- a visit that did not find, before visits that found nothing
look_nothing : (l : Look) (facts : ℕ) (later : Option ℕ) → (l ≡ Found → ⊥) → later ≡ none → found_at l facts later ≡ none
look_nothing Nothing facts later h e = e
look_nothing Found facts later h e = absurd (h refl)
look_nothing Open facts later h e = e

below_nothing : (l : Look) (vs : List Visit) → found vs ≡ none → found (below l vs) ≡ none
unfolding found
below_nothing Nothing vs e = refl
below_nothing Found vs e = refl
below_nothing Open vs e = e

module _ (see wide : ℕ → ℕ → Look) (hit : ℕ → Bool) (all : ℕ)
    (nowhere : (known facts o : ℕ) → see known facts ≡ Nothing → Fills known facts o → hit o ≡ false)
    (there : (known facts : ℕ) → OnlyKnown known facts → see known facts ≡ Found → hit facts ≡ true)
    (shut : (facts : ℕ) → see all facts ≡ Open → ⊥)
    (sharper : (known facts : ℕ) → Sharper (see known facts) (wide known facts)) where
  not_here : (known facts : ℕ) → OnlyKnown known facts → ((o : ℕ) → Fills known facts o → hit o ≡ false) → wide known facts ≡ Found → ⊥
  not_here known facts only none-hit e = never (sym (there known facts only (sharper known facts false e)) ∙ none-hit facts (λ i h. refl))

  -- where no filling of the facts is a hit, the other walk finds nothing either
  finds_nothing : (ps : List ℕ) (known facts : ℕ) → Begun all ps known facts → ((o : ℕ) → Fills known facts o → hit o ≡ false) →
      found (visits_from wide ps known facts) ≡ none
  unfolding visits_from found
  finds_nothing [] known facts b none-hit = look_nothing (wide known facts) facts none (not_here known facts b.only none-hit) refl
  finds_nothing (p ∷ ps) known facts b none-hit =
      let first = visits_from wide ps (known + 2 ^ p) facts in
      let second = visits_from wide ps (known + 2 ^ p) (facts + 2 ^ p) in
      let a = finds_nothing ps (known + 2 ^ p) facts (begun_no b) (λ o f. none-hit o (less_no known facts p (unknown b) (unsaid b) o f)) in
      let c = finds_nothing ps (known + 2 ^ p) (facts + 2 ^ p) (begun_yes b) (λ o f. none-hit o (less_yes known facts p (unknown b) (unsaid b) o f)) in
      look_nothing (wide known facts) facts (found (below (wide known facts) (or_else first second))) (not_here known facts b.only none-hit)
      (below_nothing (wide known facts) (or_else first second) (found_else first second ∙ rw (a, c)))

  fewer_visits : (ps : List ℕ) (known facts : ℕ) → Begun all ps known facts →
      length (visits_from see ps known facts) ≤ length (visits_from wide ps known facts)
  unfolding visits_from
  fewer_visits [] known facts b = omega arith
  fewer_visits (p ∷ ps) known facts b =
      let vs = visits_from see ps (known + 2 ^ p) facts in
      let ws = visits_from see ps (known + 2 ^ p) (facts + 2 ^ p) in
      let first = visits_from wide ps (known + 2 ^ p) facts in
      let second = visits_from wide ps (known + 2 ^ p) (facts + 2 ^ p) in
      let nothing : found vs ≡ none → found first ≡ none =
      λ e. finds_nothing ps (known + 2 ^ p) facts (begun_no b) (nothing_hit see hit all nowhere there shut ps (known + 2 ^ p) facts (begun_no b) e) in
      let both = else_fewer (found vs) (found first) vs ws first second nothing (fewer_visits ps (known + 2 ^ p) facts (begun_no b))
      (fewer_visits ps (known + 2 ^ p) (facts + 2 ^ p) (begun_yes b)) in
      omega (arith, below_fewer (see known facts) (wide known facts) (or_else vs ws) (or_else first second) (sharper known facts) both)

-- the questions of a table
module _ (constraints rows questions : List Entry) (n : ℕ) (bounded : Bounded constraints rows n) (j : ℕ) where
  settled_still : (known facts : ℕ) → Sharper (look (truth_set rows questions known facts j)) (look (truth_twice rows questions known facts j))
  settled_still known facts b =
      settled_within (truth_set rows questions known facts j) (truth_twice rows questions known facts j) b (truth rows questions facts j)
      (truth_within_twice rows questions known facts j) (filling_truth rows questions known facts facts j (λ i h. refl))

  sharper : (known facts : ℕ) → Sharper (sees constraints rows questions j known facts) (sees_twice constraints rows questions j known facts)
  sharper known facts = heeds_sharper (standing constraints known facts) _ _ (settled_still known facts)

  pub no_longer : length (walk constraints rows questions n j) ≤ length (walk_twice constraints rows questions n j)
  no_longer =
      fewer_visits (sees constraints rows questions j) (sees_twice constraints rows questions j) (breaks constraints rows questions n bounded j) (2 ^ n - 1)
      (breaks_nowhere constraints rows questions n bounded j) (breaks_there constraints rows questions n bounded j)
      (settled_at_n constraints rows questions n bounded j) sharper
      (predicates_from 0 n) 0 0 (begun_all n)

-- The walk over more predicates, and over rows under new numbers: the same visits, so the same verdict, request and count with every budget (the letter's
-- second demand; decide/proofs/Renaming.antt, questions/proofs/Renaming.antt).
-- Assumes nothing.
use mathlib.Core.Path.{◌≡◌, refl, sym, ap, fun_ext, ◌∙◌}
use mathlib.Core.List.{List, [], ◌∷◌, ◌++◌}
use Prim.Native.Nat.{ℕ, zero, suc, ◌+◌, ◌-◌, ◌^◌, ◌≤◌}
use native.Mathlib.Omega.{arith}
use Rattle.entries.specs.declared.Entry.{Entry}
use Rattle.decide.proofs.Renaming.{Renames}
use Rattle.questions.proofs.Renaming.{Follows, truths_kept}
use Rattle.walk.specs.declared.Look.{Look}
use Rattle.walk.specs.declared.Look.TheVariants.{Nothing, Found, Open}
use Rattle.possible.specs.Sets.{truths, Set}
use Rattle.constraints.specs.Constraints.{standing}
use Rattle.walk.specs.Walk.{Visit, look, heeding, visit, or_else, below, visits_from, predicates_from, walk_by, sees, walk}
use Rattle.walk.proofs.Answers.{Bounded, tried, begun_all, settled_at_n}

-- a walk in which every visit is settled once a list of predicates is tried makes no other visits where more are left
below_shut : (l : Look) (vs : List Visit) → (l ≡ Open → ⊥) → [] ≡ below l vs
below_shut Nothing vs h = refl
below_shut Found vs h = refl
below_shut Open vs h = absurd (h refl)

walk_shut : (see : ℕ → ℕ → Look) (ps more : List ℕ) (known facts : ℕ) → ((facts : ℕ) → see (tried ps known) facts ≡ Open → ⊥) →
    visits_from see ps known facts ≡ visits_from see (ps ++ more) known facts
unfolding visits_from tried
walk_shut see [] [] known facts shut = refl
walk_shut see [] (p ∷ more) known facts shut =
    let both = or_else (visits_from see more (known + 2 ^ p) facts) (visits_from see more (known + 2 ^ p) (facts + 2 ^ p)) in
    ap (λ (vs : List Visit). visit see known facts ∷ vs) (below_shut (see known facts) both (shut facts))
walk_shut see (p ∷ ps) more known facts shut =
    rw (walk_shut see ps more (known + 2 ^ p) facts shut, walk_shut see ps more (known + 2 ^ p) (facts + 2 ^ p) shut)

predicates_more : (k left more : ℕ) → predicates_from k left ++ predicates_from (k + left) more ≡ predicates_from k (left + more)
unfolding predicates_from
predicates_more k zero more =
    let p : k + 0 ≡ k = omega arith in
    let q : 0 + more ≡ more = omega arith in
    rw (p, q)
predicates_more k (suc left) more =
    let p : k + suc left ≡ k + 1 + left = omega arith in
    let q : suc left + more ≡ suc (left + more) = omega arith in
    rw (p, q) (ap (λ (ps : List ℕ). k ∷ ps) (predicates_more (k + 1) left more))

-- so the walk is the same for every n that covers the predicates used
pub more_predicates : (constraints rows questions : List Entry) (n : ℕ) → Bounded constraints rows n → (m : ℕ) → n ≤ m → (j : ℕ) →
    walk constraints rows questions n j ≡ walk constraints rows questions m j
more_predicates constraints rows questions n bounded m l j =
    let see = sees constraints rows questions j in
    let sum : n + (m - n) ≡ m = omega arith in
    walk_shut see (predicates_from 0 n) (predicates_from (0 + n) (m - n)) 0 0
    (λ facts e. settled_at_n constraints rows questions n bounded j facts (ap (λ (known : ℕ). see known facts) (sym (begun_all n).ends) ∙ e))
    ∙ ap (λ (ps : List ℕ). visits_from see ps 0 0) (predicates_more 0 n (m - n) ∙ ap (predicates_from 0) sum)

-- the questions of a table whose rows got new numbers
module _ {new : ℕ → ℕ} {Kept : ℕ → Type 0} {rows others questions asked : List Entry}
    (r : Renames new Kept rows others) (w : Follows new Kept questions asked) where
  sees_kept : (constraints : List Entry) (j : ℕ) → sees constraints others asked j ≡ sees constraints rows questions j
  sees_kept constraints j =
      fun_ext (λ known. fun_ext (λ facts. ap (λ (t : Set truths). heeding (standing constraints known facts) (look t)) (truths_kept r w known facts j)))

  -- with the same constraints, though n may be smaller now
  pub walk_kept : (constraints : List Entry) (n : ℕ) → Bounded constraints others n → (m : ℕ) → n ≤ m → (j : ℕ) →
      walk constraints others asked n j ≡ walk constraints rows questions m j
  walk_kept constraints n bounded m l j =
      more_predicates constraints others asked n bounded m l j ∙ ap (λ (see : ℕ → ℕ → Look). walk_by see m) (sees_kept constraints j)

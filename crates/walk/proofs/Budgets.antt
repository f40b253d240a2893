-- Budgets (the letter's third demand): a larger budget brings the same verdict, request and count; and 2^(n+1) - 1 visits are always enough.
-- Assumes nothing.
use mathlib.Core.Path.{◌≡◌, refl, sym, ap, ◌∙◌}
use mathlib.Core.List.{List, [], ◌∷◌, ◌++◌, append-nil}
use mathlib.Core.Option.{Option, none, some}
use lib.ListN.{length, length-append}
use Prim.Native.Nat.{ℕ, zero, suc, ◌+◌, ◌^◌, ◌≤◌, ◌<◌}
use native.Mathlib.Omega.{arith}
use native.Mathlib.Nat.{two-pow-succ}
use Rattle.entries.proofs.Numbers.{by_order}
use Rattle.walk.specs.declared.Look.{Look}
use Rattle.walk.specs.declared.Look.TheVariants.{Nothing, Found, Open}
use Rattle.walk.specs.declared.Reply.TheVariants.{Unfinished}
use Rattle.walk.specs.Walk.{Visit, found, if_none, or_else, below, visits_from, predicates_from, walk_by, reply_of}
use Rattle.walk.proofs.Replies.{reply_within, reply_beyond}

-- "if some budget brings a verdict, every larger budget brings the same verdict, the same first request and the same count of visits"
pub more_never_unsays : (b more : ℕ) (vs : List Visit) → b ≤ more → (reply_of b vs ≡ Unfinished b → ⊥) → reply_of more vs ≡ reply_of b vs
more_never_unsays b more vs l h =
    by_order b (length vs)
    (λ g. absurd (h (reply_beyond b vs g)))
    (λ g. reply_within more vs (omega arith) ∙ sym (reply_within b vs g))

-- a walk over so many predicates makes fewer visits than two to one more
pub below_bound : (l : Look) (vs : List Visit) → length (below l vs) ≤ length vs
below_bound Nothing vs = omega arith
below_bound Found vs = omega arith
below_bound Open vs = omega arith

else_bound : (f : Option ℕ) (first second : List Visit) → length (first ++ if_none f second) ≤ length first + length second
else_bound none first second = omega (arith, length-append first second)
else_bound (some m) first second = rw (append-nil first) (omega arith)

visits_bound : (see : ℕ → ℕ → Look) (ps : List ℕ) (known facts : ℕ) → length (visits_from see ps known facts) < 2 ^ suc (length ps)
unfolding visits_from
visits_bound see [] known facts = omega arith
visits_bound see (p ∷ ps) known facts =
    let first = visits_from see ps (known + 2 ^ p) facts in
    let second = visits_from see ps (known + 2 ^ p) (facts + 2 ^ p) in
    let a = visits_bound see ps (known + 2 ^ p) facts in
    let b = visits_bound see ps (known + 2 ^ p) (facts + 2 ^ p) in
    omega (arith, below_bound (see known facts) (or_else first second), else_bound (found first) first second, two-pow-succ (suc (length ps)), a, b)

so_many : (k left : ℕ) → length (predicates_from k left) ≡ left
unfolding predicates_from
so_many k zero = refl
so_many k (suc left) = ap suc (so_many (k + 1) left)

pub walk_bound : (see : ℕ → ℕ → Look) (n : ℕ) → length (walk_by see n) < 2 ^ suc n
walk_bound see n = rw (so_many 0 n) at (visits_bound see (predicates_from 0 n) 0 0)

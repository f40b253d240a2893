-- Constraints and the requests that fill known facts in (02, L5): where the facts break one, no filling is within them; where none is broken and none waits,
-- the facts with every other predicate no are; and with all their predicates known none waits.
-- Assumes nothing.
use mathlib.Core.Path.{◌≡◌, refl, sym, ◌∙◌}
use mathlib.Core.Bool.{Bool, true, false, not, and-false}
use mathlib.Core.List.{List, [], ◌∷◌}
use Prim.Native.Nat.{ℕ, suc, ◌≤◌, ◌<◌}
use native.Mathlib.Omega.{arith}
use borrow.Author.Tests.{not-true}
use Rattle.belnap.proofs.Finite.{never, both_parts, or_part, neither}
use Rattle.kinds.specs.declared.ConstraintKind.{ConstraintKind}
use Rattle.kinds.specs.declared.ConstraintKind.TheVariants.{NeverBoth, OnlyIf}
use Rattle.kinds.specs.Kinds.{as_constraint}
use Rattle.entries.specs.declared.Entry.{Entry}
use Rattle.entries.specs.Lists.{some, every}
use Rattle.table.specs.Whole.{Each, ConstraintAt}
use Rattle.table.specs.Contents.{highest}
use Rattle.table.proofs.Laws.{constraint_uses}
use Rattle.decide.specs.Meaning.{bit}
use Rattle.decide.specs.Requests.{Fills, AllKnown}
use Rattle.constraints.specs.declared.Standing.TheVariants.{Broken, Waiting, Kept}
use Rattle.constraints.specs.Constraints.{keeps, kept_by, within, known_yes, known_no, breaks, waits, broken_by, waited_by, standing_by, standing}

-- what each outcome tells of the two tests
standing_tells : (p q : Bool) → (standing_by p q ≡ Broken → p ≡ true) × (standing_by p q ≡ Waiting → (p ≡ false) × (q ≡ true)) ×
    (standing_by p q ≡ Kept → (p ≡ false) × (q ≡ false))
standing_tells true q = (λ e. refl, λ e. never cc, λ e. never cc)
standing_tells false true = (λ e. never cc, λ e. (refl, refl), λ e. never cc)
standing_tells false false = (λ e. never cc, λ e. never cc, λ e. (refl, refl))

-- the facts say yes only of what is known
abbrev pub OnlyKnown : ℕ → ℕ → Type 0
OnlyKnown known facts = (i : ℕ) → bit known i ≡ false → bit facts i ≡ false

module _ (known facts : ℕ) where
  -- facts that break a constraint
  module _ (o : ℕ) (fills : Fills known facts o) where
    said : (p : ℕ) (b : Bool) → bit known p ≡ true → bit facts p ≡ b → bit o p ≡ b
    said p b k e = fills p k ∙ e

    one_broken : (kind : ConstraintKind) (a b : ℕ) → breaks kind known facts a b ≡ true → keeps kind (bit o a) (bit o b) ≡ false
    one_broken NeverBoth a b h =
        let both = both_parts (known_yes known facts a) (known_yes known facts b) h in
        let first = both_parts (bit known a) (bit facts a) both.0 in
        let second = both_parts (bit known b) (bit facts b) both.1 in
        rw (said a true first.0 first.1, said b true second.0 second.1)
    one_broken OnlyIf a b h =
        let both = both_parts (known_yes known facts a) (known_no known facts b) h in
        let first = both_parts (bit known a) (bit facts a) both.0 in
        let second = both_parts (bit known b) (not (bit facts b)) both.1 in
        rw (said a true first.0 first.1, said b false second.0 (not-true (bit facts b) second.1))

    not_within : (constraints : List Entry) → some (broken_by known facts) constraints ≡ true → every (kept_by o) constraints ≡ false
    not_within [] h = never (sym h)
    not_within (e ∷ more) h =
        or_part (broken_by known facts e) (some (broken_by known facts) more) h
        (λ b. rw (one_broken (as_constraint e.kind) e.a e.b b))
        (λ b. rw (not_within more b) (and-false (kept_by o e)))

    pub broken_outside : (constraints : List Entry) → standing constraints known facts ≡ Broken → within constraints o ≡ false
    unfolding standing within
    broken_outside constraints h =
        not_within constraints ((standing_tells (some (broken_by known facts) constraints) (some (waited_by known facts) constraints)).0 h)

  -- facts that keep each, and of which none waits
  module _ (only : OnlyKnown known facts) where
    known_if : (p : ℕ) → bit facts p ≡ true → bit known p ≡ true
    known_if p e = go (bit known p) refl
      where
        go : (b : Bool) → bit known p ≡ b → b ≡ true
        go true q = refl
        go false q = never (sym e ∙ only p q)

    one_kept : (kind : ConstraintKind) (a b : ℕ) → breaks kind known facts a b ≡ false → waits kind known facts a b ≡ false →
        keeps kind (bit facts a) (bit facts b) ≡ true
    one_kept NeverBoth a b h w = go (bit facts a) refl (bit facts b) refl
      where
        go : (x : Bool) → bit facts a ≡ x → (y : Bool) → bit facts b ≡ y → keeps NeverBoth x y ≡ true
        go false p y q = refl
        go true p false q = refl
        go true p true q = never (rw (known_if a p, p, known_if b q, q) at h)
    one_kept OnlyIf a b h w = go (bit facts a) refl (bit facts b) refl
      where
        go : (x : Bool) → bit facts a ≡ x → (y : Bool) → bit facts b ≡ y → keeps OnlyIf x y ≡ true
        go false p y q = refl
        go true p true q = refl
        go true p false q = seen (bit known b) refl
          where
            seen : (k : Bool) → bit known b ≡ k → keeps OnlyIf true false ≡ true
            seen true k = never (rw (known_if a p, p, k, q) at h)
            seen false k = never (rw (known_if a p, p, k) at w)

    all_kept : (constraints : List Entry) → some (broken_by known facts) constraints ≡ false → some (waited_by known facts) constraints ≡ false →
        every (kept_by facts) constraints ≡ true
    all_kept [] h w = refl
    all_kept (e ∷ more) h w =
        let unbroken = neither (broken_by known facts e) (some (broken_by known facts) more) h in
        let unwaited = neither (waited_by known facts e) (some (waited_by known facts) more) w in
        rw (one_kept (as_constraint e.kind) e.a e.b unbroken.0 unwaited.0, all_kept more unbroken.1 unwaited.1)

    pub kept_within : (constraints : List Entry) → standing constraints known facts ≡ Kept → within constraints facts ≡ true
    unfolding standing within
    kept_within constraints h =
        let none = (standing_tells (some (broken_by known facts) constraints) (some (waited_by known facts) constraints)).2 h in
        all_kept constraints none.0 none.1

  -- all their predicates are known
  module _ (n : ℕ) (all : AllKnown n known) where
    one_waits_not : (kind : ConstraintKind) (a b : ℕ) → b < n → waits kind known facts a b ≡ false
    one_waits_not NeverBoth a b l = refl
    one_waits_not OnlyIf a b l = rw (all b l) (and-false (known_yes known facts a))

    waits_not : (i : ℕ) (constraints : List Entry) → Each ConstraintAt i constraints → highest constraints ≤ n →
        some (waited_by known facts) constraints ≡ false
    unfolding highest
    waits_not i [] h l = refl
    waits_not i (e ∷ more) h l =
        let below = (constraint_uses e h.0.in_part).1 in
        rw (one_waits_not (as_constraint e.kind) e.a e.b (omega (arith, below, l))) (waits_not (suc i) more h.1 (omega arith))

    pub waits_no_more : (constraints : List Entry) → Each ConstraintAt 0 constraints → highest constraints ≤ n →
        standing constraints known facts ≡ Waiting → ⊥
    unfolding standing
    waits_no_more constraints h l e =
        never (sym ((standing_tells (some (broken_by known facts) constraints) (some (waited_by known facts) constraints)).1 e).1
        ∙ waits_not 0 constraints h l)

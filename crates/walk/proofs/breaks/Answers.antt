-- That `breaks` (src/lib.rt) keeps its promise.
use Rattle.std.proofs.Common.{◌≡◌, ◌-◌, ◌^◌, ◌∙◌, ℕ, true, false, refl, sym}
use Rattle.std.proofs.Math.Option.{none}
use borrow.Author.Tests.{lt-leb}
use lib.Dec.{leb}
use Rattle.table.specs.Steps.{predicate_limit, question_limit}
use Rattle.walk.specs.declared.Look.{Look}
use Rattle.walk.specs.declared.Look.TheVariants.{Nothing, Found, Open}
use Rattle.walk.specs.declared.Reply.{Reply}
use Rattle.walk.specs.declared.Reply.TheVariants.{Fails}
use Rattle.walk.specs.Walk.{found_at, found, visits_from, predicates_from, sees, ended, reply_of}
use Rattle.walk.specs.Inner.{bounds_in, finds, walk_from}
use Rattle.walk.proofs.breaks.Goals as goal
use Rattle.walk.proofs.breaks.Goals.{After-walk_at}

-- the walk of one visit, which knows every predicate, ends by what that sees
one_visit : (see : ℕ → ℕ → Look) (m : ℕ) →
    reply_of 1 (walk_from see predicate_limit predicate_limit m) ≡ ended (found_at (see (2 ^ predicate_limit - 1) m) m none) 1
unfolding reply_of visits_from predicates_from found
one_visit see m = refl

fails_found : (l : Look) (m o k : ℕ) → Fails o k ≡ ended (found_at l m none) 1 → true ≡ finds l
fails_found Nothing m o k e = cc
fails_found Found m o k e = refl
fails_found Open m o k e = cc

fails_not : (l : Look) (m : ℕ) (r : Reply) → r ≡ ended (found_at l m none) 1 → ((o k : ℕ) → r ≡ Fails o k → ⊥) → false ≡ finds l
fails_not Nothing m r e not = refl
fails_not Found m r e not = absurd (not m 1 e)
fails_not Open m r e not = refl

-- what that visit sees, and how the walk ends by it
abbrev seen : After-walk_at → Look
seen c = let a = c.args in sees (bounds_in a.t) a.t.rows a.t.questions a.question (2 ^ predicate_limit - 1) a.request

ends : (c : After-walk_at) → c.walk_at.result ≡ ended (found_at (seen c) c.args.request none) 1
ends c =
    let a = c.args in
    c.walk_at.ensures ∙ one_visit (sees (bounds_in a.t) a.t.rows a.t.questions a.question) a.request

-- the question has room, and the request has no bit beyond the predicates
there : (c : After-walk_at) → leb question_limit c.args.question ≡ false
there c = lt-leb _ _ c.if-question-ge-QUESTIONS.false

in_masks : (c : After-walk_at) → leb (2 ^ predicate_limit) c.args.request ≡ false
in_masks c = lt-leb _ _ c.if-request-ge-MASKS.false

pub returns-in-Fails : goal.returns-in-Fails
returns-in-Fails c = rw (there c.before, in_masks c.before) (fails_found (seen c.before) _ _ _ (sym c.in-Fails.is ∙ ends c.before))

pub returns-in_default : goal.returns-in_default
returns-in_default c = rw (there c.before, in_masks c.before) (fails_not (seen c.before) _ _ (ends c.before) c.in_default.not-Fails)

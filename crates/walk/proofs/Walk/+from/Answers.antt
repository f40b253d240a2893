-- That `from` (src/lib.rt) keeps its promise.
use Rattle.std.proofs.Common.{sym, ◌∙◌, arith}
use Rattle.walk.specs.Seeing.{sees_in}
use Rattle.walk.proofs.Replies.{count_of_lem, held_count, ends_here, goes_below, first_ends, second_ends}
use Rattle.walk.proofs.Walk.+from.Goals as goal

-- where no visit is made below one, the walk is that visit
pub returns-then-not-goes_on-clause-reply : goal.returns-then-not-goes_on-clause-reply
returns-then-not-goes_on-clause-reply t c =
    let a = c.args in
    c.settled.ensures
    ∙ ends_here (sees_in a.self.now) a.n a.k a.facts a.budget c.visit-seen.result
    (sym c.visit-seen.ensures.sight) (sym c.goes_on.ensures ∙ c.if-not-goes_on.true) (omega arith)

-- the budget has the visit, and the walk with predicate k no keeps to what is left
pub plus-requires : goal.plus-requires
plus-requires t c = (omega arith, count_of_lem c.from-first.result _ _ c.from-first.ensures.reply)

-- where that walk did not hold, its reply is the walk's
pub returns-in_default-clause-reply : goal.returns-in_default-clause-reply
returns-in_default-clause-reply t c =
    let a = c.args in
    let below = goes_below c.visit-seen.result a.k a.n (sym c.goes_on.ensures ∙ c.if-not-goes_on.false) in
    c.plus.ensures
    ∙ first_ends (sees_in a.self.now) a.n a.k a.facts a.budget below.1
    (omega arith) (sym c.visit-seen.ensures.sight ∙ below.0) c.from-first.result
    (rw c.visit-seen.ensures.kept at c.from-first.ensures.reply) c.in_default.not-Holds

-- the visits of a walk that held are within its budget
pub overflow_sub-budget-3 : goal.overflow_sub-budget-3
overflow_sub-budget-3 t c = held_count c.from-first.result c.in-Holds.a _ _ c.from-first.ensures.reply c.in-Holds.is

pub overflow_add-a : goal.overflow_add-a
overflow_add-a t c =
    let within = held_count c.from-first.result c.in-Holds.a _ _ c.from-first.ensures.reply c.in-Holds.is in
    record { fits = omega (arith, within, c.ranges.budget.fits) }

pub plus-requires-2 : goal.plus-requires-2
plus-requires-2 t c =
    let within = held_count c.from-first.result c.in-Holds.a _ _ c.from-first.ensures.reply c.in-Holds.is in
    let last = count_of_lem c.from-second.result _ _ c.from-second.ensures.reply in
    (omega (arith, within), omega (arith, last))

-- and otherwise the walk with predicate k yes ends it
pub returns-clause-reply : goal.returns-clause-reply
returns-clause-reply t c =
    let a = c.args in
    let below = goes_below c.visit-seen.result a.k a.n (sym c.goes_on.ensures ∙ c.if-not-goes_on.false) in
    let within = held_count c.from-first.result c.in-Holds.a _ _ c.from-first.ensures.reply c.in-Holds.is in
    c.plus-2.ensures
    ∙ second_ends (sees_in a.self.now) a.n a.k a.facts a.budget below.1
    (omega arith) (sym c.visit-seen.ensures.sight ∙ below.0) c.from-first.result c.from-second.result c.in-Holds.a
    (rw c.visit-seen.ensures.kept at c.from-first.ensures.reply) c.in-Holds.is within
    (rw (c.with_yes-yes.ensures.0, c.from-first.ensures.kept, c.visit-seen.ensures.kept) at c.from-second.ensures.reply)

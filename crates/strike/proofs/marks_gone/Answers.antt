use Rattle.std.proofs.Common.{arith}
use Rattle.strike.proofs.Marks.{last_gone, next_gone}
use Rattle.strike.proofs.marks_gone.Goals as goal

pub returns-then-owners-r : goal.returns-then-owners-r
returns-then-owners-r c =
    let gone = last_gone c.args.owners.now c.args.r _ c.requires c.in_force_before-prior.ensures c.if-owners-r.true in
    omega (arith, c.change_size-first.ensures.0)

pub overflow_sub-result : goal.overflow_sub-result
overflow_sub-result c =
    (next_gone c.args.owners.now c.args.r _ c.requires c.in_force_before-prior.ensures c.if-owners-r.false _ _ _ c.change_size-first.ensures.0
    c.change_size.ensures.0 c.change_size-2.ensures.0).0

pub returns : goal.returns
returns c =
    (next_gone c.args.owners.now c.args.r _ c.requires c.in_force_before-prior.ensures c.if-owners-r.false _ _ _ c.change_size-first.ensures.0
    c.change_size.ensures.0 c.change_size-2.ensures.0).1

-- That `gather` (src/lib.rt) keeps its promise.
use Rattle.std.proofs.Common.{refl, arith}
use Rattle.text.proofs.Gathering.{at_start, turn_bad, turn_next, turn_out, turn_room, turn_in, gathered}
use Rattle.text.proofs.gather.Goals as goal

pub loop-at-init : goal.loop-at-init
loop-at-init c = at_start c.args.text.now _ refl

pub placed_line-well-requires : goal.placed_line-well-requires
placed_line-well-requires c = (turn_next c.loop-at.invariant c.loop-at-test.true _ c.line_at-found.ensures c.in-Ok.e c.in-Ok.is).1

pub overflow_add-length : goal.overflow_add-length
overflow_add-length c =
    let room = turn_room c.loop-at.invariant c.loop-at-test.true _ c.line_at-found.ensures c.in-Ok.e c.in-Ok.is
    _ c.placed_line-well.ensures _ c.enter.ensures c.in-Ok-enter.more c.in-Ok-enter.is in
    record { fits = omega (arith, room, c.put-length.ensures.0) }

pub own_unless-requires : goal.own_unless-requires
own_unless-requires c =
    let next = turn_next c.loop-at.invariant c.loop-at-test.true _ c.line_at-found.ensures c.in-Ok.e c.in-Ok.is in
    (next.1, next.2)

pub returns-in-Err-enter : goal.returns-in-Err-enter
returns-in-Err-enter c =
    rw c.own_unless.ensures
    (turn_out c.loop-at.invariant c.loop-at-test.true _ c.line_at-found.ensures c.in-Ok.e c.in-Ok.is
    _ c.placed_line-well.ensures _ c.enter.ensures c.in-Err-enter.why c.in-Err-enter.is)

pub returns-in-Err : goal.returns-in-Err
returns-in-Err c = rw c.on_line.ensures (turn_bad c.loop-at.invariant c.loop-at-test.true _ c.line_at-found.ensures c.in-Err.why c.in-Err.is)

pub loop-at-smaller : goal.loop-at-smaller
loop-at-smaller c =
    let next = turn_next c.loop-at.invariant c.loop-at-test.true _ c.line_at-found.ensures c.in-Ok.e c.in-Ok.is in
    omega (arith, next.0, next.1)

pub loop-at-preserved : goal.loop-at-preserved
loop-at-preserved c =
    turn_in c.loop-at.invariant c.loop-at-test.true _ c.line_at-found.ensures c.in-Ok.e c.in-Ok.is
    _ c.placed_line-well.ensures _ c.enter.ensures c.in-Ok-enter.more c.in-Ok-enter.is
    _ _ _ _ refl c.put-length.ensures.1 c.put-length.ensures.0 c.behind-force.ensures

pub returns : goal.returns
returns c = gathered c.loop-at.invariant c.loop-at-test.false

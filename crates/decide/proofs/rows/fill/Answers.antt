-- That `fill` (src/rows.rt) keeps its promise.
use Rattle.std.proofs.Common.{◌≡◌, ◌<◌, arith, min, length, get_or, take}
use Rattle.std.proofs.lemmas.List.{get_or-take, length-take}
use Rattle.entries.specs.Entries.{blank}
use Rattle.decide.proofs.Filled.{filled_none, filled_more}
use Rattle.decide.proofs.rows.fill.Goals as goal

pub loop-i-init : goal.loop-i-init
loop-i-init g c = filled_none _

pub loop-i-preserved : goal.loop-i-preserved
loop-i-preserved g c =
    let es = c.args.entries.now in
    let i = c.loop-i.i in
    let end = c.min-end.result in
    let here : i < min end (length es) = rw length-take at c.loop-i-test.true in
    let e : get_or (take end es) i blank ≡ get_or es i blank = get_or-take end es i blank (omega arith) in
    filled_more i c.args.values.now c.loop-i.values c.value-v.result c.loop-i.invariant (omega (arith, c.min-end.ensures))
    (rw (← e) (rw (c.read-read.ensures, c.value_at-x.ensures, c.value_at-y.ensures) at c.value-v.ensures))

pub returns : goal.returns
returns g c =
    let es = c.args.entries.now in
    let all : c.loop-i.i ≡ min (length es) (length c.args.values.now) = omega (arith, length-take c.min-end.result es, c.min-end.ensures) in
    rw all at c.loop-i.invariant

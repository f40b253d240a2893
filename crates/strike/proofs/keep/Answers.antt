use Rattle.std.proofs.Common.{refl, arith}
use Rattle.strike.proofs.Filling.{filled_none, list_filled, entry_room, entry_more}
use Rattle.strike.proofs.keep.Goals as goal

pub loop-e-init : goal.loop-e-init
loop-e-init c = filled_none c.args.constraints.now c.args.out.now c.requires

pub overflow_add-end : goal.overflow_add-end
overflow_add-end c = record { fits = omega (arith, entry_room c.loop-e.invariant c.loop-e-test.true _ refl, c.put-end.ensures.0) }

pub loop-e-preserved : goal.loop-e-preserved
loop-e-preserved c = entry_more c.loop-e.invariant c.loop-e-test.true _ refl _ _ _ refl c.put-end.ensures.0 c.put-end.ensures.1

pub returns : goal.returns
returns c = list_filled c.loop-e.invariant c.loop-e-test.false

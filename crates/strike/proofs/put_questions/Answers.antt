use Rattle.std.proofs.Common.{length, map, refl, sym, ◌∙◌, ◌<◌, arith}
use Rattle.std.proofs.Math.ListN.{length-map}
use Rattle.strike.specs.Strike.{lowered}
use Rattle.strike.proofs.Closing.{lowered_at}
use Rattle.strike.proofs.Filling.{filled_none, list_filled, entry_room, entry_more}
use Rattle.strike.proofs.put_questions.Goals as goal

pub loop-e-init : goal.loop-e-init
loop-e-init c = filled_none (map (lowered c.args.r) c.args.questions.now) c.args.out.now c.requires

pub overflow_add-end : goal.overflow_add-end
overflow_add-end c =
    let qs = c.args.questions.now in
    let is = c.lowered_of.ensures ∙ sym (lowered_at c.args.r qs c.loop-e.e-index) in
    let l : c.loop-e.e-index < length (map (lowered c.args.r) qs) = omega (arith, length-map qs (lowered c.args.r)) in
    record { fits = omega (arith, entry_room c.loop-e.invariant l _ is, c.put-end.ensures.0) }

pub loop-e-preserved : goal.loop-e-preserved
loop-e-preserved c =
    let qs = c.args.questions.now in
    let is = c.lowered_of.ensures ∙ sym (lowered_at c.args.r qs c.loop-e.e-index) in
    let l : c.loop-e.e-index < length (map (lowered c.args.r) qs) = omega (arith, length-map qs (lowered c.args.r)) in
    entry_more c.loop-e.invariant l _ is _ _ _ refl c.put-end.ensures.0 c.put-end.ensures.1

pub returns : goal.returns
returns c =
    let qs = c.args.questions.now in
    list_filled c.loop-e.invariant (omega (arith, length-map qs (lowered c.args.r)))

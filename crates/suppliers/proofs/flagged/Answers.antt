use Rattle.std.proofs.Common.{rules, refl, arith, length-set, ◌<◌, ◌∷◌, [], false, length, length-append, length-take-le, ◌∙◌, take}
use Rattle.std.proofs.lemmas.List.{get_or-take}
use Rattle.std.proofs.lemmas.Slice.Zip.{zip_turn}
use Rattle.entries.specs.Entries.{number_limit}
use Rattle.decide.specs.Reach.{passing}
use Rattle.suppliers.proofs.Flags.{none_set, supplier_raised}
use Rattle.suppliers.proofs.flagged.Goals as goal

pub loop-s-init : goal.loop-s-init
unfolding passing
loop-s-init c = record { long = refl; shown = none_set number_limit }

pub loop-s-preserved : goal.loop-s-preserved
loop-s-preserved c =
    let l = c.loop-s in
    let ss = c.args.suppliers.now in
    let turn = zip_turn (take c.args.end ss) c.args.marks.now l.yielded c.into_iter-s-iterator.result l.s-iterator c.next.new.self c.next.result
    (search rules) (search rules) l.yielded_by (c.in-Some.s, c.in-Some.on) c.in-Some.is c.next.ensures.steps in
    let k = length l.yielded in
    let inside : k < c.args.end = omega (arith, turn.0, length-take-le c.args.end ss (omega arith)) in record {
      long = simp length-set l.invariant.long;
      shown = rw (length-append l.yielded ((c.in-Some.s, c.in-Some.on) ∷ []), turn.3 false) (supplier_raised ss c.args.marks.now l.flags k _
          (c.index.ensures.0 ∙ turn.2 0 ∙ get_or-take c.args.end ss k 0 inside) (omega (arith, l.invariant.long)) l.invariant.shown);
    }

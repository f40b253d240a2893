use Rattle.std.proofs.Common.{refl, sym, ◌∙◌, arith}
use Rattle.table.specs.Suppliers.{marked, last_of}
use Rattle.strike.specs.Strike.{without}
use Rattle.strike.specs.Inner.{left_rows}
use Rattle.strike.proofs.Filling.{filled_none, filled_all, row_room, row_more, force_more, left_same, force_same, left_all}
use Rattle.strike.proofs.put_rows.Goals as goal
use Rattle.strike.proofs.put_rows.Goals.{then-i-r, else-i-r}

pub loop-i-init : goal.loop-i-init
unfolding marked last_of without
loop-i-init c = record {
  filled = filled_none (left_rows c.args.r c.args.suppliers.now c.args.rows.now) c.args.out.now c.requires.1;
  in_force = refl;
}

pub overflow_add-end : goal.overflow_add-end
overflow_add-end c =
    let was = c.loop-i.invariant in
    let room = row_room c.args.r c.args.suppliers.now c.args.rows.now c.requires.0 was.filled c.loop-i-test.true c.if-i-r.true _ _ was.in_force
    c.lowered_of.ensures in
    record { fits = omega (arith, room, c.put-end.ensures.0) }

pub loop-i-preserved : goal.loop-i-preserved
loop-i-preserved c =
    let r = c.args.r in
    let ss = c.args.suppliers.now in
    let es = c.args.rows.now in
    let was = c.loop-i.invariant in
    let l = c.loop-i-test.true in
    elim c.if-i-r.branch [
      | then-i-r w ↦ rw (w.out-is, w.end-is, w.force-is) (record {
        filled = row_more r ss es c.requires.0 was.filled l w.if-i-r.true _ _ was.in_force w.lowered_of.ensures _ _ _ refl w.put-end.ensures.0
            w.put-end.ensures.1;
        in_force = sym (force_more r ss es c.requires.0 c.loop-i.i l w.if-i-r.true);
      })
      | else-i-r w ↦ rw (w.out-is, w.end-is, w.force-is, left_same r ss es c.requires.0 c.loop-i.i l w.if-i-r.false) (record {
        filled = was.filled;
        in_force = was.in_force ∙ sym (force_same r ss es c.requires.0 c.loop-i.i l w.if-i-r.false);
      })
    ]

pub returns : goal.returns
returns c = filled_all c.loop-i.invariant.filled (left_all c.args.r c.args.suppliers.now c.args.rows.now c.requires.0 c.loop-i.i (omega arith))

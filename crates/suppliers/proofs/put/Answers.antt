use Rattle.std.proofs.Common.{arith}
use Rattle.entries.specs.Entries.{number_limit}
use Rattle.suppliers.specs.Suppliers.{flag}
use Rattle.suppliers.proofs.Listing.{written_none, written_length, written_room, written_more, written_less}
use Rattle.suppliers.proofs.put.Goals as goal
use Rattle.suppliers.proofs.put.Goals.{then-on, else-on}

pub loop-s-init : goal.loop-s-init
loop-s-init c = written_none (flag c.args.flags.now) number_limit c.args.out.now c.requires

pub bounds-out-n : goal.bounds-out-n
bounds-out-n c =
    let was = c.loop-s.invariant in
    omega (arith, written_length was (omega arith), written_room was (omega arith) c.if-on.true)

pub loop-s-preserved : goal.loop-s-preserved
loop-s-preserved c =
    let was = c.loop-s.invariant in
    elim c.if-on.branch [
      | then-on w ↦ rw (w.out-is, w.n-is) (written_more was (omega arith) w.if-on.true)
      | else-on w ↦ rw (w.out-is, w.n-is) (written_less was w.if-on.false)
    ]

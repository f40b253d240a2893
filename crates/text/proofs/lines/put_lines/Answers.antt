-- That `put_lines` (src/lines.rt) keeps its promise.
use Rattle.table.specs.Suppliers.{supplying}
use Rattle.decimal.proofs.Stores.{put_then, room_first, room_then}
use Rattle.text.specs.Lines.{line_of}
use Rattle.text.proofs.Filling.{same_lines, other_lines}
use Rattle.text.proofs.lines.put_lines.Goals as goal

pub put_line-requires : goal.put_line-requires
put_line-requires c = rw (same_lines c.args.force c.args.s c.args.e c.if-s-force.true) at c.requires

pub returns-then-s-force : goal.returns-then-s-force
returns-then-s-force c = rw (same_lines c.args.force c.args.s c.args.e c.if-s-force.true) c.put_line.ensures

pub put_line-next-requires : goal.put_line-next-requires
put_line-next-requires c =
    let a = c.args in
    rw (c.supplying.ensures) (room_first _ _ (line_of (supplying a.s)) (line_of a.e) (rw (other_lines a.force a.s a.e c.if-s-force.false) at c.requires))

pub put_line-requires-2 : goal.put_line-requires-2
put_line-requires-2 c =
    let a = c.args in
    room_then (line_of (supplying a.s)) (line_of a.e) (rw c.supplying.ensures at c.put_line-next.ensures)
    (rw (other_lines a.force a.s a.e c.if-s-force.false) at c.requires)

pub returns : goal.returns
returns c =
    let a = c.args in
    rw (other_lines a.force a.s a.e c.if-s-force.false)
    (put_then (line_of (supplying a.s)) (line_of a.e) (rw c.supplying.ensures at c.put_line-next.ensures) c.put_line-2.ensures)

use Rattle.std.proofs.Common.{◌≡◌, ◌+◌, ◌-◌, length-set, replicate, get_or, false, arith}
use Rattle.entries.specs.Entries.{blank}
use Rattle.table.specs.Steps.{row_limit}
use Rattle.suppliers.specs.Suppliers.{flag}
use Rattle.suppliers.proofs.Flags.{marked_first, marked_more, marked_all, names_raised}
use Rattle.suppliers.proofs.reach.Goals as goal

pub loop-i-init : goal.loop-i-init
loop-i-init c = record {
  long = length-set (replicate row_limit false) c.args.row _;
  marked = marked_first c.args.t.now.rows c.requires.0 c.args.row row_limit c.requires.1;
}

pub loop-i-preserved : goal.loop-i-preserved
loop-i-preserved c =
    let rows = c.args.t.now.rows in
    let i = c.loop-i.i in
    let m = c.loop-i.marks in
    let same : i - 1 + 1 ≡ i = omega arith in
    record {
      long = simp length-set c.loop-i.invariant.long;
      marked = rw same (marked_more rows c.requires.0 c.args.row i m _ c.loop-i.invariant.marked
          (names_raised m (get_or rows i blank) (flag m i) _ _ _ _ c.index.ensures.0 c.index-in-loop-i.ensures.0 c.names_row.ensures
          c.names_row-in-loop-i.ensures (omega (arith, c.loop-i.invariant.long)) (omega (arith, c.loop-i.invariant.long))));
    }

pub returns-2 : goal.returns-2
returns-2 c =
    let rows = c.args.t.now.rows in
    let i = c.loop-i.i in
    let m = c.loop-i.marks in
    marked_all rows c.requires.0 c.args.row i _ (omega arith) (marked_more rows c.requires.0 c.args.row i m _ c.loop-i.invariant.marked
    (names_raised m (get_or rows i blank) (flag m i) _ _ _ _ c.index.ensures.0 c.index-in-loop-i.ensures.0 c.names_row.ensures
    c.names_row-in-loop-i.ensures (omega (arith, c.loop-i.invariant.long)) (omega (arith, c.loop-i.invariant.long))))

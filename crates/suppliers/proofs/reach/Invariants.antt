-- What the loop of `reach` (src/lib.rt) keeps: the marks, from the row above `i` up.
use Rattle.std.proofs.Common.{◌≡◌, ◌+◌, length}
use Rattle.table.specs.Steps.{row_limit}
use Rattle.suppliers.proofs.Flags.{Marked}
use Rattle.suppliers.proofs.reach.Given as goal

abbrev pub invariant-loop-i : goal.invariant-loop-i
invariant-loop-i l = record {
  long : length l.marks ≡ row_limit;
  marked : Marked l.t.rows l.row (l.i + 1) l.marks;
}

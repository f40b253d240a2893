-- The lines of the rows passed are put, with those of their suppliers.
use Rattle.std.proofs.Common.{◌≡◌, length}
use Rattle.decimal.specs.Put.{Put}
use Rattle.table.proofs.Marking.{force_at}
use Rattle.text.proofs.Filling.{rows_to}
use Rattle.text.proofs.put_rows.Given as goal

abbrev pub invariant-loop-e : goal.invariant-loop-e
invariant-loop-e l = record {
  put : Put l.fn.out l.at (rows_to l.suppliers l.rows (length l.yielded)) l.next l.out;
  in_force : l.force ≡ force_at l.suppliers (length l.yielded);
}

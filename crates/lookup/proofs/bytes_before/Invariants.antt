-- What the loop of `bytes_before` (src/lib.rt) keeps: the bytes of the rows so far with their 60s, and the supplier in force.
use Rattle.std.proofs.Common.{◌≡◌, ◌+◌, ◌*◌, ◌≤◌, length, take}
use Rattle.entries.specs.Entries.{size_limit, supplier_size}
use Rattle.table.specs.Suppliers.{no_supplier, marked}
use Rattle.table.specs.Contents.{written}
use Rattle.table.proofs.Marking.{force_at}
use Rattle.lookup.proofs.bytes_before.Given as goal

abbrev pub invariant-loop-e : goal.invariant-loop-e
invariant-loop-e l = record {
  counted : l.start ≡ length (written (marked no_supplier (take (length l.yielded) l.t.suppliers) (take (length l.yielded) l.t.rows)));
  in_force : l.force ≡ force_at l.t.suppliers (length l.yielded);
  few : l.start ≤ (size_limit + supplier_size) * length l.yielded;
}

-- The lines counted are those of the rows passed with their suppliers', and no row has more than sixty bytes.
use Rattle.std.proofs.Common.{◌≡◌, ◌*◌, ◌≤◌, length}
use Rattle.table.proofs.Marking.{force_at}
use Rattle.text.proofs.Filling.{rows_to}
use Rattle.text.proofs.rows_size.Given as goal

abbrev pub invariant-loop-e : goal.invariant-loop-e
invariant-loop-e l = (l.size ≡ length (rows_to l.suppliers l.rows (length l.yielded))) × (l.size ≤ 60 * length l.yielded)
    × (l.force ≡ force_at l.suppliers (length l.yielded))

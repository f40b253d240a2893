use Rattle.std.proofs.Common.{◌*◌, ◌≤◌, take}
use Rattle.dimacs.specs.Dimacs.{Measures, clauses_in}
use Rattle.dimacs.proofs.entries_extent.Given as goal

abbrev pub invariant-loop-i : goal.invariant-loop-i
invariant-loop-i l =
    Measures l.total (clauses_in l.layout (take l.i l.entries)) × (l.total.clauses ≤ 12 * l.i) × (l.total.bytes ≤ 816 * l.i)

use Rattle.std.proofs.Common.{take}
use Rattle.decimal.specs.Put.{Put}
use Rattle.dimacs.specs.Dimacs.{text_of, clauses_in}
use Rattle.dimacs.proofs.put_entries.Given as goal

abbrev pub invariant-loop-i : goal.invariant-loop-i
invariant-loop-i l = Put l.fn.out l.at (text_of (clauses_in l.layout (take l.i l.entries))) l.next l.out

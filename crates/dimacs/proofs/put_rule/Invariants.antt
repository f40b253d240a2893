use Rattle.std.proofs.Common.{take}
use Rattle.decimal.specs.Put.{Put}
use Rattle.clauses.specs.Rules.{clauses_of}
use Rattle.dimacs.specs.Dimacs.{text_of}
use Rattle.dimacs.proofs.put_rule.Given as goal

abbrev pub invariant-loop-i : goal.invariant-loop-i
invariant-loop-i l = Put l.fn.out l.at (text_of (take l.i (clauses_of l.rule))) l.next l.out

use Rattle.std.proofs.Common.{◌≡◌, ◌*◌, ◌≤◌, length, take}
use Rattle.clauses.specs.Rules.{clauses_of}
use Rattle.dimacs.specs.Dimacs.{text_of}
use Rattle.dimacs.proofs.rule_size.Given as goal

abbrev pub invariant-loop-i : goal.invariant-loop-i
invariant-loop-i l = (l.size ≡ length (text_of (take l.i (clauses_of l.rule)))) × (l.size ≤ 68 * l.i)

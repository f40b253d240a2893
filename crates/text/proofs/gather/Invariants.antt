-- What was gathered so far is a table, and what is left of the text is still to come.
use Rattle.std.proofs.Common.{◌-◌, length}
use Rattle.text.proofs.Gathering.{So}
use Rattle.text.proofs.gather.Given as goal

abbrev pub invariant-loop-at : goal.invariant-loop-at
invariant-loop-at l = So l.text l.bytes l.length l.tally l.force l.line l.at

abbrev pub decreases-loop-at : goal.decreases-loop-at
decreases-loop-at l = length l.text - l.at

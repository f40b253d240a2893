-- What the loop of `read` (src/lib.rt) keeps: the table stands for what was read so far.
use Rattle.std.proofs.Common.{length, ◌-◌}
use Rattle.table.proofs.Turns.{At}
use Rattle.table.proofs.read.Given as goal

abbrev pub invariant-loop-at : goal.invariant-loop-at
invariant-loop-at l = At l.s l.t l.force l.at

abbrev pub decreases-loop-at : goal.decreases-loop-at
decreases-loop-at l = length l.s - l.at

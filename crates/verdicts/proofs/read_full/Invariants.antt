-- What was read so far is within the buffer, and each turn that reads on brings its end nearer.
use Rattle.std.proofs.Common.{length, ◌-◌, ◌≤◌}
use Rattle.verdicts.proofs.read_full.Given as goal

abbrev pub invariant-loop-end : goal.invariant-loop-end
invariant-loop-end g l = l.end ≤ length l.initial.buffer

abbrev pub decreases-loop-end : goal.decreases-loop-end
decreases-loop-end g l = length l.initial.buffer - l.end

-- What the loop of `keep` (src/lib.rt) keeps: the constraints so far stand in the output.
use Rattle.std.proofs.Common.{take}
use Rattle.strike.proofs.Filling.{Filled}
use Rattle.strike.proofs.keep.Given as goal

abbrev pub invariant-loop-e : goal.invariant-loop-e
invariant-loop-e l = Filled l.constraints l.initial.out (take l.e-index l.constraints) l.end l.out

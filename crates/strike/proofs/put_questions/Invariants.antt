-- What the loop of `put_questions` (src/lib.rt) keeps: the questions so far, lowered, stand in the output.
use Rattle.std.proofs.Common.{map, take}
use Rattle.strike.specs.Strike.{lowered}
use Rattle.strike.proofs.Filling.{Filled}
use Rattle.strike.proofs.put_questions.Given as goal

abbrev pub invariant-loop-e : goal.invariant-loop-e
invariant-loop-e l = let all = map (lowered l.r) l.questions in Filled all l.initial.out (take l.e-index all) l.end l.out

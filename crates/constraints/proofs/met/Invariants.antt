-- None of the constraints before one is broken, and `waits` says whether one of them waits.
use Rattle.std.proofs.Common.{◌≡◌, false, take}
use Rattle.entries.specs.Lists.{some}
use Rattle.constraints.specs.Constraints.{broken_by, waited_by}
use Rattle.constraints.proofs.met.Given as goal

abbrev pub invariant-loop-e : goal.invariant-loop-e
invariant-loop-e l = record {
  unbroken : some (broken_by l.facts.known l.facts.yes) (take l.e-index l.constraints) ≡ false;
  waited : some (waited_by l.facts.known l.facts.yes) (take l.e-index l.constraints) ≡ l.waits;
}

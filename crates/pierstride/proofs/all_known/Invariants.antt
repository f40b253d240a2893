-- Each predicate below the one looked at is known, where it is yes.
use Rattle.std.proofs.Common.{◌≡◌, true}
use Rattle.pierstride.specs.Masks.{known_below}
use Rattle.pierstride.proofs.all_known.Given as goal

abbrev pub invariant-loop-i : goal.invariant-loop-i
invariant-loop-i l = known_below l.i l.facts.known l.facts.yes ≡ true

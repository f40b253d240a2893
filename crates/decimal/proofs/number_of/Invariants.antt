-- The bytes passed are digits, and the value is theirs as far as one byte can tell.
use Rattle.decimal.proofs.Numerals.{Seen}
use Rattle.decimal.proofs.number_of.Given as goal

abbrev pub invariant-loop-x : goal.invariant-loop-x
invariant-loop-x l = Seen l.piece l.x-index l.v

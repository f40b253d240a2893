-- The digits counted, and those of what is left but one.
use Rattle.std.proofs.Common.{◌≡◌, ◌+◌, length}
use Rattle.decimal.specs.Decimal.{decimal}
use Rattle.decimal.proofs.decimal_size.Given as goal

abbrev pub invariant-loop-rest : goal.invariant-loop-rest
invariant-loop-rest l = l.size + length (decimal l.rest) ≡ length (decimal l.n) + 1

abbrev pub decreases-loop-rest : goal.decreases-loop-rest
decreases-loop-rest l = l.rest

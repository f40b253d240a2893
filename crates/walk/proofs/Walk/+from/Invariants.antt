-- "n minus k" falls at each call of `from` by itself.
use Rattle.std.proofs.Common.{◌-◌}
use Rattle.walk.proofs.Walk.+from.Given as goal

abbrev pub decreases-from : goal.decreases-from
decreases-from l = l.n - l.k

-- What the loop of `flagged` (src/lib.rt) keeps: the flags show the suppliers of the marked rows so far.
use Rattle.std.proofs.Common.{◌≡◌, length}
use Rattle.entries.specs.Entries.{number_limit}
use Rattle.decide.specs.Reach.{passing}
use Rattle.suppliers.specs.Suppliers.{has, flag, Shows}
use Rattle.suppliers.proofs.flagged.Given as goal

abbrev pub invariant-loop-s : goal.invariant-loop-s
invariant-loop-s l = record {
  long : length l.flags ≡ number_limit;
  shown : Shows l.flags (has l.suppliers (passing (length l.yielded) (flag l.marks)));
}

-- What the loop of `put` (src/lib.rt) keeps: the numbers so far stand over the front of the output.
use Rattle.entries.specs.Entries.{number_limit}
use Rattle.suppliers.specs.Suppliers.{flag}
use Rattle.suppliers.proofs.Listing.{Written}
use Rattle.suppliers.proofs.put.Given as goal

abbrev pub invariant-loop-s : goal.invariant-loop-s
invariant-loop-s l = Written (flag l.flags) number_limit l.initial.out l.s l.n l.out

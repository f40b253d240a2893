use Rattle.std.proofs.Common.{arith, refl}
use Rattle.entries.specs.Entries.{blank}
use Rattle.clauses.specs.Variables.{clauses_from}
use Rattle.dimacs.proofs.Texts.{more_clauses, more_bytes}
use Rattle.dimacs.proofs.entries_extent.Goals as goal

pub loop-i-init : goal.loop-i-init
unfolding clauses_from
loop-i-init c = ((refl, refl), omega arith, omega arith)

pub loop-i-preserved : goal.loop-i-preserved
loop-i-preserved c =
    let one = rw c.rules_of-rules.ensures at c.rules_extent-extent.ensures in
    let clauses = more_clauses c.args.layout c.args.entries.now c.loop-i.i blank c.loop-i-test.true in
    let bytes = more_bytes c.args.layout c.args.entries.now c.loop-i.i blank c.loop-i-test.true in
    ((omega arith, omega arith), omega arith, omega arith)

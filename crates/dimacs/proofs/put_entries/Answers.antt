use Rattle.entries.specs.Entries.{blank}
use Rattle.decimal.proofs.Stores.{put_none}
use Rattle.clauses.specs.Variables.{clauses_from}
use Rattle.dimacs.proofs.Texts.{put_entry, room_entry}
use Rattle.dimacs.proofs.put_entries.Goals as goal

pub loop-i-init : goal.loop-i-init
unfolding clauses_from
loop-i-init c = put_none c.args.out.now c.args.at

pub put_rules-next-requires : goal.put_rules-next-requires
put_rules-next-requires c =
    rw c.rules_of-rules.ensures
    (room_entry c.args.layout c.args.entries.now c.loop-i.i blank c.loop-i-test.true c.loop-i.invariant c.requires.1)

pub loop-i-preserved : goal.loop-i-preserved
loop-i-preserved c =
    put_entry c.args.layout c.args.entries.now c.loop-i.i blank c.loop-i-test.true c.loop-i.invariant
    (rw c.rules_of-rules.ensures at c.put_rules-next.ensures)

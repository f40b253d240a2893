use Rattle.std.proofs.Common.{[], arith}
use Rattle.clauses.specs.Rules.{clauses_of}
use Rattle.dimacs.specs.Dimacs.{clause_text}
use Rattle.dimacs.proofs.Shown.{lists, not_none}
use Rattle.dimacs.proofs.Texts.{room_more, put_more}
use Rattle.dimacs.proofs.put_rule.Goals.{in-Some, in_default}
use Rattle.dimacs.proofs.put_rule.Goals as goal

pub put_clause-next-requires : goal.put_clause-next-requires
put_clause-next-requires c =
    rw (lists c.args.rule c.loop-i.i (omega arith) _ c.in-Some.ensures)
    (room_more clause_text (clauses_of c.args.rule) c.loop-i.i [] (omega arith) c.loop-i.invariant c.requires)

pub loop-i-preserved : goal.loop-i-preserved
loop-i-preserved c =
    elim c.match-clause_of.branch [
      | in-Some w ↦
          let line = rw (lists c.args.rule c.loop-i.i (omega arith) _ w.in-Some.ensures) at w.put_clause-next.ensures in
          rw (w.out-is, w.next-is) (put_more clause_text (clauses_of c.args.rule) c.loop-i.i [] (omega arith) c.loop-i.invariant line)
      | in_default w ↦ absurd (not_none c.args.rule c.loop-i.i (omega arith) w.in_default.ensures)
    ]

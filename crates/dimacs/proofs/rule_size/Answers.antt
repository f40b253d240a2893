use Rattle.std.proofs.Common.{[], arith}
use Rattle.clauses.specs.Rules.{clauses_of}
use Rattle.dimacs.specs.Dimacs.{clause_text}
use Rattle.dimacs.proofs.Shown.{lists, not_none}
use Rattle.dimacs.proofs.Texts.{longer}
use Rattle.dimacs.proofs.rule_size.Goals.{in-Some, in_default}
use Rattle.dimacs.proofs.rule_size.Goals as goal

pub loop-i-preserved : goal.loop-i-preserved
loop-i-preserved c =
    let more = longer clause_text (clauses_of c.args.rule) c.loop-i.i [] (omega arith) in
    elim c.match-clause_of.branch [
      | in-Some w ↦
          let line = rw (lists c.args.rule c.loop-i.i (omega arith) _ w.in-Some.ensures) at w.clause_size-size.ensures in
          (omega arith, omega arith)
      | in_default w ↦ absurd (not_none c.args.rule c.loop-i.i (omega arith) w.in_default.ensures)
    ]

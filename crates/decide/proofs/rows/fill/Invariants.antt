-- The entries before one are filled in.
use Rattle.decide.specs.Rows.{FilledBy}
use Rattle.decide.proofs.rows.fill.Given as goal

abbrev pub invariant-loop-i : goal.invariant-loop-i
invariant-loop-i g l = FilledBy (λ e. g.R.Rule.answers l.rule (g.R.Rule.reads e.kind) e) l.none l.entries l.i l.initial.values l.values

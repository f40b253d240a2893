use Rattle.std.proofs.Common.{◌≡◌}
use Rattle.decide.specs.Meaning.{decides}
use Rattle.decide.specs.Rows.{values}
use Rattle.table.specs.Steps.{row_limit}
use Rattle.table.specs.Reading.{padded}
use Rattle.belnap.specs.declared.Decision.TheVariants.{U}
use Rattle.decide.proofs.decide_below.Given as goal

abbrev pub invariant-loop-i : goal.invariant-loop-i
invariant-loop-i l = l.d ≡ padded U row_limit (values (decides l.request) U l.fn.t.rows l.i)

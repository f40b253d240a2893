-- That `steps::enter` (src/steps.rt) keeps its promise.
use Rattle.std.proofs.Common.{◌∙◌, refl, sym}
use Rattle.table.specs.Steps.{entered}
use Rattle.entries.proofs.Saying.{passed_on}
use Rattle.table.proofs.Permission.{allowed_if}
use Rattle.table.proofs.steps.enter.Goals as goal

pub returns-in_err-permit : goal.returns-in_err-permit
unfolding entered
returns-in_err-permit c = passed_on c.from_residual.result c.in_err-permit.field-0.0 c.from_residual.ensures.1 ∙ rw (← c.in_err-permit.ensures) refl

pub one_more-requires : goal.one_more-requires
one_more-requires c = (allowed_if c.args.e c.in_ok-permit.field-0 c.args.well c.args.before (sym c.in_ok-permit.ensures)).1.room

pub returns : goal.returns
unfolding entered
returns c =
    let same = (allowed_if c.args.e c.in_ok-permit.field-0 c.args.well c.args.before (sym c.in_ok-permit.ensures)).0 in
    rw (← c.in_ok-permit.ensures, c.one_more.ensures, same) refl

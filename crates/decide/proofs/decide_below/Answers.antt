-- That `decide_below` (src/lib.rt) keeps its promise.
use Rattle.std.proofs.Common.{◌≡◌, refl, arith, get_or, take}
use Rattle.std.proofs.lemmas.List.{get_or-take}
use Rattle.entries.specs.Entries.{blank}
use Rattle.belnap.specs.declared.Decision.TheVariants.{U}
use Rattle.table.specs.Steps.{row_limit}
use Rattle.decide.specs.Rows.{values}
use Rattle.decide.specs.Meaning.{decides}
use Rattle.decide.proofs.RowByRow.{turn}
use Rattle.decide.proofs.decide_below.Goals as goal

pub loop-i-init : goal.loop-i-init
unfolding values
loop-i-init c = refl

pub loop-i-preserved : goal.loop-i-preserved
loop-i-preserved c =
    let a = c.args in
    let e : get_or (take a.end a.t.rows) c.loop-i.i blank ≡ get_or a.t.rows c.loop-i.i blank = grind (arith, get_or-take) in
    turn (decides a.request) U a.t.rows row_limit c.loop-i.i c.loop-i.d c.decide_by.result (omega arith) c.loop-i.invariant
    (rw (← e) cc)

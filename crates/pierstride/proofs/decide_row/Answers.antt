-- That `decide_row` (src/lib.rt) keeps its promise.
use Rattle.std.proofs.Common.{◌∙◌, sym}
use Rattle.entries.specs.Said.{told}
use Rattle.entries.proofs.Saying.{passed_on, unless_stops, unless_passes}
use Rattle.table.proofs.Opening.{opened, turned}
use Rattle.pierstride.specs.Services.{says_decide}
use Rattle.pierstride.proofs.Serving.{passed, decide_said, decide_answers}
use Rattle.pierstride.proofs.decide_row.Goals as goal

pub returns-in_err-t : goal.returns-in_err-t
unfolding says_decide
returns-in_err-t c =
    passed_on c.from_residual.result c.in_err-t.field-0.0 c.from_residual.ensures.1
    ∙ passed _ c.args.table.now (told c.in_err-t.field-0.0) (turned _ _ _ c.accept.ensures c.in_err-t.was)

pub returns-in_err-ask : goal.returns-in_err-ask
returns-in_err-ask c =
    let o = opened _ _ c.in_ok-t.t c.accept.ensures c.in_ok-t.was in
    passed_on c.from_residual-in_err-ask.result c.in_err-ask.field-0.0 c.from_residual-in_err-ask.ensures.1
    ∙ unless_stops _ _ _ c.in_err-ask.ensures ∙ sym (decide_said o c.args.row c.args.request _ c.mask_beyond.ensures)

pub returns : goal.returns
returns c =
    let o = opened _ _ c.in_ok-t.t c.accept.ensures c.in_ok-t.was in
    decide_answers o c.args.row c.args.request _ c.mask_beyond.ensures (unless_passes _ c.in_ok-ask.ensures) c.decide.result c.decide.ensures

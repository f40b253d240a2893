-- That `breaks_question` (src/lib.rt) keeps its promise.
use Rattle.std.proofs.Common.{◌∙◌, sym, arith}
use Rattle.entries.specs.Said.{told}
use Rattle.entries.proofs.Saying.{passed_on, unless_stops, unless_passes}
use Rattle.table.proofs.Opening.{opened, turned}
use Rattle.pierstride.specs.Services.{says_breaks}
use Rattle.pierstride.proofs.Serving.{passed, few, breaks_said, breaks_answers}
use Rattle.pierstride.proofs.breaks_question.Goals as goal

pub returns-in_err-t : goal.returns-in_err-t
unfolding says_breaks
returns-in_err-t c =
    passed_on c.from_residual.result c.in_err-t.field-0.0 c.from_residual.ensures.1
    ∙ passed _ c.args.table.now (told c.in_err-t.field-0.0) (turned _ _ _ c.accept.ensures c.in_err-t.was)

pub overflow_cast-t : goal.overflow_cast-t
overflow_cast-t c = record { fits = omega (arith, few (opened _ _ c.in_ok-t.t c.accept.ensures c.in_ok-t.was)) }

pub mask_from-bad-requires : goal.mask_from-bad-requires
mask_from-bad-requires c = few (opened _ _ c.in_ok-t.t c.accept.ensures c.in_ok-t.was)

pub returns-in_err-ask : goal.returns-in_err-ask
returns-in_err-ask c =
    let o = opened _ _ c.in_ok-t.t c.accept.ensures c.in_ok-t.was in
    passed_on c.from_residual-in_err-ask.result c.in_err-ask.field-0.0 c.from_residual-in_err-ask.ensures.1
    ∙ unless_stops _ _ _ c.in_err-ask.ensures ∙ sym (breaks_said o c.args.question c.args.request _ c.mask_from-bad.ensures)

pub returns : goal.returns
returns c =
    let o = opened _ _ c.in_ok-t.t c.accept.ensures c.in_ok-t.was in
    breaks_answers o c.args.question c.args.request _ c.mask_from-bad.ensures (unless_passes _ c.in_ok-ask.ensures) c.breaks.result c.breaks.ensures

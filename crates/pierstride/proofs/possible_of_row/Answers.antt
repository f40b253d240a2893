-- That `possible_of_row` (src/lib.rt) keeps its promise.
use Rattle.std.proofs.Common.{◌∙◌, sym, ap}
use Rattle.entries.specs.Said.{told}
use Rattle.entries.proofs.Saying.{passed_on, unless_stops, unless_passes}
use Rattle.table.proofs.Opening.{opened, turned}
use Rattle.pierstride.specs.Services.{says_possible, masked}
use Rattle.pierstride.proofs.Serving.{passed, possible_said, possible_answers}
use Rattle.pierstride.proofs.possible_of_row.Goals as goal

pub returns-in_err-t : goal.returns-in_err-t
unfolding says_possible
returns-in_err-t c =
    passed_on c.from_residual.result c.in_err-t.field-0.0 c.from_residual.ensures.1
    ∙ ap masked (passed _ c.args.table.now (told c.in_err-t.field-0.0) (turned _ _ _ c.accept.ensures c.in_err-t.was))

pub returns-in_err-ask : goal.returns-in_err-ask
returns-in_err-ask c =
    let o = opened _ _ c.in_ok-t.t c.accept.ensures c.in_ok-t.was in
    passed_on c.from_residual-in_err-ask.result c.in_err-ask.field-0.0 c.from_residual-in_err-ask.ensures.1
    ∙ ap masked (unless_stops _ _ _ c.in_err-ask.ensures ∙ sym (possible_said o c.args.row c.args.facts.known c.args.facts.yes _ c.masks_bad.ensures))

pub returns : goal.returns
returns c =
    let o = opened _ _ c.in_ok-t.t c.accept.ensures c.in_ok-t.was in
    let passed = unless_passes _ c.in_ok-ask.ensures in
    possible_answers o c.args.row c.args.facts.known c.args.facts.yes _ c.masks_bad.ensures passed c.possible.result c.possible.ensures

-- That `put_numbers` (src/lines.rt) keeps its promise.
use Rattle.std.proofs.Common.{◌∙◌}
use Rattle.decimal.proofs.Stores.{put_then}
use Rattle.text.proofs.OneLine.{two_numbers}
use Rattle.text.proofs.lines.put_numbers.Goals as goal

pub returns : goal.returns
returns c =
    let is = c.body_size-numbers.ensures.0 in
    rw (two_numbers c.args.e (λ q. c.if-numbers-eq0.false (is ∙ q)) (λ q. c.if-numbers-eq1.false (is ∙ q)))
    (put_then _ _ c.put_number-next.ensures c.put_number.ensures)

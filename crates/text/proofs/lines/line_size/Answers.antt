-- That `lines::line_size` (src/lines.rt) keeps its promise: a word has at most 21 letters, and the numbers at most 8.
use Rattle.std.proofs.Common.{arith}
use Rattle.kinds.proofs.Spelling.{word_short}
use Rattle.text.proofs.OneLine.{line_long}
use Rattle.text.proofs.lines.line_size.Goals as goal

pub overflow_add-result : goal.overflow_add-result
overflow_add-result c =
    record { fits = omega (arith, c.numbers_size.ensures.1, word_short c.args.e.kind, c.word_size.ensures) }

pub overflow_add-result-2 : goal.overflow_add-result-2
overflow_add-result-2 c =
    record { fits = omega (arith, c.numbers_size.ensures.1, word_short c.args.e.kind, c.word_size.ensures) }

pub returns : goal.returns
returns c =
    let e = c.args.e in
    let long = c.word_size.ensures in
    (omega (arith, line_long e, long, c.numbers_size.ensures.0), omega (arith, long, c.numbers_size.ensures.1, word_short e.kind))

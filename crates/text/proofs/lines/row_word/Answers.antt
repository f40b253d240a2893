-- That `row_word` (src/lines.rt) keeps its promise.
use Rattle.std.proofs.Common.{◌∙◌, List, ℕ, length-take-le, sym, ap}
use Rattle.kinds.specs.Kinds.{of_row}
use Rattle.kinds.specs.Words.{kind_spelled}
use Rattle.text.proofs.Scanning.{word_within, word_cut}
use Rattle.text.proofs.lines.row_word.Goals as goal

pub slice_bounds-kind_of_word-end : goal.slice_bounds-kind_of_word-end
slice_bounds-kind_of_word-end c = sym (length-take-le _ c.args.line.now (word_within c.args.line.now _ c.next_of-end.ensures))

pub returns : goal.returns
returns c =
    c.of_row.ensures ∙ ap of_row c.kind_of_word.ensures
    ∙ ap (λ (w : List ℕ). of_row (kind_spelled w)) (word_cut c.args.line.now c.next_of-end.result c.next_of-end.ensures)

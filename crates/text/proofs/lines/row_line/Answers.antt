-- That `row_line` (src/lines.rt) keeps its promise.
use Rattle.std.proofs.Common.{◌∙◌, List, ℕ, ap}
use Rattle.kinds.specs.Kinds.{of_row}
use Rattle.kinds.specs.Words.{kind_spelled}
use Rattle.decimal.specs.Decimal.{space, line_feed}
use Rattle.text.specs.Texts.{split}
use Rattle.text.specs.Inner.{row_spelled}
use Rattle.text.proofs.Scanning.{piece_between, end_within}
use Rattle.text.proofs.lines.row_line.Goals as goal

pub slice_bounds-row_word-end : goal.slice_bounds-row_word-end
slice_bounds-row_word-end c = end_within c.args.text.now c.args.at c.next_of-end.result c.next_of-end.ensures c.requires

pub returns : goal.returns
unfolding row_spelled
returns c =
    c.row_word.ensures
    ∙ ap (λ (l : List ℕ). of_row (kind_spelled (split space l).first))
    (piece_between line_feed c.args.text.now c.args.at c.next_of-end.result c.next_of-end.ensures)

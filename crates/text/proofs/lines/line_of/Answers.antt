-- That `line_of` (src/lines.rt) keeps its promise.
use Rattle.std.proofs.Common.{◌∙◌, drop, length-take-le, sym, ap}
use Rattle.std.specs.Prelude.{Option}
use Rattle.kinds.specs.declared.Kind.{Kind}
use Rattle.entries.specs.Said.{refusing}
use Rattle.decimal.specs.Decimal.{space}
use Rattle.text.specs.Texts.{line_by}
use Rattle.text.specs.Inner.{pieces_behind}
use Rattle.text.proofs.Scanning.{word_within, line_cut}
use Rattle.text.proofs.lines.line_of.Goals as goal

pub slice_bounds-kind_of_word-end : goal.slice_bounds-kind_of_word-end
slice_bounds-kind_of_word-end c = sym (length-take-le _ c.args.line.now (word_within c.args.line.now _ c.next_of-end.ensures))

pub numbers_at-requires : goal.numbers_at-requires
numbers_at-requires c = word_within c.args.line.now c.next_of-end.result c.next_of-end.ensures

pub returns-in-Some : goal.returns-in-Some
returns-in-Some c =
    let line = c.args.line.now in
    let rest = pieces_behind space (drop c.next_of-end.result line) in
    c.numbers_at.ensures
    ∙ ap (λ (a : Option Kind). line_by a rest) (sym c.in-Some.is ∙ c.kind_of_word.ensures)
    ∙ sym (line_cut line c.next_of-end.result c.next_of-end.ensures)

pub returns-in-None : goal.returns-in-None
returns-in-None c =
    let line = c.args.line.now in
    let rest = pieces_behind space (drop c.next_of-end.result line) in
    ap refusing c.of.ensures
    ∙ ap (λ (a : Option Kind). line_by a rest) (sym c.in-None.is ∙ c.kind_of_word.ensures)
    ∙ sym (line_cut line c.next_of-end.result c.next_of-end.ensures)

-- That `put_line` (src/lines.rt) keeps its promise.
use Rattle.std.proofs.Common.{[], ◌∷◌, arith}
use Rattle.kinds.specs.Words.{word_of}
use Rattle.decimal.specs.Decimal.{line_feed}
use Rattle.decimal.specs.Put.{Put}
use Rattle.decimal.proofs.Stores.{put_fits, put_then, room_then}
use Rattle.text.specs.Lines.{line_of}
use Rattle.text.proofs.OneLine.{line_body, numbers_text, line_long}
use Rattle.text.proofs.lines.put_line.Goals as goal

pub put_word-word-requires : goal.put_word-word-requires
put_word-word-requires c = omega (arith, line_long c.args.e)

pub put_numbers-numbers-requires : goal.put_numbers-numbers-requires
put_numbers-numbers-requires c = omega (arith, line_long c.args.e)

pub returns : goal.returns
unfolding line_of
returns c =
    let a = c.args in
    let word : Put a.out.now a.at (word_of a.e.kind) c.put_word-word.result c.put_word-word.new.out =
    record { behind = c.put_word-word.ensures.0; holds = c.put_word-word.ensures.1 } in
    let body = put_then (word_of a.e.kind) (numbers_text a.e) word c.put_numbers-numbers.ensures in
    let end = put_fits (line_feed ∷ []) c.put_byte.ensures (room_then (line_body a.e) (line_feed ∷ []) body c.requires) in
    put_then (line_body a.e) (line_feed ∷ []) body end

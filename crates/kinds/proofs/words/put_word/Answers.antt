-- That `words::put_word` (src/words.rt) keeps its promise: each letter is stored where there is a place for it.
use Rattle.std.proofs.Common.{sym, ap, ◌∙◌, arith, get_or}
use lib.ListN.{set}
use lib.Seq.{set_out}
use Rattle.kinds.proofs.Storing.{sets_more}
use Rattle.kinds.proofs.words.put_word.Goals as goal
use Rattle.kinds.proofs.words.put_word.Goals.{then-i-out, else-i-out}

pub loop-i-preserved : goal.loop-i-preserved
loop-i-preserved c =
    let word = c.word_of-word.result.now in
    let i = c.loop-i.i in
    let letter = get_or word i 0 in
    let more = ap (λ l. set l i letter) c.loop-i.invariant ∙ sym (sets_more word c.args.out.now i c.loop-i-test.true) in
    elim c.if-i-out.branch [
      | then-i-out w ↦ w.out-is ∙ more
      | else-i-out w ↦ w.out-is ∙ sym (set_out c.loop-i.out i letter (omega (arith, w.if-i-out.false))) ∙ more
    ]

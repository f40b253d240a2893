-- That `both_set` (src/lib.rt) keeps its promise.
use Rattle.std.proofs.Common.{◌≡◌, ◌∙◌, ◌%◌, ◌&&◌, true, false, arith}
use Rattle.decide.specs.Meaning.{bit}
use Rattle.possible.specs.Sets.{truths, choosing, image_one, image_two, mask, of_mask}
use Rattle.possible.proofs.Words.{in_word, in_words}
use Rattle.questions.proofs.both_set.Goals as goal

pub returns-then-equal : goal.returns-then-equal
unfolding mask of_mask bit choosing image_one image_two
returns-then-equal c =
    let a = c.args in
    let low : a.y % 4 % 16 ≡ a.y % 4 = omega arith in
    rw c.if-equal.true (rw low at c.digit.ensures ∙ in_word truths truths (omega arith) (image_two ◌&&◌ true (of_mask truths a.x)) a.y)

pub returns-else-equal : goal.returns-else-equal
unfolding mask of_mask bit choosing image_one image_two
returns-else-equal c =
    let a = c.args in
    let low : a.y % 4 % 16 ≡ a.y % 4 = omega arith in
    rw c.if-equal.false (rw (low, c.from.ensures) at c.digit-else-equal.ensures ∙ in_words truths truths (omega arith) (image_two ◌&&◌ false) a.x a.y)

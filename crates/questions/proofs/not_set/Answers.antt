-- That `not_set` (src/lib.rt) keeps its promise.
use Rattle.std.proofs.Common.{◌≡◌, ◌∙◌, ◌%◌, not, arith}
use Rattle.decide.specs.Meaning.{bit}
use Rattle.possible.specs.Sets.{truths, choosing, image_one, mask, of_mask}
use Rattle.possible.proofs.Words.{in_word}
use Rattle.questions.proofs.not_set.Goals as goal

pub returns : goal.returns
unfolding mask of_mask bit choosing image_one
returns c =
    let low : c.args.x % 4 % 16 ≡ c.args.x % 4 = omega arith in
    rw low at c.digit.ensures ∙ in_word truths truths (omega arith) (image_one not) c.args.x

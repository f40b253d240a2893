-- That `sets::word_of` (src/sets.rt) keeps its promise.
use Rattle.std.proofs.Common.{ℕ, ◌≡◌, ◌%◌, arith}
use Rattle.decide.specs.Meaning.{bit}
use Rattle.operators.specs.declared.OneRow.{OneRow}
use Rattle.operators.specs.declared.OneRow.TheVariants.{Negation, Conflation, ClosedDefault, OpenDefault}
use Rattle.operators.specs.Operators.{one}
use Rattle.possible.specs.Sets.{decisions, mask, of_mask, choosing, image_one}
use Rattle.possible.proofs.Words.{digit, word, in_word}
use Rattle.possible.proofs.sets.word_of.Goals as goal

-- an image is a digit of the word that is computed from the definition; each arm gives this word
image : (op : OneRow) (n : ℕ) → digit (word {F = decisions} {G = decisions} (image_one (one op))) (n % 16) ≡ mask decisions
    (image_one (one op) (of_mask decisions n))
image op = in_word decisions decisions (omega arith) (image_one (one op))

pub returns-in-Negation : goal.returns-in-Negation
unfolding mask of_mask bit choosing image_one
returns-in-Negation c = rw c.in-Negation.is (image Negation)

pub returns-in-Conflation : goal.returns-in-Conflation
unfolding mask of_mask bit choosing image_one
returns-in-Conflation c = rw c.in-Conflation.is (image Conflation)

pub returns-in-ClosedDefault : goal.returns-in-ClosedDefault
unfolding mask of_mask bit choosing image_one
returns-in-ClosedDefault c = rw c.in-ClosedDefault.is (image ClosedDefault)

pub returns-in-OpenDefault : goal.returns-in-OpenDefault
unfolding mask of_mask bit choosing image_one
returns-in-OpenDefault c = rw c.in-OpenDefault.is (image OpenDefault)

-- That `table_of` (src/lib.rt) keeps its promise.
use Rattle.std.proofs.Common.{false, arith}
use Rattle.belnap.specs.declared.orders.Order.TheVariants.{Truth, Knowledge}
use Rattle.belnap.specs.Orders.{at_or_below}
use Rattle.decide.specs.Meaning.{bit}
use Rattle.possible.specs.Sets.{decisions, truths, mask, of_mask, choosing, image_one, image_two}
use Rattle.possible.proofs.Words.{in_words}
use Rattle.questions.proofs.table_of.Goals as goal

pub returns-in-Truth : goal.returns-in-Truth
unfolding mask of_mask bit choosing image_one image_two
returns-in-Truth c = rw c.in-Truth.is (in_words decisions truths (omega arith) (image_two (at_or_below Truth) false))

pub returns-in-Knowledge : goal.returns-in-Knowledge
unfolding mask of_mask bit choosing image_one image_two
returns-in-Knowledge c = rw c.in-Knowledge.is (in_words decisions truths (omega arith) (image_two (at_or_below Knowledge) false))

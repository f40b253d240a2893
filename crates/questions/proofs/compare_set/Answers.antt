-- That `compare_set` (src/lib.rt) keeps its promise.
use Rattle.std.proofs.Common.{ℕ, ◌≡◌, refl, ap, ◌∙◌, ◌%◌, true, arith}
use Rattle.belnap.specs.declared.orders.Order.{Order}
use Rattle.belnap.specs.declared.orders.Order.TheVariants.{Truth, Knowledge}
use Rattle.belnap.specs.Orders.{at_or_below}
use Rattle.decide.specs.Meaning.{bit}
use Rattle.possible.specs.Sets.{decisions, truths, Set, choosing, image_one, image_two, mask, of_mask}
use Rattle.possible.proofs.Words.{digit, word, in_word}
use Rattle.questions.proofs.compare_set.Goals as goal

-- both orders have one diagonal
abbrev diagonal : Order → Set decisions → ℕ
diagonal o s = word {F = decisions} {G = truths} (image_two (at_or_below o) true s)

one_diagonal : (o : Order) (s : Set decisions) → diagonal Truth s ≡ diagonal o s
unfolding mask of_mask bit choosing image_one image_two
one_diagonal Truth s = refl
one_diagonal Knowledge s = refl

pub returns-then-equal : goal.returns-then-equal
unfolding mask of_mask bit choosing image_one image_two
returns-then-equal c =
    let a = c.args in
    let s = of_mask decisions a.s in
    rw c.if-equal.true
    (c.digit.ensures ∙ ap (λ (w : ℕ). digit w (a.t % 16)) (one_diagonal a.order s)
    ∙ in_word decisions truths (omega arith) (image_two (at_or_below a.order) true s) a.t)

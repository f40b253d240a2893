-- That `fill_truths` (src/lib.rt) keeps its promise.
use Rattle.std.proofs.Common.{true, rules}
use Rattle.possible.specs.Sets.{truths, single, mask}
use Rattle.possible.proofs.SetLoop.{sets_filled}
use Rattle.questions.specs.Questions.{asks_set}
use Rattle.questions.specs.Inner.{set_at}
use Rattle.questions.proofs.fill_truths.Goals as goal

pub returns : goal.returns
unfolding mask
returns c =
    let a = c.args in
    sets_filled truths (asks_set (set_at a.sets.now)) (single true) a.questions.now c.fill.ensures (λ e x y v is. search rules)

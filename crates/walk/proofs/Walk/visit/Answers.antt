-- That `visit` (src/lib.rt) keeps its promise.
use Rattle.std.proofs.Common.{◌≡◌, ◌-◌, ◌^◌, ◌*◌, ◌%◌, ◌∙◌, ℕ, ap, ap₂, arith}
use Rattle.walk.specs.Walk.{heeding}
use Rattle.walk.specs.Seeing.{sees_in}
use Rattle.walk.specs.declared.Look.{Look}
use Rattle.walk.proofs.Sights.{visit_sees}
use Rattle.walk.proofs.Powers.{power_shifted}
use Rattle.walk.proofs.Walk.visit.Goals as goal

pub returns-clause-sight : goal.returns-clause-sight
returns-clause-sight c =
    let a = c.args in
    let w = a.self.now in
    let seen : ℕ → Look = λ known. sees_in w known a.facts in
    let known : 1 * 2 ^ a.k % 4294967296 - 1 ≡ 2 ^ a.k - 1 = ap (λ (n : ℕ). n - 1) (power_shifted a.k c.requires) in
    c.heed.ensures
    ∙ ap₂ heeding c.met-standing.ensures
    (c.look_of.ensures
    ∙ visit_sees w.rows.now w.questions.now w.sets c.fill_sets.new.sets w.truths c.fill_truths.new.masks w.question _ a.facts
    w.lent (omega arith) (omega arith)
    c.fill_sets.ensures c.fill_truths.ensures)
    ∙ ap seen known

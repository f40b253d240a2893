-- That `top_of` (src/lib.rt) keeps its promise.
use Rattle.std.proofs.Common.{◌≡◌, ◌≤◌, ◌∙◌, rules, arith, min, length}
use Rattle.entries.specs.Entries.{number_limit}
use Rattle.decide.proofs.Filled.{filled_array, filled_front, filled_all}
use Rattle.questions.specs.Inner.{top_of, top_in}
use Rattle.questions.proofs.Tops.{top_there}
use Rattle.questions.proofs.top_of.Goals as goal

pub returns : goal.returns
returns c =
    let qs = c.args.questions.now in
    let end = min (length qs) number_limit in
    let room : end ≤ number_limit = omega arith in
    let filled = filled_array number_limit c.fill.ensures room top_of (λ e x y v is. search rules) in
    let front = filled_front c.fill.ensures room top_of (λ e x y v is. search rules) in
    let small = filled_all c.fill.ensures room (λ x. x ≤ number_limit) (omega arith) (λ e x y v is p q. search rules) c.index.result in
    let top : c.from.result ≡ top_in qs c.index.result = c.from.ensures ∙ top_there qs c.index.result c.fill.new.values filled in
    (rw (← c.index.ensures.0) top, rw (top, ← front) small)

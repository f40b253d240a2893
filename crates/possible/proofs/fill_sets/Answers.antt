-- That `fill_sets` (src/lib.rt) keeps its promise.
use Rattle.std.proofs.Common.{rules}
use Rattle.belnap.specs.declared.Decision.TheVariants.{U}
use Rattle.possible.specs.Sets.{decisions, single}
use Rattle.possible.specs.Possible.{set_of}
use Rattle.possible.proofs.SetLoop.{sets_filled}
use Rattle.possible.proofs.fill_sets.Goals as goal

pub returns : goal.returns
returns c =
    let a = c.args in
    sets_filled decisions (set_of a.facts.known a.facts.yes) (single U) a.rows.now (rw c.only.ensures at c.fill.ensures) (λ e s t v is. search rules)

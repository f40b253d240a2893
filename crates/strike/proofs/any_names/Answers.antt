use Rattle.std.proofs.Common.{sym, ◌∙◌, rules, tests}
use Rattle.std.proofs.lemmas.Iterator.{YieldsList-from_slice}
use Rattle.std.proofs.lemmas.Iterator.Search.{any_from_yields_List}
use Rattle.strike.specs.Strike.{names}
use Rattle.strike.proofs.Closing.{some_any}
use Rattle.strike.proofs.any_names.Goals as goal

pub returns : goal.returns
returns c =
    any_from_yields_List (names c.args.r) _ _ _ c.any.ensures.ran (YieldsList-from_slice c.args.entries.now cc) (λ x b q k. search (rules, tests))
    ∙ sym (some_any (names c.args.r) c.args.entries.now)

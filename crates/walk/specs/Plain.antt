-- The walk of 01, before there were constraints (02, L5), for the law that it is today's where a table has none, and for that alone.
use Rattle.std.specs.Prelude.{ℕ, List}
use Rattle.entries.specs.declared.Entry.{Entry}
use Rattle.questions.specs.Questions.{truth_set}
use Rattle.walk.specs.declared.Look.{Look}
use Rattle.walk.specs.Walk.{Visit, look, walk_by}

abbrev pub sees_plainly : List Entry → List Entry → ℕ → ℕ → ℕ → Look
sees_plainly rows questions j known facts = look (truth_set rows questions known facts j)

abbrev pub walk_plainly : List Entry → List Entry → ℕ → ℕ → List Visit
walk_plainly rows questions n j = walk_by (sees_plainly rows questions j) n

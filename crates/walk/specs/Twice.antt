-- The walk by 01's own choice of sets, for the law that today's is no longer (possible/specs/Twice.antt), and for that alone.
use Rattle.std.specs.Prelude.{ℕ, List}
use Rattle.entries.specs.declared.Entry.{Entry}
use Rattle.questions.specs.Twice.{truth_twice}
use Rattle.walk.specs.declared.Look.{Look}
use Rattle.constraints.specs.Constraints.{standing}
use Rattle.walk.specs.Walk.{Visit, look, heeding, walk_by}

abbrev pub sees_twice : List Entry → List Entry → List Entry → ℕ → ℕ → ℕ → Look
sees_twice constraints rows questions j known facts = heeding (standing constraints known facts) (look (truth_twice rows questions known facts j))

abbrev pub walk_twice : List Entry → List Entry → List Entry → ℕ → ℕ → List Visit
walk_twice constraints rows questions n j = walk_by (sees_twice constraints rows questions j) n

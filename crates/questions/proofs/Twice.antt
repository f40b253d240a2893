-- "Sets may shrink" (02, L3): each question's set is within the one that 01's own choice gave it.
-- Assumes nothing.
use mathlib.Core.Bool.{true, false}
use mathlib.Core.List.{List}
use Prim.Native.Nat.{ℕ}
use lib.ListN.{get_or}
use Rattle.kinds.specs.Kinds.{as_question}
use Rattle.entries.specs.declared.Entry.{Entry}
use Rattle.entries.specs.Entries.{blank, equal_numbers}
use Rattle.decide.proofs.RowByRow.{equal_values, side_by_side}
use Rattle.possible.specs.Sets.{Within, single}
use Rattle.possible.specs.Possible.{possible}
use Rattle.possible.specs.Twice.{possible_twice}
use Rattle.possible.proofs.Images.{for_twice}
use Rattle.possible.proofs.Twice.{within_twice}
use Rattle.questions.specs.Questions.{asks_set, truth_set}
use Rattle.questions.specs.Twice.{asks_twice, truth_twice}
use Rattle.questions.proofs.TruthSets.{question_within}

pub truth_within_twice : (rows questions : List Entry) (known request j : ℕ) →
    Within (truth_set rows questions known request j) (truth_twice rows questions known request j)
truth_within_twice rows questions known request j =
    side_by_side Within (asks_set (possible rows known request)) (asks_twice (possible_twice rows known request)) (single true) (single true)
    questions (λ b i. i)
    (λ i x p within. let e = get_or questions i blank in
    let row : (r : ℕ) → Within (possible rows known request r) (possible_twice rows known request r) = within_twice rows known request in
    question_within (as_question e.kind) (equal_numbers e) false _ _ _ _ _ _ _ _
    (for_twice (equal_numbers e) _ _ (equal_values (possible rows known request) e)) (for_twice (equal_numbers e) _ _ (equal_values x e))
    (row e.a) (row e.b) (within e.a) (within e.b)) j

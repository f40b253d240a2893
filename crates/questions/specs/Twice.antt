-- A question's sets by 01's own choice, for the law that today's are within them (possible/specs/Twice.antt), and for that alone.
use Rattle.std.specs.Prelude.{ℕ, true, false, List}
use Rattle.entries.specs.declared.Entry.{Entry}
use Rattle.kinds.specs.Kinds.{as_question}
use Rattle.decide.specs.Rows.{value_at}
use Rattle.possible.specs.Sets.{decisions, truths, Set, single}
use Rattle.possible.specs.Twice.{possible_twice}
use Rattle.questions.specs.Questions.{truth_set_by}

abbrev pub asks_twice : (ℕ → Set decisions) → Entry → Set truths → Set truths → Set truths
asks_twice sets e x y = truth_set_by (as_question e.kind) false (sets e.a) (sets e.b) x y

abbrev pub truth_twice : List Entry → List Entry → ℕ → ℕ → ℕ → Set truths
truth_twice rows questions known request j = value_at (asks_twice (possible_twice rows known request)) (single true) questions j

-- A question at one request, and with facts missing (01, "The four decisions" and "Missing facts").
use Rattle.std.specs.Prelude.{ℕ, Bool, true, not, ◌&&◌, List}
use Rattle.belnap.specs.declared.Decision.{Decision}
use Rattle.belnap.specs.Orders.{at_or_below}
use Rattle.kinds.specs.declared.QuestionKind.{QuestionKind}
use Rattle.kinds.specs.declared.QuestionKind.TheVariants.{Compare, Not, Both}
use Rattle.entries.specs.declared.Entry.{Entry}
use Rattle.entries.specs.Entries.{equal_numbers}
use Rattle.kinds.specs.Kinds.{as_question}
use Rattle.decide.specs.Rows.{value_at}
use Rattle.decide.specs.Meaning.{decision}
use Rattle.possible.specs.Sets.{decisions, truths, Set, single, image_one, image_two}
use Rattle.possible.specs.Possible.{possible}

-- "40 and 41 compare the two decisions there, 42 turns the truth at that request round, 43 is true if both are."
abbrev pub truth_by : QuestionKind → Decision → Decision → Bool → Bool → Bool
truth_by (Compare o) u v x y = at_or_below o u v
truth_by Not u v x y = not x
truth_by Both u v x y = x && y

abbrev pub asks : List Entry → ℕ → Entry → Bool → Bool → Bool
asks rows request e x y = truth_by (as_question e.kind) (decision rows request e.a) (decision rows request e.b) x y

-- whether question j is true at a request
abbrev pub truth : List Entry → List Entry → ℕ → ℕ → Bool
truth rows questions request j = value_at (asks rows request) true questions j

-- "A question's set, of true and false, is formed alike": with one choice where both numbers are equal
unfoldable pub truth_set_by : QuestionKind → Bool → Set decisions → Set decisions → Set truths → Set truths → Set truths
truth_set_by (Compare o) equal s t x y = image_two (at_or_below o) equal s t
truth_set_by Not equal s t x y = image_one not x
truth_set_by Both equal s t x y = image_two ◌&&◌ equal x y

abbrev pub asks_set : (ℕ → Set decisions) → Entry → Set truths → Set truths → Set truths
asks_set sets e x y = truth_set_by (as_question e.kind) (equal_numbers e) (sets e.a) (sets e.b) x y

-- the set of question j, with these predicates known and these of them yes
abbrev pub truth_set : List Entry → List Entry → ℕ → ℕ → ℕ → Set truths
truth_set rows questions known request j = value_at (asks_set (possible rows known request)) (single true) questions j

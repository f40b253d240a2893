-- What the promises of this crate's inner functions speak of; no service's promise does.
use Rattle.std.specs.Prelude.{ℕ, ◌+◌, max, min, List, length, get_or}
use Rattle.kinds.specs.declared.QuestionKind.{QuestionKind}
use Rattle.kinds.specs.declared.QuestionKind.TheVariants.{Compare, Not, Both}
use Rattle.kinds.specs.Kinds.{as_question}
use Rattle.entries.specs.declared.Entry.{Entry}
use Rattle.entries.specs.Entries.{number_limit}
use Rattle.decide.specs.Rows.{values, value_at}
use Rattle.possible.specs.Sets.{decisions, Set, of_mask}

-- how many rows a question looks at: those up to the highest that it reaches
abbrev pub top_by : QuestionKind → ℕ → ℕ → ℕ → ℕ → ℕ
top_by (Compare o) a b x y = max a b + 1
top_by Not a b x y = x
top_by Both a b x y = max x y

abbrev pub top_of : Entry → ℕ → ℕ → ℕ
top_of e x y = top_by (as_question e.kind) e.a e.b x y

abbrev pub top : List Entry → ℕ → ℕ
top questions j = value_at top_of 0 questions j

-- the same of questions, as many of them as a byte can number; 0 for any other
abbrev pub top_in : List Entry → ℕ → ℕ
top_in questions j = get_or (values top_of 0 questions (min (length questions) number_limit)) j 0

-- the set of row r as a run of masks shows it; one past its end reads as always u
abbrev pub set_at : List ℕ → ℕ → Set decisions
set_at sets r = of_mask decisions (get_or sets r 1)

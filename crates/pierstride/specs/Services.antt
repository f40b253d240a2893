-- What each service says, by the reading of the table's bytes (01, "What the desk gets" and "When we say no"), and the struct that shows it.
-- `refusal` is the number of the refusal, 0 for none; what says nothing in a case is 0.
use Rattle.std.specs.Prelude.{ℕ, ◌^◌, Bool, false, cond, not, ◌&&◌, List, length, leb}
use Rattle.belnap.specs.declared.Decision.{Decision}
use Rattle.belnap.specs.Decisions.{code}
use Rattle.lookup.specs.declared.Part.{Part}
use Rattle.entries.specs.Refusals.{not_there, bad_mask}
use Rattle.entries.specs.Said.{Said, answered, refusing, and_then, unless}
use Rattle.entries.specs.Output.{sent, output_of}
use Rattle.table.specs.Contents.{Contents, predicates}
use Rattle.table.specs.Reading.{reading}
use Rattle.lookup.specs.Lookup.{place_of}
use Rattle.decide.specs.Meaning.{decision}
use Rattle.possible.specs.Sets.{decisions, Set, mask}
use Rattle.possible.specs.Possible.{possible}
use Rattle.walk.specs.declared.Reply.{Reply}
use Rattle.walk.specs.declared.Reply.TheVariants.{Holds, Fails, Unfinished}
use Rattle.walk.specs.Walk.{Visit, walk, reply_of}
use Rattle.suppliers.specs.Suppliers.{list_of}
use Rattle.strike.specs.Strike.{struck_answer, struck_output}
use Rattle.constraints.specs.Constraints.{within}
use Rattle.questions.specs.Questions.{truth}
use Rattle.dimacs.specs.Dimacs.{file_of}
use Rattle.text.specs.Calls.{to_text, from_text}
use Rattle.pierstride.specs.declared.Written.{Written}
use Rattle.pierstride.specs.declared.Counts.{Counts}
use Rattle.pierstride.specs.declared.Decided.{Decided}
use Rattle.pierstride.specs.declared.Remaining.{Remaining}
use Rattle.pierstride.specs.declared.Verdict.{Verdict}
use Rattle.pierstride.specs.declared.Located.{Located}
use Rattle.pierstride.specs.declared.Judged.{Judged}
use Rattle.pierstride.specs.Masks.{beyond, bad_masks}

-- 8, "the row or question asked for is not there"; then 10, "a mask bit above 23, or yes without known"; 0 for neither
abbrev pub asked_wrongly : Bool → Bool → ℕ
asked_wrongly missing bad = cond missing not_there (cond bad bad_mask 0)

-- "Reading a table answers the number of rows, the number of questions, and n."
abbrev pub counts_of : Said Contents → Counts
counts_of (answered c) = record { refusal = 0; place = 0; rows = length c.rows; questions = length c.questions; predicates = predicates c }
counts_of (refusing why) = record { refusal = why.number; place = why.place; rows = 0; questions = 0; predicates = 0 }

abbrev pub read_answer : List ℕ → Counts
read_answer s = counts_of (reading s)

-- "Deciding one row takes a yes mask alone, every predicate being known, and answers the code; its own refusals are 8 and 10."
abbrev pub decided_of : Said Decision → Decided
decided_of (answered v) = record { refusal = 0; place = 0; code = code v }
decided_of (refusing why) = record { refusal = why.number; place = why.place; code = 0 }

unfoldable pub says_decide : List ℕ → ℕ → ℕ → Said Decision
says_decide s r request =
    and_then (reading s) (λ c. unless (asked_wrongly (leb (length c.rows) r) (beyond request)) (answered (decision c.rows request r)))

abbrev pub decide_answer : List ℕ → ℕ → ℕ → Decided
decide_answer s r request = decided_of (says_decide s r request)

-- "It answers with a set of decisions, a mask in which u counts 1, d 2, g 4, c 8."
abbrev pub remaining_of : Said (Set decisions) → Remaining
remaining_of (answered set) = record { refusal = 0; place = 0; set = mask decisions set }
remaining_of (refusing why) = record { refusal = why.number; place = why.place; set = 0 }

unfoldable pub says_possible : List ℕ → ℕ → ℕ → ℕ → Said (Set decisions)
says_possible s r known request =
    and_then (reading s) (λ c. unless (asked_wrongly (leb (length c.rows) r) (bad_masks known request)) (answered (possible c.rows known request r)))

-- the same with the set as its mask
abbrev pub masked : Said (Set decisions) → Said ℕ
masked x = and_then x (λ set. answered (mask decisions set))

abbrev pub possible_answer : List ℕ → ℕ → ℕ → ℕ → Remaining
possible_answer s r known request = remaining_of (says_possible s r known request)

-- "holds, with the count; fails, with the breaking request as a yes mask and the count; unfinished, with the budget as the count"
abbrev pub holding : ℕ
holding = 1

abbrev pub failing : ℕ
failing = 2

abbrev pub unfinished : ℕ
unfinished = 3

abbrev pub replied_of : Reply → Verdict
replied_of (Holds n) = record { refusal = 0; place = 0; reply = holding; request = 0; visits = n }
replied_of (Fails m n) = record { refusal = 0; place = 0; reply = failing; request = m; visits = n }
replied_of (Unfinished n) = record { refusal = 0; place = 0; reply = unfinished; request = 0; visits = n }

abbrev pub verdict_of : Said Reply → Verdict
verdict_of (answered reply) = replied_of reply
verdict_of (refusing why) = record { refusal = why.number; place = why.place; reply = 0; request = 0; visits = 0 }

-- the visits of the walk for a question of a table
abbrev pub walk_of : Contents → ℕ → List Visit
walk_of c q = walk c.constraints c.rows c.questions (predicates c) q

unfoldable pub says_verdict : List ℕ → ℕ → ℕ → Said Reply
says_verdict s q budget =
    and_then (reading s) (λ c. unless (asked_wrongly (leb (length c.questions) q) false) (answered (reply_of budget (walk_of c q))))

abbrev pub verdict_answer : List ℕ → ℕ → ℕ → Verdict
verdict_answer s q budget = verdict_of (says_verdict s q budget)

-- where a row's own bytes stand: their start and how many they are
abbrev pub located_of : Said Part → Located
located_of (answered part) = record { refusal = 0; place = 0; start = part.start; length = part.length }
located_of (refusing why) = record { refusal = why.number; place = why.place; start = 0; length = 0 }

abbrev pub says_entry : List ℕ → ℕ → Said Part
says_entry s r = place_of (reading s) r

abbrev pub entry_answer : List ℕ → ℕ → Located
entry_answer s r = located_of (says_entry s r)

-- a call that writes: "The length comes back."
abbrev pub written_of : Said ℕ → Written
written_of (answered n) = record { refusal = 0; place = 0; length = n }
written_of (refusing why) = record { refusal = why.number; place = why.place; length = 0 }

-- striking
abbrev pub says_strike : List ℕ → ℕ → List ℕ → Said ℕ
says_strike s r out = struck_answer (reading s) r (length out)

abbrev pub strike_answer : List ℕ → ℕ → List ℕ → Written
strike_answer s r out = written_of (says_strike s r out)

abbrev pub strike_output : List ℕ → ℕ → List ℕ → List ℕ
strike_output s r out = struck_output (reading s) r out

-- "A new call lists the suppliers of all rows a row reaches, itself included, each once, rising" (02, L6)
abbrev pub says_suppliers : List ℕ → ℕ → Said (List ℕ)
says_suppliers s r = list_of (reading s) r

abbrev pub suppliers_answer : List ℕ → ℕ → List ℕ → Written
suppliers_answer s r out = written_of (sent (says_suppliers s r) (length out))

abbrev pub suppliers_output : List ℕ → ℕ → List ℕ → List ℕ
suppliers_output s r out = output_of (says_suppliers s r) out

-- "Write the negation of a question as a DIMACS CNF file" (02, L7)
abbrev pub says_file : List ℕ → ℕ → Said (List ℕ)
says_file s q = file_of (reading s) q

abbrev pub dimacs_answer : List ℕ → ℕ → List ℕ → Written
dimacs_answer s q out = written_of (sent (says_file s q) (length out))

abbrev pub dimacs_output : List ℕ → ℕ → List ℕ → List ℕ
dimacs_output s q out = output_of (says_file s q) out

-- "take a yes mask from outside and say yes exactly if it keeps L5's entries and breaks the question"; "10 for a mask with a bit from n up" (02, L7)
abbrev pub breaking : Contents → ℕ → ℕ → Bool
breaking c q request = within c.constraints request && not (truth c.rows c.questions request q)

abbrev pub judged_of : Said Bool → Judged
judged_of (answered broken) = record { refusal = 0; place = 0; breaks = cond broken 1 0 }
judged_of (refusing why) = record { refusal = why.number; place = why.place; breaks = 0 }

unfoldable pub says_breaks : List ℕ → ℕ → ℕ → Said Bool
says_breaks s q request =
    and_then (reading s) (λ c. unless (asked_wrongly (leb (length c.questions) q) (leb (2 ^ predicates c) request)) (answered (breaking c q request)))

abbrev pub breaks_answer : List ℕ → ℕ → ℕ → Judged
breaks_answer s q request = judged_of (says_breaks s q request)

-- "Write and read a text of one line an entry" (02, L2)
abbrev pub to_text_answer : List ℕ → List ℕ → Written
to_text_answer s out = written_of (sent (to_text s) (length out))

abbrev pub to_text_output : List ℕ → List ℕ → List ℕ
to_text_output s out = output_of (to_text s) out

abbrev pub from_text_answer : List ℕ → List ℕ → Written
from_text_answer text out = written_of (sent (from_text text) (length out))

abbrev pub from_text_output : List ℕ → List ℕ → List ℕ
from_text_output text out = output_of (from_text text) out

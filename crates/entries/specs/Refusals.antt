-- The refusals by their numbers (01, "When we say no"; 02, L2, L5 and L6).
use Rattle.std.specs.Prelude.{ℕ, Bool, cond, List, [], ◌∷◌, eqb, Option, Some, None}
use Rattle.entries.specs.declared.refusals.Reason.{Reason}
use Rattle.entries.specs.declared.refusals.Reason.TheVariants.{Unlisted, CutShort, PredicateTooHigh, NotToBeNamed, OutOfOrder, TooManyRows}
use Rattle.entries.specs.declared.refusals.Reason.TheVariants.{TooManyQuestions, NotThere, StillNamed, BadMask, OutputTooShort, UnknownWord, Misspelt}
use Rattle.entries.specs.declared.refusals.Reason.TheVariants.{TooManyConstraints, IdleSupplier}
use Rattle.entries.specs.Lists.{some}

-- "kind not listed"
abbrev pub unlisted : ℕ
unlisted = 1

-- "the body is cut short"
abbrev pub cut_short : ℕ
cut_short = 2

-- "predicate above 23"
abbrev pub predicate_too_high : ℕ
predicate_too_high = 3

-- "a number that may not be named there"
abbrev pub not_to_be_named : ℕ
not_to_be_named = 4

-- "a row after a question", "also when 50 or 51 follows a row or question" (02, L5), and "a 60 after a question" (02, L6)
abbrev pub out_of_order : ℕ
out_of_order = 5

-- "a 257th row"
abbrev pub too_many_rows : ℕ
too_many_rows = 6

-- "a 65th question"
abbrev pub too_many_questions : ℕ
too_many_questions = 7

-- "the row or question asked for is not there"
abbrev pub not_there : ℕ
not_there = 8

-- "the row to strike is named by a row or question"
abbrev pub still_named : ℕ
still_named = 9

-- "a mask bit above 23, or yes without known"
abbrev pub bad_mask : ℕ
bad_mask = 10

-- "the output is shorter than the bytes to write"
abbrev pub output_too_short : ℕ
output_too_short = 11

-- "unknown word or a number above 255" (02, L2)
abbrev pub unknown_word : ℕ
unknown_word = 12

-- "any other spelling"
abbrev pub misspelt : ℕ
misspelt = 13

-- "a 33rd such entry" (02, L5)
abbrev pub too_many_constraints : ℕ
too_many_constraints = 14

-- "a 60 that repeats the supplier in force or is not followed by a row's kind byte" (02, L6)
abbrev pub idle_supplier : ℕ
idle_supplier = 15

-- the number of each reason
abbrev pub number_of : Reason → ℕ
number_of Unlisted = unlisted
number_of CutShort = cut_short
number_of PredicateTooHigh = predicate_too_high
number_of NotToBeNamed = not_to_be_named
number_of OutOfOrder = out_of_order
number_of TooManyRows = too_many_rows
number_of TooManyQuestions = too_many_questions
number_of NotThere = not_there
number_of StillNamed = still_named
number_of BadMask = bad_mask
number_of OutputTooShort = output_too_short
number_of UnknownWord = unknown_word
number_of Misspelt = misspelt
number_of TooManyConstraints = too_many_constraints
number_of IdleSupplier = idle_supplier

-- and of a reason that may be missing: 0 where it is
abbrev pub number_or_none : Option Reason → ℕ
number_or_none (Some reason) = number_of reason
number_or_none None = 0

-- 8 where what was asked for is missing; 0 where it is there
abbrev pub if_missing : Bool → ℕ
if_missing missing = cond missing not_there 0

-- those of reading, in the order in which they are looked for at an entry: first these, whose place is the kind byte's, then these, whose place is a
-- number's (02, L1)
abbrev pub at_kind_byte : List ℕ
at_kind_byte = unlisted ∷ out_of_order ∷ too_many_rows ∷ too_many_questions ∷ too_many_constraints ∷ cut_short ∷ idle_supplier ∷ []

abbrev pub at_number : List ℕ
at_number = predicate_too_high ∷ not_to_be_named ∷ []

-- those that an entry with a whole body may bring, and those of a text's spelling
abbrev pub of_entries : List ℕ
of_entries = out_of_order ∷ too_many_rows ∷ too_many_questions ∷ too_many_constraints ∷ idle_supplier ∷ at_number

abbrev pub of_spelling : List ℕ
of_spelling = unknown_word ∷ misspelt ∷ []

-- whether a number stands in a list
abbrev pub is_among : List ℕ → ℕ → Bool
is_among ns n = some (eqb n) ns

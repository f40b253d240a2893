-- The entries that a text spells, line by line from the front (02, L2).
use Rattle.std.specs.Prelude.{ℕ, suc, cond, ◌&&◌, List, [], ◌∷◌, map, length, eqb, Option, Some, None}
use Rattle.kinds.specs.declared.Kind.{Kind}
use Rattle.kinds.specs.Kinds.{form_of}
use Rattle.kinds.specs.Words.{kind_spelled}
use Rattle.entries.specs.declared.Entry.{Entry}
use Rattle.entries.specs.Lists.{some, every}
use Rattle.entries.specs.Refusals.{unknown_word, misspelt}
use Rattle.entries.specs.Said.{Said, answered, refusing, refusal, and_then, unless}
use Rattle.table.specs.Steps.{entry_of}
use Rattle.decimal.specs.Decimal.{value, too_large, well_spelled, space, line_feed}

-- bytes cut at each separator: what stands before the first, and the pieces behind each
pub record Pieces : Type 0 where
  pub first : List ℕ
  pub more : List (List ℕ)

abbrev pub pieces : List ℕ → List (List ℕ) → Pieces
pieces first more = record { first = first; more = more }

unfoldable pub split : ℕ → List ℕ → Pieces
split sep [] = pieces [] []
split sep (x ∷ s) = let rest = split sep s in cond (eqb x sep) (pieces [] (rest.first ∷ rest.more)) (pieces (x ∷ rest.first) rest.more)

-- "12, unknown word or a number above 255; 13, any other spelling (leading zero, extra space, a number too many or too few …), after 12 on the same line";
-- 0 where a kind's numbers are spelled well
unfoldable pub misspelling : Kind → List (List ℕ) → ℕ
misspelling kind numbers =
    cond (some too_large numbers) unknown_word (cond (eqb (length numbers) (form_of kind).numbers && every well_spelled numbers) 0 misspelt)

-- "The word runs to the first space or the line's end"; behind it, a piece behind each space
abbrev pub line_by : Option Kind → List (List ℕ) → Said Entry
line_by None numbers = refusing (refusal unknown_word 0)
line_by (Some kind) numbers = unless (misspelling kind numbers) (answered (entry_of kind (map value numbers)))

-- what is said of a line, without its line feed
unfoldable pub line_says : List ℕ → Said Entry
line_says line = let p = split space line in line_by (kind_spelled p.first) p.more

-- and by the lines behind it: where there is none, it misses its line feed, which is 13, after its 12
abbrev pub ended_by : List (List ℕ) → Said Entry → Said Entry
ended_by [] said = and_then said (λ e. refusing (refusal misspelt 0))
ended_by (next ∷ more) said = said

-- what is said of a line by its number, and of the lines behind it: the first bad line speaks
unfoldable pub on_line : ℕ → Said Entry → Said (List Entry) → Said (List Entry)
on_line n (answered e) rest = and_then rest (λ es. answered (e ∷ es))
on_line n (refusing why) rest = refusing (refusal why.number n)

-- what stands behind the last line feed, if anything, misses its own
abbrev pub last_says : ℕ → List ℕ → Said (List Entry)
last_says n [] = answered []
last_says n (x ∷ line) = on_line n (ended_by [] (line_says (x ∷ line))) (answered [])

-- the lines from line n on
unfoldable pub lines_say : ℕ → List ℕ → List (List ℕ) → Said (List Entry)
lines_say n line [] = last_says n line
lines_say n line (next ∷ more) = on_line n (line_says line) (lines_say (suc n) next more)

-- "both are looked for through the whole text", lines counted from 1
unfoldable pub spelled : List ℕ → Said (List Entry)
spelled text = let lines = split line_feed text in lines_say 1 lines.first lines.more

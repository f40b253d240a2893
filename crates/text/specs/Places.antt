-- What a refusal of a text says, and what its line is (02, L2).
use Rattle.std.specs.Prelude.{ℕ, suc, ◌+◌, ◌≡◌, true, List, [], ◌∷◌, ◌++◌, ◌⊎◌, length}
use Rattle.entries.specs.declared.Entry.{Entry}
use Rattle.entries.specs.Said.{Refusal}
use Rattle.entries.specs.Refusals.{output_too_short, of_entries, of_spelling, is_among}
use Rattle.entries.specs.Said.{answered, refusing, refusal}
use Rattle.kinds.specs.Kinds.{is_row}
use Rattle.table.specs.Steps.{begins_row, placed, permitted}
use Rattle.table.specs.Contents.{Contents, tally_of, entries, written}
use Rattle.table.specs.Places.{Reached}
use Rattle.table.specs.Reading.{reading}
use Rattle.decimal.specs.Decimal.{line_feed}
use Rattle.text.specs.Lines.{text_of}
use Rattle.text.specs.Texts.{split, line_says, spelled, ended_by}

-- 12 or 13: the lines before are spelled well, and the line itself says so
pub record BadLine (text : List ℕ) (number line : ℕ) : Type 0 where
  pub before : List Entry
  pub rest : List ℕ
  pub parts : text ≡ text_of before ++ rest
  pub well : spelled (text_of before) ≡ answered before
  pub there : rest ≡ [] → ⊥
  pub among : is_among of_spelling number ≡ true
  pub line_is : line ≡ suc (length before)
  pub here : Refusal
  pub says : ended_by (split line_feed rest).more (line_says (split line_feed rest).first) ≡ refusing here
  pub number_is : number ≡ here.number

-- 01's own for the bytes, "of which 1 and 2 cannot occur": every line is spelled well, the entries before the line's are an accepted table, or one and a 60
-- that waits for the line's, behind which the line's may not stand; and reading the bytes of all refuses them with that number, at that entry
pub record BadEntry (text : List ℕ) (number line : ℕ) : Type 0 where
  pub front : List Entry
  pub bad : Entry
  pub rest : List Entry
  pub spells : spelled text ≡ answered (front ++ (bad ∷ rest))
  pub among : is_among of_entries number ≡ true
  pub line_is : line ≡ suc (length front)
  pub before : Contents
  pub stands : front ≡ entries before
  pub reached : Reached before (is_row bad.kind)
  pub place : ℕ
  pub brings : permitted bad (placed bad before.supplier (begins_row (written rest))) (tally_of before) ≡ refusing (refusal number place)
  pub refuses : reading (written (front ++ (bad ∷ rest))) ≡ refusing (refusal number (length (written front) + place))

-- "last 11 at place 0"
abbrev pub DueText : List ℕ → ℕ → ℕ → Type 0
DueText text number line = BadLine text number line ⊎ (BadEntry text number line ⊎ ((number ≡ output_too_short) × (line ≡ 0)))

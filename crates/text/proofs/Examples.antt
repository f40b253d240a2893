-- What the definitions say of 02's examples and of table A, by computation: the reader's own check of them.
-- Assumes nothing.
use mathlib.Core.Path.{◌≡◌, refl}
use mathlib.Core.List.{List, [], ◌∷◌}
use Prim.Native.Nat.{ℕ}
use Prim.Native.String.{String}
use Rattle.kinds.specs.Kinds.{kind_of}
use Rattle.kinds.specs.Words.{bytes, word_of, kind_spelled}
use Rattle.entries.specs.Refusals.{predicate_too_high, not_to_be_named, out_of_order, unknown_word, misspelt, idle_supplier}
use Rattle.entries.specs.Said.{answered, refusing, refusal}
use Rattle.entries.specs.Entries.{bytes_of}
use Rattle.table.specs.Steps.{body_of, decoded, no_room, offending, placed, permitted, judged, step_of}
use Rattle.table.specs.Suppliers.{marked, last_of}
use Rattle.table.specs.Contents.{written}
use Rattle.table.specs.Reading.{after, read_on, reading}
use Rattle.decimal.specs.Decimal.{decimal, value, too_large, well_spelled}
use Rattle.text.specs.Lines.{line_of, text_of}
use Rattle.text.specs.Texts.{split, misspelling, line_says, on_line, lines_say, spelled}
use Rattle.text.specs.Calls.{to_text, line_at, from_text}

-- a text that is refused, and one that spells a table
abbrev Refuses : String → ℕ → ℕ → Type 0
Refuses text number line = from_text (bytes text) ≡ refusing (refusal number line)

abbrev Spells : String → List ℕ → Type 0
Spells text table = (from_text (bytes text) ≡ answered table) × (to_text table ≡ answered (bytes text))

-- 12, "unknown word or a number above 255": by value, however long, wherever on the line; it goes before 13 on the same line only
pub twelve :
    Refuses "deny 300\n" unknown_word 1 × Refuses "deny-if  300\n" unknown_word 1 × Refuses "deny-if x 300\n" unknown_word 1
    × Refuses "deny-if 0300\n" unknown_word 1 × Refuses "deny-if 4294967297\n" unknown_word 1 × Refuses "deny-if 256" unknown_word 1
    × Refuses "\n" unknown_word 1 × Refuses " deny\n" unknown_word 1 × Refuses "deny\r\n" unknown_word 1 × Refuses "Deny\n" unknown_word 1
    × Refuses "deny\ngrant\n\n" unknown_word 3
unfolding kind_spelled word_of value too_large well_spelled split misspelling line_says on_line lines_say spelled from_text
twelve = (refl, refl, refl, refl, refl, refl, refl, refl, refl, refl, refl)

-- 13, any other spelling: a leading zero, an extra space, a number too many or too few, a piece that is not digits alone, a missing line feed
pub thirteen :
    Refuses "deny-if 03\n" misspelt 1 × Refuses "deny-if  3\n" misspelt 1 × Refuses "deny-if 3 \n" misspelt 1 × Refuses "deny-if\n" misspelt 1
    × Refuses "deny-if 3 4\n" misspelt 1 × Refuses "deny-if x\n" misspelt 1 × Refuses "deny-if 3\r\n" misspelt 1 × Refuses "deny" misspelt 1
    × Refuses "deny \nfoo\n" misspelt 1 × Refuses "not 5\ndeny-if 0" misspelt 2
unfolding kind_spelled word_of value too_large well_spelled split misspelling line_says on_line lines_say spelled from_text
thirteen = (refl, refl, refl, refl, refl, refl, refl, refl, refl, refl)

-- then 01's own, by line
pub own :
    Refuses "deny-if 24\n" predicate_too_high 1 × Refuses "deny\nnegation 1\n" not_to_be_named 2
    × Refuses "deny\ntruth-at-or-below 0 0\ngrant\n" out_of_order 3 × Refuses "negation 0\ndeny-if 01\n" misspelt 2
    × Refuses "deny\nnever-both 0 1\n" out_of_order 2 × Refuses "only-if 0 24\n" predicate_too_high 1
    × Refuses "supplier 5\nnever-both 0 1\n" idle_supplier 1 × Refuses "deny\nsupplier 0\ndeny\n" idle_supplier 2
    × Refuses "supplier 5\n" idle_supplier 1 × Refuses "supplier 5\nnegation 0\n" not_to_be_named 2 × Refuses "supplier 5\nnegation\n" misspelt 2
unfolding kind_spelled word_of value too_large well_spelled split misspelling line_says on_line lines_say spelled from_text
    line_at written bytes_of reading read_on after step_of judged placed permitted offending no_room decoded body_of kind_of
own = (refl, refl, refl, refl, refl, refl, refl, refl, refl, refl, refl)

-- the empty text is the text of the empty table; and a table of each shape of entry
pub spells :
    Spells "" [] × Spells "grant-if 0\ndeny\nimplication 0 1\ntruth-at-or-below 2 1\nnot 0\n"
    (0x11 ∷ 0x00 ∷ 0x01 ∷ 0x34 ∷ 0x00 ∷ 0x01 ∷ 0x40 ∷ 0x02 ∷ 0x01 ∷ 0x42 ∷ 0x00 ∷ [])
    × Spells "never-both 0 1\nonly-if 2 23\ndeny\n" (0x50 ∷ 0x00 ∷ 0x01 ∷ 0x51 ∷ 0x02 ∷ 0x17 ∷ 0x01 ∷ [])
    × Spells "deny\nsupplier 255\ngrant\ngrant\nsupplier 0\ndeny\n" (0x01 ∷ 0x60 ∷ 0xFF ∷ 0x02 ∷ 0x02 ∷ 0x60 ∷ 0x00 ∷ 0x01 ∷ [])
unfolding kind_spelled word_of decimal value too_large well_spelled split misspelling line_says on_line lines_say spelled from_text to_text line_of text_of
    line_at written marked last_of bytes_of reading read_on after step_of judged placed permitted offending no_room decoded body_of kind_of
spells = ((refl, refl), (refl, refl), (refl, refl), (refl, refl))

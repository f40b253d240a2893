-- The text of a table (02, L2): "one line an entry: a word for the kind, then its numbers in decimal, a single space before each, one line feed at the end".
use Rattle.std.specs.Prelude.{ℕ, List, [], ◌∷◌, ◌++◌, map}
use Rattle.kinds.specs.Words.{word_of}
use Rattle.entries.specs.declared.Entry.{Entry}
use Rattle.entries.specs.Entries.{numbers_in}
use Rattle.decimal.specs.Decimal.{decimal, space, line_feed}

-- pieces one after the other, a separator before each
abbrev pub each : ℕ → List (List ℕ) → List ℕ
each sep [] = []
each sep (piece ∷ more) = sep ∷ piece ++ each sep more

-- an entry's line
unfoldable pub line_of : Entry → List ℕ
line_of e = word_of e.kind ++ each space (map decimal (numbers_in e)) ++ (line_feed ∷ [])

-- the lines of entries, one after the other
unfoldable pub text_of : List Entry → List ℕ
text_of [] = []
text_of (e ∷ es) = line_of e ++ text_of es

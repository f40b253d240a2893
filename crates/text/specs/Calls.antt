-- What the two calls say: the text of a table, and the bytes of the table that a text spells (02, L2).
use Rattle.std.specs.Prelude.{ℕ, suc, ◌-◌, cond, List, [], ◌∷◌, ltb}
use Rattle.entries.specs.declared.Entry.{Entry}
use Rattle.entries.specs.Said.{Said, answered, refusing, refusal, and_then}
use Rattle.entries.specs.Entries.{size_of}
use Rattle.table.specs.Contents.{Contents, entries, written}
use Rattle.table.specs.Reading.{reading}
use Rattle.text.specs.Lines.{text_of}
use Rattle.text.specs.Texts.{spelled}

-- the text of a table, or reading's own refusal
unfoldable pub to_text : List ℕ → Said (List ℕ)
to_text s = and_then (reading s) (λ c. answered (text_of (entries c)))

-- the line of the entry that has the byte at a place
unfoldable pub line_at : List Entry → ℕ → ℕ
line_at [] place = 1
line_at (e ∷ es) place = cond (ltb place (size_of e)) 1 (suc (line_at es (place - size_of e)))

-- "then 01's own for the bytes", "every place but 11's is the line number"
abbrev pub by_line : List Entry → Said Contents → Said (List ℕ)
by_line es (answered c) = answered (written es)
by_line es (refusing why) = refusing (refusal why.number (line_at es why.place))

-- the bytes of the table that a text spells: 12 and 13 through the whole text, then 01's own
unfoldable pub from_text : List ℕ → Said (List ℕ)
from_text text = and_then (spelled text) (λ es. by_line es (reading (written es)))

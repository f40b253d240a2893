-- What the promises of the parts mean: the pieces behind a place, a line by itself, and what the lines from a place on spell.
use Rattle.std.specs.Prelude.{ℕ, ◌+◌, ◌≤◌, ◌≡◌, Bool, List, [], ◌∷◌, length, take, Option, Some, None, unwrap_or}
use Rattle.entries.specs.declared.Entry.{Entry}
use Rattle.entries.specs.Said.{Said, Refusal, answered, refusing, said}
use Rattle.entries.specs.Entries.{supplier_size}
use Rattle.table.specs.Steps.{byte_limit}
use Rattle.text.specs.declared.lines.Line.{Line}
use Rattle.text.specs.declared.Gathered.{Gathered}
use Rattle.decimal.specs.Decimal.{space, line_feed}
use Rattle.kinds.specs.Kinds.{of_row}
use Rattle.kinds.specs.Words.{kind_spelled}
use Rattle.text.specs.Texts.{Pieces, split, line_says, ended_by, lines_say}

-- the pieces of what is left: one behind the separator that it begins with, and so on
abbrev pub pieces_behind : ℕ → List ℕ → List (List ℕ)
pieces_behind sep [] = []
pieces_behind sep (x ∷ s) = let p = split sep s in p.first ∷ p.more

-- where the line behind one begins, that ends at a place
abbrev pub after : List (List ℕ) → ℕ → ℕ
after [] end = end
after (next ∷ more) end = end + 1

-- what is said of the first line of those cut, which begins at a place, and where the next one begins
pub record Found : Type 0 where
  pub said : Said Entry
  pub next : ℕ

unfoldable pub line_from : ℕ → Pieces → Found
line_from at lines = record { said = ended_by lines.more (line_says lines.first); next = after lines.more (at + length lines.first) }

-- and so of the line that the code found
abbrev pub line_found : Line → Found
line_found line = record { said = said line.said; next = line.next }

-- whether what is left of a text begins with a row's word
unfoldable pub row_spelled : List ℕ → Bool
row_spelled s = of_row (kind_spelled (split space (split line_feed s).first).first)

-- what the lines from line n on say, of what is left of a text
unfoldable pub said_from : ℕ → List ℕ → Said (List Entry)
said_from n s = let lines = split line_feed s in lines_say n lines.first lines.more

-- the refusal of the first bad one, where there is one
abbrev pub turned : {A : Type 0} → Said A → Option Refusal
turned (answered v) = None
turned (refusing why) = Some why

abbrev pub bad_from : ℕ → List ℕ → Option Refusal
bad_from n s = turned (said_from n s)

-- it goes before 01's own
abbrev pub own_unless : Refusal → Option Refusal → Refusal
own_unless own bad = unwrap_or bad own

-- no table has more bytes, with a 60 that waits for its row
abbrev pub gather_limit : ℕ
gather_limit = byte_limit + supplier_size

-- the count of bytes gathered fits their array
pub record Holds (g : Gathered) : Type 0 where
  pub fits : g.length ≤ gather_limit
  pub there : gather_limit ≤ length g.bytes

-- the bytes of a table, gathered
pub record Gathers (x : Said (List ℕ)) (g : Gathered) : Type 0 where
  pub holds : Holds g
  pub says : x ≡ answered (take g.length g.bytes)

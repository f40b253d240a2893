-- Striking a row (01, "Taking one entry, and striking a row" and "When we say no"; 02, L5 and L6).
use Rattle.std.specs.Prelude.{ℕ, zero, suc, ◌+◌, ◌-◌, Bool, cond, ◌&&◌, ◌||◌, List, [], ◌∷◌, ◌++◌, map, length, drop, leb, ltb, eqb}
use Rattle.entries.specs.declared.Entry.{Entry}
use Rattle.entries.specs.Refusals.{still_named, output_too_short, if_missing}
use Rattle.entries.specs.Said.{Said, answered, refusing, and_then, unless}
use Rattle.entries.specs.Lists.{some}
use Rattle.table.specs.Suppliers.{no_supplier, change}
use Rattle.table.specs.Contents.{Contents, settled, others, written, encoded}
use Rattle.entries.specs.Renaming.{names_row, renamed}

-- "each row number above r lowered by one"
unfoldable pub lower : ℕ → ℕ → ℕ
lower r x = cond (ltb r x) (x - 1) x

-- the old number of the row that is now at j
unfoldable pub old : ℕ → ℕ → ℕ
old r j = cond (ltb j r) j (suc j)

-- "wherever it occurs, question numbers unchanged"
abbrev pub lowered : ℕ → Entry → Entry
lowered r e = renamed (lower r) e

-- a list without the element at r
unfoldable pub without : {A : Type 0} → ℕ → List A → List A
without r [] = []
without zero (x ∷ l) = l
without (suc r) (x ∷ l) = x ∷ without r l

-- entries closed up over the one at r
abbrev pub closed_up : ℕ → List Entry → List Entry
closed_up r es = map (lowered r) (without r es)

-- "the table without that row"; "striking keeps them", the constraints (02, L5), "and every row's supplier" (02, L6)
abbrev pub struck : ℕ → Contents → Contents
struck r c = settled (record {
  constraints = c.constraints;
  rows = closed_up r c.rows;
  suppliers = without r c.suppliers;
  questions = map (lowered r) c.questions;
  supplier = no_supplier;
})

-- its bytes
abbrev pub struck_bytes : ℕ → Contents → List ℕ
struck_bytes r c = encoded (struck r c)

-- how many bytes the 60s of rows with these suppliers have, behind a supplier in force
abbrev pub mark_bytes : ℕ → List ℕ → ℕ
mark_bytes force [] = 0
mark_bytes force (s ∷ ss) = length (written (change force s)) + mark_bytes s ss

-- whether an entry names row r
abbrev pub names : ℕ → Entry → Bool
names r e = (names_row 0 e && eqb e.a r) || (names_row 1 e && eqb e.b r)

-- 8, "the row or question asked for is not there"
abbrev pub missing : ℕ → Contents → Bool
missing r c = leb (length c.rows) r

-- 9, "the row to strike is named by a row or question"
unfoldable pub in_use : ℕ → Contents → Bool
in_use r c = some (names r) (others c)

-- 11, "the output is shorter than the bytes to write"
abbrev pub too_short : ℕ → ℕ → Contents → Bool
too_short room r c = ltb room (length (struck_bytes r c))

-- 9, then 11; 0 for neither
abbrev pub strike_refusal : Bool → Bool → ℕ
strike_refusal named short = cond named still_named (cond short output_too_short 0)

-- reading's own refusal, then these in their order; otherwise "the length comes back"
unfoldable pub struck_answer : Said Contents → ℕ → ℕ → Said ℕ
struck_answer x r room =
    and_then x (λ c.
    unless (if_missing (missing r c)) (unless (strike_refusal (in_use r c) (too_short room r c)) (answered (length (struck_bytes r c)))))

-- "bytes behind the last stay"; "a refusal changes no lent byte"
abbrev pub output_by : Said ℕ → List ℕ → List ℕ → List ℕ
output_by (answered n) bytes out = bytes ++ drop n out
output_by (refusing why) bytes out = out

unfoldable pub struck_output : Said Contents → ℕ → List ℕ → List ℕ
struck_output (answered c) r out = output_by (struck_answer (answered c) r (length out)) (struck_bytes r c) out
struck_output (refusing why) r out = out

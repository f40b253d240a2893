-- One row taken out of a table (01, "Taking one entry, and striking a row").
use Rattle.std.specs.Prelude.{ℕ, suc, ◌-◌, List, [], ◌++◌, length, get_or, take, drop, leb}
use Rattle.entries.specs.declared.Entry.{Entry}
use Rattle.lookup.specs.declared.Part.{Part}
use Rattle.entries.specs.Refusals.{if_missing}
use Rattle.entries.specs.Said.{Said, answered, refusing, and_then, unless}
use Rattle.entries.specs.Entries.{blank, size_of}
use Rattle.table.specs.Suppliers.{no_supplier, change, marked, last_of}
use Rattle.table.specs.Contents.{Contents, settled, written, encoded}

-- the table that ends with row r: the row's own bytes are its last, behind a 60 that may stand before it (02, L6)
abbrev pub ending_with : ℕ → Contents → Contents
ending_with r c = settled (record {
  constraints = c.constraints;
  rows = take (suc r) c.rows;
  suppliers = take (suc r) c.suppliers;
  questions = [];
  supplier = no_supplier;
})

abbrev pub part_of : ℕ → Contents → Part
part_of r c = let size = size_of (get_or c.rows r blank) in record { start = length (encoded (ending_with r c)) - size; length = size }

-- how many bytes the rows before row r have with their 60s, and the 60 before it
abbrev pub bytes_before : List ℕ → List Entry → ℕ → ℕ
bytes_before ss es r =
    let before = take r ss in
    length (written (marked no_supplier before (take r es) ++ change (last_of no_supplier before) (get_or ss r no_supplier)))

-- where row r's own bytes stand, or why they do not: reading's own refusal, then 8 at 0
unfoldable pub place_of : Said Contents → ℕ → Said Part
place_of x r = and_then x (λ c. unless (if_missing (leb (length c.rows) r)) (answered (part_of r c)))

-- where the part at a place starts; 0 where there is none
abbrev pub start_at : Said Part → ℕ
start_at (answered part) = part.start
start_at (refusing why) = 0

-- "Asking for row r gives back that entry's own bytes …; a refusal gives an empty part"
abbrev pub part_at : Said Part → List ℕ → List ℕ
part_at (answered part) table = take part.length (drop part.start table)
part_at (refusing why) table = []

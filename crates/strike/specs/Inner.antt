-- What the promises of this crate's inner functions speak of; no service's promise does.
use Rattle.std.specs.Prelude.{ℕ, List}
use Rattle.entries.specs.declared.Entry.{Entry}
use Rattle.table.specs.Suppliers.{no_supplier, marked}
use Rattle.strike.specs.Strike.{without, closed_up}

-- the rows without row r, with the 60s that their suppliers need
abbrev pub left_rows : ℕ → List ℕ → List Entry → List Entry
left_rows r ss es = marked no_supplier (without r ss) (closed_up r es)

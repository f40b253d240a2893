-- What the loop of `put_rows` (src/lib.rt) keeps: the rows so far but for row r stand in the output, and the supplier in force behind them.
use Rattle.std.proofs.Common.{◌≡◌, take}
use Rattle.table.specs.Suppliers.{no_supplier, last_of}
use Rattle.strike.specs.Strike.{without}
use Rattle.strike.specs.Inner.{left_rows}
use Rattle.strike.proofs.Filling.{Filled}
use Rattle.strike.proofs.put_rows.Given as goal

abbrev pub invariant-loop-i : goal.invariant-loop-i
invariant-loop-i l = record {
  filled : Filled (left_rows l.r l.suppliers l.rows) l.initial.out (left_rows l.r (take l.i l.suppliers) (take l.i l.rows)) l.end l.out;
  in_force : l.force ≡ last_of no_supplier (without l.r (take l.i l.suppliers));
}

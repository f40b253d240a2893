-- That `put_decimal` (src/lib.rt) keeps its promise.
use Rattle.std.proofs.Common.{[], ◌∷◌, ◌+◌, ◌/◌, ◌%◌}
use Rattle.decimal.specs.Decimal.{base, zero_digit, decimal}
use Rattle.decimal.proofs.Numerals.{decimal_low, decimal_high}
use Rattle.decimal.proofs.Stores.{stores_then}
use Rattle.decimal.proofs.+put_decimal.Goals as goal

pub returns-then-n-lt-BASE : goal.returns-then-n-lt-BASE
returns-then-n-lt-BASE t c = rw (decimal_low c.args.n c.if-n-lt-BASE.true) c.put_byte.ensures

pub returns : goal.returns
returns t c =
    let a = c.args in
    let digit = (zero_digit + a.n % base) ∷ [] in
    rw (decimal_high a.n c.if-n-lt-BASE.false) (stores_then (decimal (a.n / base)) digit c.put_decimal-next.ensures c.put_byte-2.ensures)

use Rattle.std.proofs.Common.{arith}
use Rattle.decimal.proofs.Stores.{stores_then, put_fits, put_then, room_then}
use Rattle.dimacs.specs.Dimacs.{opening, header_text}
use Rattle.dimacs.proofs.put_header.Goals as goal

pub put_opening-first-requires : goal.put_opening-first-requires
unfolding header_text
put_opening-first-requires c = omega arith

pub returns : goal.returns
unfolding header_text
returns c =
    let first = c.put_opening-first.ensures in
    let rest = stores_then _ _ c.put_decimal-second.ensures
    (stores_then _ _ c.put_byte-third.ensures (stores_then _ _ c.put_decimal-fourth.ensures c.put_byte.ensures)) in
    put_then opening _ first (put_fits _ rest (room_then opening _ first (omega arith)))

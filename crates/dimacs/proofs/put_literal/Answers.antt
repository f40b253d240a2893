use Rattle.std.proofs.Common.{ℕ, arith, length-append}
use Rattle.decimal.proofs.Stores.{stores_then, put_fits, put_then, room_then}
use Rattle.dimacs.specs.Dimacs.{literal_text}
use Rattle.dimacs.proofs.put_literal.Goals as goal

pub put_sign-first-requires : goal.put_sign-first-requires
unfolding literal_text
put_sign-first-requires c = omega (arith, length-append {A = ℕ})

pub returns : goal.returns
unfolding literal_text
returns c =
    let first = c.put_sign-first.ensures in
    put_then _ _ first (put_fits _ (stores_then _ _ c.put_decimal-behind.ensures c.put_byte.ensures) (room_then _ _ first c.requires))

-- That `text_size` (src/lib.rt) keeps its promise.
use Rattle.std.proofs.Common.{ℕ, ap, length, length-append, arith}
use Rattle.text.proofs.Filling.{table_text}
use Rattle.text.proofs.text_size.Goals as goal

pub returns : goal.returns
returns c =
    let long = ap length (table_text c.args.t.now c.requires) in
    omega (arith, long, length-append {A = ℕ})

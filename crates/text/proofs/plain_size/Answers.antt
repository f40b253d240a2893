-- That `plain_size` (src/lib.rt) keeps its promise.
use Rattle.std.proofs.Common.{ℕ, ap, length, refl, arith, length-append}
use Rattle.text.specs.Lines.{text_of}
use Rattle.text.proofs.Filling.{text_next}
use Rattle.text.proofs.plain_size.Goals as goal

pub loop-e-init : goal.loop-e-init
unfolding text_of
loop-e-init c = (refl, omega arith)

pub loop-e-preserved : goal.loop-e-preserved
loop-e-preserved c =
    let next = ap length (text_next c.args.entries.now c.loop-e.e-index c.loop-e-test.true) in
    (omega (arith, next, length-append {A = ℕ}), omega arith)

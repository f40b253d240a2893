-- That `all_known` (src/lib.rt) keeps its promise.
use Rattle.std.proofs.Common.{◌≡◌, refl, sym, arith}
use Rattle.table.specs.Steps.{predicate_limit}
use Rattle.pierstride.specs.Masks.{known_below}
use Rattle.pierstride.proofs.KnownMasks.{known_more, known_never}
use Rattle.pierstride.proofs.all_known.Goals as goal

pub loop-i-init : goal.loop-i-init
unfolding known_below
loop-i-init c = refl

pub returns-then-bit_of : goal.returns-then-bit_of
returns-then-bit_of c =
    let unknown = rw (c.bit_of.ensures, c.bit_of-in-loop-i.ensures) at c.if-bit_of.true in
    sym (known_never c.args.facts.known c.args.facts.yes c.loop-i.i predicate_limit unknown (omega arith))

pub loop-i-preserved : goal.loop-i-preserved
loop-i-preserved c =
    known_more c.args.facts.known c.args.facts.yes c.loop-i.i c.loop-i.invariant (rw (c.bit_of.ensures, c.bit_of-in-loop-i.ensures) at c.if-bit_of.false)

pub returns : goal.returns
returns c = let end : c.loop-i.i ≡ predicate_limit = omega arith in sym (rw end at c.loop-i.invariant)

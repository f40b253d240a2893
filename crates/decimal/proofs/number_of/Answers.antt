-- That `number_of` (src/lib.rt) keeps its promise.
use Rattle.std.proofs.Common.{sym, ◌∙◌, arith}
use Rattle.decimal.proofs.Numerals.{seen_next, said_well, said_padded}
use Rattle.decimal.proofs.number_of.Goals as goal

pub loop-x-preserved : goal.loop-x-preserved
loop-x-preserved c =
    seen_next _ _ _ _ c.loop-x.invariant c.loop-x-test.true (sym c.is_ascii_digit.ensures.value ∙ c.if-not-is_ascii_digit.false) c.grown-v.ensures

pub returns-then-is_unpadded : goal.returns-then-is_unpadded
returns-then-is_unpadded c =
    sym (said_well _ _ _ c.loop-x.invariant c.loop-x-test.false (omega arith) (sym c.is_unpadded.ensures ∙ c.if-is_unpadded.true))

pub returns-else-is_unpadded : goal.returns-else-is_unpadded
returns-else-is_unpadded c =
    sym (said_padded _ _ _ c.loop-x.invariant c.loop-x-test.false (omega arith) (sym c.is_unpadded.ensures ∙ c.if-is_unpadded.false))

-- That `bit_of` (src/lib.rt) keeps its promise where no mask has the bit.
use Rattle.std.proofs.Common.{◌≡◌, ◌<◌, ◌/◌, ◌^◌, rules}
use native.Mathlib.Nat.{div-eq_of_lt, pow-le-pow_right, lt_of_lt_of_le}
use Rattle.decide.specs.Meaning.{bit}
use Rattle.decide.proofs.bit_of.Goals as goal

pub returns-then-predicate-ge32 : goal.returns-then-predicate-ge32
unfolding bit
returns-then-predicate-ge32 c =
    let h : c.args.mask < 2 ^ 32 = search rules in
    let none : c.args.mask / 2 ^ c.args.predicate ≡ 0 =
    div-eq_of_lt (lt_of_lt_of_le h (pow-le-pow_right (search rules) c.if-predicate-ge32.true)) in
    rw none

use Rattle.std.proofs.Common.{arith}
use Rattle.strike.proofs.Answering.{struct_left}
use Rattle.strike.proofs.length_without.Goals as goal

pub overflow_sub-result : goal.overflow_sub-result
overflow_sub-result c =
    omega (arith, struct_left c.args.t.now c.requires.0 c.args.r _ c.requires.1 c.marks_gone-marks.ensures, c.size_of.ensures.0)

pub overflow_sub-result-2 : goal.overflow_sub-result-2
overflow_sub-result-2 c =
    omega (arith, struct_left c.args.t.now c.requires.0 c.args.r _ c.requires.1 c.marks_gone-marks.ensures, c.size_of.ensures.0)

pub returns : goal.returns
returns c = omega (arith, struct_left c.args.t.now c.requires.0 c.args.r _ c.requires.1 c.marks_gone-marks.ensures, c.size_of.ensures.0)

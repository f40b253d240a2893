-- The lines of the entries passed are put.
use Rattle.std.proofs.Common.{take}
use Rattle.decimal.specs.Put.{Put}
use Rattle.text.specs.Lines.{text_of}
use Rattle.text.proofs.put_plain.Given as goal

abbrev pub invariant-loop-e : goal.invariant-loop-e
invariant-loop-e l = Put l.fn.out l.at (text_of (take l.e-index l.entries)) l.next l.out

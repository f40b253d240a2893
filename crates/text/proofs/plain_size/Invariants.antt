-- The lines counted are those of the entries passed, and none has more than thirty bytes.
use Rattle.std.proofs.Common.{◌≡◌, ◌*◌, ◌≤◌, length, take}
use Rattle.text.specs.Lines.{text_of}
use Rattle.text.proofs.plain_size.Given as goal

abbrev pub invariant-loop-e : goal.invariant-loop-e
invariant-loop-e l = (l.size ≡ length (text_of (take l.e-index l.entries))) × (l.size ≤ 30 * l.e-index)

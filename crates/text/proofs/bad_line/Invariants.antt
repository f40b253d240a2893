-- The first bad line of all is the first of what is left, whose first line has this number.
use Rattle.std.proofs.Common.{◌≡◌, ◌+◌, ◌-◌, ◌≤◌, length, drop}
use Rattle.text.specs.Inner.{bad_from}
use Rattle.text.proofs.bad_line.Given as goal

abbrev pub invariant-loop-at : goal.invariant-loop-at
invariant-loop-at l = record {
  within : l.at ≤ length l.text;
  few : l.line ≤ l.at + 1;
  says : bad_from l.first (drop l.from l.text) ≡ bad_from l.line (drop l.at l.text);
}

abbrev pub decreases-loop-at : goal.decreases-loop-at
decreases-loop-at l = length l.text - l.at

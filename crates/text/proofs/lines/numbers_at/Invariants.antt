-- What the pieces behind a place say, after what was seen of those before it, is what all of them say.
use Rattle.std.proofs.Common.{◌≡◌, ◌-◌, ◌≤◌, length, drop, true}
use Rattle.decimal.specs.Decimal.{space}
use Rattle.text.specs.Inner.{pieces_behind}
use Rattle.text.proofs.Scanning.{scan}
use Rattle.text.proofs.lines.numbers_at.Given as goal

abbrev pub invariant-loop-at : goal.invariant-loop-at
invariant-loop-at l = record {
  within : l.at ≤ length l.line;
  few : l.count ≤ l.at;
  says : scan l.kind l.count l.good l.a l.b (pieces_behind space (drop l.at l.line)) ≡ scan l.kind 0 true 0 0 (pieces_behind space (drop l.end l.line));
}

abbrev pub decreases-loop-at : goal.decreases-loop-at
decreases-loop-at l = length l.line - l.at

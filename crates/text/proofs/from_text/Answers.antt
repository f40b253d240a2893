-- That `from_text` (src/lib.rt) keeps its promise.
use Rattle.std.proofs.Common.{◌≡◌, length, take, length-take-le, arith, ◌∙◌}
use Rattle.entries.proofs.Saying.{passed_on}
use Rattle.entries.proofs.Sending.{sends_none, sends_short, sends_all}
use Rattle.text.specs.declared.Gathered.{Gathered}
use Rattle.text.specs.Inner.{Holds}
use Rattle.text.specs.Calls.{from_text}
use Rattle.text.proofs.from_text.Goals as goal

-- so many bytes are held
long : (g : Gathered) → Holds g → length (take g.length g.bytes) ≡ g.length
long g h = length-take-le g.length g.bytes (omega (arith, h.fits, h.there))

pub returns-in_err-got : goal.returns-in_err-got
returns-in_err-got c =
    let none = sends_none (from_text c.args.text.now) c.args.out.now c.in_err-got.field-0.0 c.in_err-got.ensures in
    record { answer = passed_on c.from_residual.result c.in_err-got.field-0.0 c.from_residual.ensures.1 ∙ none.0; output = none.1 }

pub returns-then-out-n : goal.returns-then-out-n
returns-then-out-n c =
    let g = c.in_ok-got.ensures in
    let short = sends_short (from_text c.args.text.now) c.args.out.now _ c.of.result c.of.ensures g.says (omega (arith, long _ g.holds)) in
    record { answer = short.0; output = short.1 }

pub returns : goal.returns
returns c =
    let g = c.in_ok-got.ensures in
    let all = sends_all (from_text c.args.text.now) c.args.out.now _ g.says (omega (arith, long _ g.holds)) in
    record { answer = rw (long _ g.holds) at all.0; output = rw (c.copy_from_slice.ensures.after) (rw (long _ g.holds) at all.1) }

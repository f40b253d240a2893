-- That `bad_line` (src/lib.rt) keeps its promise.
use Rattle.std.proofs.Common.{ap, sym, ◌∙◌, arith}
use Rattle.std.specs.Prelude.{Some}
use Rattle.text.specs.Inner.{turned}
use Rattle.text.proofs.ByLine.{no_line, bad_found, passed, bad_behind}
use Rattle.text.proofs.bad_line.Goals as goal

pub returns-in-Err : goal.returns-in-Err
returns-in-Err c =
    let bad = bad_found _ _ c.loop-at.line c.loop-at-test.true _ c.line_at-found.ensures c.in-Err.why c.in-Err.is in
    ap Some c.on_line.ensures ∙ sym (c.loop-at.invariant.says ∙ ap turned bad)

pub loop-at-smaller : goal.loop-at-smaller
loop-at-smaller c =
    let next = passed _ _ c.loop-at.line c.loop-at-test.true _ c.line_at-found.ensures c.in_default.field-0 c.in_default.is in
    omega (arith, next.0, next.1)

pub loop-at-preserved : goal.loop-at-preserved
loop-at-preserved c =
    let e = c.in_default.field-0 in
    let next = passed _ _ c.loop-at.line c.loop-at-test.true _ c.line_at-found.ensures e c.in_default.is in record {
      within = next.1;
      few = omega (arith, next.0);
      says = c.loop-at.invariant.says ∙ bad_behind _ _ c.loop-at.line c.loop-at-test.true _ c.line_at-found.ensures e c.in_default.is;
    }

pub returns : goal.returns
returns c = sym (c.loop-at.invariant.says ∙ ap turned (no_line _ _ _ c.loop-at-test.false))

-- That `lines_size` (src/lines.rt) keeps its promise.
use Rattle.std.proofs.Common.{◌∙◌, arith, ap, length, length-append}
use Rattle.entries.specs.declared.Entry.{Entry}
use Rattle.table.specs.Suppliers.{supplying}
use Rattle.text.specs.Lines.{line_of}
use Rattle.text.proofs.Filling.{same_lines, other_lines}
use Rattle.text.proofs.lines.lines_size.Goals as goal

pub returns-then-s-force : goal.returns-then-s-force
returns-then-s-force c = (rw (same_lines c.args.force c.args.s c.args.e c.if-s-force.true) c.line_size.ensures.0, omega (arith, c.line_size.ensures.1))

pub returns : goal.returns
returns c =
    let a = c.args in
    let own = c.line_size-2.ensures.0 ∙ ap (λ (e : Entry). length (line_of e)) c.supplying.ensures in (
      rw (other_lines a.force a.s a.e c.if-s-force.false) (omega (arith, own, c.line_size-3.ensures.0, length-append (line_of (supplying a.s)) (line_of a.e))),
      omega (arith, c.line_size-2.ensures.1, c.line_size-3.ensures.1),
    )

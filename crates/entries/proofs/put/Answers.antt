-- That `put` (src/lib.rt) keeps its promise.
use Rattle.std.proofs.Common.{arith, ap, ◌∙◌}
use Rattle.kinds.specs.declared.Form.{Form}
use Rattle.entries.proofs.OneEntry.{size, too_short_lem, put_all}
use Rattle.entries.proofs.put.Goals as goal
use Rattle.entries.proofs.put.Goals.{then-numbers-gt0, else-numbers-gt0, then-numbers-gt1, else-numbers-gt1}

pub returns-then-out-numbers : goal.returns-then-out-numbers
returns-then-out-numbers c =
    let e = c.args.e in
    let n = ap (λ (f : Form). f.numbers) c.form_of-form.ensures in
    (rw (size e) (omega (arith, n)), too_short_lem e c.args.out.now (rw n at c.if-out-numbers.true))

pub returns : goal.returns
returns c =
    let e = c.args.e in
    let form = c.form_of-form.ensures in
    let n = ap (λ (f : Form). f.numbers) form in
    let one = c.if-numbers-gt0 in
    let two = c.if-numbers-gt1 in (
      rw (size e) (omega (arith, n)),
      put_all e c.args.out.now one.out two.out (rw n at c.if-out-numbers.false)
          (λ h. elim one.branch [ then-numbers-gt0 w ↦ w.out-is ∙ rw form | else-numbers-gt0 w ↦ absurd (omega (arith, n)) ])
          (λ h. elim one.branch [ then-numbers-gt0 w ↦ absurd (omega (arith, n)) | else-numbers-gt0 w ↦ w.out-is ∙ rw form ])
          (λ h. elim two.branch [ then-numbers-gt1 w ↦ w.out-is | else-numbers-gt1 w ↦ absurd (omega (arith, n)) ])
          (λ h. elim two.branch [ then-numbers-gt1 w ↦ absurd (omega (arith, n)) | else-numbers-gt1 w ↦ w.out-is ]),
    )

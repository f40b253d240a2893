-- That `rows_size` (src/lib.rt) keeps its promise.
use Rattle.std.proofs.Common.{rules, ℕ, ap, length, refl, arith, length-append, ◌∷◌, []}
use Rattle.std.proofs.lemmas.Slice.Zip.{zip_turn}
use Rattle.entries.specs.Entries.{blank}
use Rattle.table.specs.Suppliers.{marked, last_of}
use Rattle.table.proofs.Marking.{force_more}
use Rattle.text.specs.Lines.{text_of}
use Rattle.text.proofs.Filling.{rows_next}
use Rattle.text.proofs.rows_size.Goals as goal

pub loop-e-init : goal.loop-e-init
unfolding text_of marked last_of
loop-e-init c = (refl, omega arith, refl)

pub loop-e-preserved : goal.loop-e-preserved
loop-e-preserved c =
    let l = c.loop-e in
    let k = length l.yielded in
    let ss = c.args.suppliers.now in
    let es = c.args.rows.now in
    let turn = zip_turn es ss l.yielded c.into_iter-e-iterator.result l.e-iterator c.next.new.self c.next.result
    (search rules) (search rules) l.yielded_by (c.in-Some.e, c.in-Some.s) c.in-Some.is c.next.ensures.steps in
    let next = ap length (rows_next ss es c.requires.0 k _ l.force _ turn.0 l.invariant.2 (turn.3 0) (turn.2 blank)) in
    rw (length-append l.yielded ((c.in-Some.e, c.in-Some.s) ∷ []))
    (omega (arith, next, length-append {A = ℕ}), omega arith, force_more ss k _ turn.1 (turn.3 0))

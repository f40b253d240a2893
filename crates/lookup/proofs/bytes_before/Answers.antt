use Rattle.std.proofs.Common.{rules, refl, sym, arith, ◌≡◌, ◌<◌, ◌∷◌, [], get_or, length, length-append, length-take-le, ◌∙◌, take}
use Rattle.std.proofs.lemmas.List.{get_or-take}
use Rattle.std.proofs.lemmas.Slice.Zip.{zip_turn}
use Rattle.entries.specs.Entries.{blank}
use Rattle.table.proofs.Marking.{force_more}
use Rattle.lookup.proofs.RowPart.{start_more, bytes_before_lem}
use Rattle.lookup.proofs.bytes_before.Goals as goal

pub loop-e-preserved : goal.loop-e-preserved
loop-e-preserved c =
    let l = c.loop-e in
    let ss = c.args.t.now.suppliers in
    let es = c.args.t.now.rows in
    let row = c.args.row in
    let many : length ss ≡ length es = c.requires.2 ∙ sym c.requires.1 in
    let turn = zip_turn (take row es) ss l.yielded c.into_iter-e-iterator.result l.e-iterator c.next.new.self c.next.result
    (search rules) (search rules) l.yielded_by (c.in-Some.e, c.in-Some.s) c.in-Some.is c.next.ensures.steps in
    let k = length l.yielded in
    let inside : k < row = omega (arith, turn.0, length-take-le row es (omega arith)) in
    let e : c.in-Some.e.now ≡ get_or es k blank = turn.2 blank ∙ get_or-take row es k blank inside in
    let size = rw e at c.size_of.ensures in
    let change = rw (turn.3 0, l.invariant.in_force) at c.change_size.ensures in
    rw (length-append l.yielded ((c.in-Some.e, c.in-Some.s) ∷ []), turn.3 0) (record {
      counted = omega (
        arith,
        l.invariant.counted,
        change.0,
        size.0,
        bytes_before_lem ss es many k,
        start_more ss es many k (omega (arith, turn.1, many)),
      );
      in_force = force_more ss k _ turn.1 refl;
      few = omega (arith, l.invariant.few, change.1, size.1);
    })

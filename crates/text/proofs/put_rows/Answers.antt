-- That `put_rows` (src/lib.rt) keeps its promise.
use Rattle.std.proofs.Common.{rules, ℕ, [], ◌∷◌, ◌++◌, ◌+◌, length, length-append, refl, arith}
use Rattle.std.proofs.lemmas.Slice.Zip.{zip_turn}
use Rattle.entries.specs.Entries.{blank}
use Rattle.table.specs.Suppliers.{change, marked, last_of}
use Rattle.table.proofs.Marking.{marked_from, force_more}
use Rattle.decimal.proofs.Stores.{put_none, put_then, room_first, room_then}
use Rattle.text.specs.Lines.{text_of}
use Rattle.text.proofs.Filling.{rows_to, rows_next, rows_left}
use Rattle.text.proofs.put_rows.Goals as goal

pub loop-e-init : goal.loop-e-init
unfolding text_of marked last_of
loop-e-init c = record { put = put_none c.args.out.now c.args.at; in_force = refl }

pub put_lines-next-requires : goal.put_lines-next-requires
put_lines-next-requires c =
    let ss = c.args.suppliers.now in
    let es = c.args.rows.now in
    let l = c.loop-e in
    let k = length l.yielded in
    let turn = zip_turn es ss l.yielded c.into_iter-e-iterator.result l.e-iterator c.next.new.self c.next.result
    (search rules) (search rules) l.yielded_by (c.in-Some.e, c.in-Some.s) c.in-Some.is c.next.ensures.steps in
    let lines = text_of (change l.force c.in-Some.s.now ++ (c.in-Some.e.now ∷ [])) in
    let left = rows_left ss es c.requires.fit k _ l.force _ turn.0 l.invariant.in_force (turn.3 0) (turn.2 blank) in
    room_then (rows_to ss es k) lines l.invariant.put
    (room_first _ _ (rows_to ss es k ++ lines) (text_of (marked_from ss es c.requires.fit (k + 1))) (rw left at c.requires.room))

pub loop-e-preserved : goal.loop-e-preserved
loop-e-preserved c =
    let ss = c.args.suppliers.now in
    let es = c.args.rows.now in
    let l = c.loop-e in
    let k = length l.yielded in
    let turn = zip_turn es ss l.yielded c.into_iter-e-iterator.result l.e-iterator c.next.new.self c.next.result
    (search rules) (search rules) l.yielded_by (c.in-Some.e, c.in-Some.s) c.in-Some.is c.next.ensures.steps in
    rw (length-append l.yielded ((c.in-Some.e, c.in-Some.s) ∷ []))
    record {
      put = rw (rows_next ss es c.requires.fit k _ l.force _ turn.0 l.invariant.in_force (turn.3 0) (turn.2 blank))
          (put_then _ _ l.invariant.put c.put_lines-next.ensures);
      in_force = force_more ss k _ turn.1 (turn.3 0);
    }

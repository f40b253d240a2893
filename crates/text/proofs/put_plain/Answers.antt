-- That `put_plain` (src/lib.rt) keeps its promise.
use Rattle.std.proofs.Common.{take, drop, get_or, ◌++◌, ◌+◌}
use Rattle.entries.specs.Entries.{blank}
use Rattle.decimal.proofs.Stores.{put_none, put_then, room_first, room_then}
use Rattle.text.specs.Lines.{line_of, text_of}
use Rattle.text.proofs.Filling.{text_next, text_left}
use Rattle.text.proofs.put_plain.Goals as goal

pub loop-e-init : goal.loop-e-init
unfolding text_of
loop-e-init c = put_none c.args.out.now c.args.at

pub put_line-next-requires : goal.put_line-next-requires
put_line-next-requires c =
    let es = c.args.entries.now in
    let i = c.loop-e.e-index in
    let line = line_of (get_or es i blank) in
    let room = rw (text_left es i c.loop-e-test.true) at c.requires in
    room_then (text_of (take i es)) line c.loop-e.invariant (room_first _ _ (text_of (take i es) ++ line) (text_of (drop (i + 1) es)) room)

pub loop-e-preserved : goal.loop-e-preserved
loop-e-preserved c =
    rw (text_next c.args.entries.now c.loop-e.e-index c.loop-e-test.true) (put_then _ _ c.loop-e.invariant c.put_line-next.ensures)

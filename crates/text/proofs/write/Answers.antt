-- That `write` (src/lib.rt) keeps its promise.
use Rattle.std.proofs.Common.{ℕ, List, ◌≡◌, ◌+◌, ◌≤◌, ◌++◌, length, arith, ap, ◌∙◌}
use Rattle.table.specs.declared.Table.{Table}
use Rattle.decimal.specs.Put.{Put}
use Rattle.decimal.proofs.Stores.{put_then, room_first, room_then, sets_front}
use Rattle.table.specs.Reading.{Full, held}
use Rattle.text.specs.Lines.{text_of}
use Rattle.text.proofs.Filling.{constraints, rows, questions, table_text}
use Rattle.text.proofs.write.Goals as goal

-- room for the text of all three parts
room : (t : Table) (f : Full t) (n : ℕ) → length (text_of (held t)) ≤ n →
    0 + length ((text_of (constraints t f) ++ text_of (rows t f)) ++ text_of (questions t f)) ≤ n
room t f n h = omega (arith, ap length (table_text t f))

pub put_plain-rows-requires : goal.put_plain-rows-requires
put_plain-rows-requires c =
    let q = c.requires in
    let t = c.args.t.now in
    let all = room t q.0 _ q.1 in
    room_first 0 _ (text_of (constraints t q.0)) (text_of (rows t q.0)) (room_first 0 _ _ (text_of (questions t q.0)) all)

pub put_rows-questions-requires-clause-room : goal.put_rows-questions-requires-clause-room
put_rows-questions-requires-clause-room c =
    let q = c.requires in
    let t = c.args.t.now in
    let all = room t q.0 _ q.1 in
    room_then (text_of (constraints t q.0)) (text_of (rows t q.0)) c.put_plain-rows.ensures (room_first 0 _ _ (text_of (questions t q.0)) all)

pub put_plain-requires : goal.put_plain-requires
put_plain-requires c =
    let q = c.requires in
    let t = c.args.t.now in
    let first = text_of (constraints t q.0) ++ text_of (rows t q.0) in
    room_then first (text_of (questions t q.0)) (put_then _ _ c.put_plain-rows.ensures c.put_rows-questions.ensures) (room t q.0 _ q.1)

-- all of it is put
put : (t : Table) (f : Full t) (out one two left : List ℕ) (a b n : ℕ) → Put out 0 (text_of (constraints t f)) a one →
    Put one a (text_of (rows t f)) b two → Put two b (text_of (questions t f)) n left → Put out 0 (text_of (held t)) n left
put t f out one two left a b n x y z = rw (table_text t f) (put_then _ _ (put_then _ _ x y) z)

pub returns-clause-length : goal.returns-clause-length
returns-clause-length c =
    let q = c.requires in
    let p = put c.args.t.now q.0 _ _ _ _ _ _ _ c.put_plain-rows.ensures c.put_rows-questions.ensures c.put_plain.ensures in
    omega (arith, p.behind)

pub returns-clause-output : goal.returns-clause-output
returns-clause-output c =
    let q = c.requires in
    let p = put c.args.t.now q.0 _ _ _ _ _ _ _ c.put_plain-rows.ensures c.put_rows-questions.ensures c.put_plain.ensures in
    let t = text_of (held c.args.t.now) in
    let n : c.put_plain.result ≡ length t = omega (arith, p.behind) in
    p.holds ∙ rw n (sets_front t c.args.out.now q.1)

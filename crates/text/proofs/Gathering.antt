-- The bytes of a table as the code gathers them from a text, line by line.
-- Assumes nothing.
use mathlib.Core.Path.{◌≡◌, refl, sym, ap, ◌∙◌}
use mathlib.Core.Bool.{Bool, false}
use mathlib.Core.List.{List, [], ◌∷◌, ◌++◌, append_assoc, append-nil}
use Prim.Native.Nat.{ℕ, suc, ◌+◌, ◌-◌, ◌≤◌, ◌<◌}
use native.Mathlib.Omega.{arith}
use native.Mathlib.Numerals.{add-one}
use lib.ListN.{length, take, drop, length-append, length-drop, drop_of_length-le}
use lib.Seq.{take-append_seam, take-append-add, length-take-le}
use borrow.Rule.Slice.PartMut.{put_mid, mid_of}
use Rattle.kinds.specs.declared.Kind.{Kind}
use Rattle.kinds.specs.declared.Kind.TheVariants.{Row, Question, Constraint, Supplier}
use Rattle.entries.specs.declared.Entry.{Entry}
use Rattle.entries.specs.Said.{Said, Refusal, answered, refusing, refusal, and_then}
use Rattle.entries.specs.Entries.{size_of, bytes_of, onto}
use Rattle.entries.proofs.OneEntry.{size}
use Rattle.entries.proofs.Putting.{put_behind}
use Rattle.table.specs.declared.steps.Tally.{Tally}
use Rattle.kinds.specs.Kinds.{is_row}
use Rattle.table.specs.Steps.{tally, one_more, placed, permitted}
use Rattle.table.specs.Suppliers.{no_supplier, marked, last_of, force_behind}
use Rattle.table.specs.Contents.{Contents, none, tally_of, with_kind, with_entry, entries, written, encoded}
use Rattle.table.specs.Reading.{reading}
use Rattle.table.proofs.Permission.{refused_inside}
use Rattle.table.proofs.Writing.{Whole, Open, calm, settled_same, none_whole, whole_open, written_append, whole_accepted}
use Rattle.table.proofs.Turns.{with_force}
use Rattle.table.proofs.Laws.{open_short}
use Rattle.decimal.specs.Decimal.{line_feed}
use Rattle.text.specs.Texts.{on_line, spelled, split}
use Rattle.text.specs.Calls.{line_at, by_line, from_text}
use Rattle.text.specs.Inner.{row_spelled, said_from, bad_from, own_unless, turned, line_from, line_found, gather_limit, Gathers}
use Rattle.text.specs.declared.lines.Line.{Line}
use Rattle.std.specs.Prelude.{Result, Ok, Err}
use Rattle.entries.specs.declared.refusals.Refusal.{Refusal as Coded}
use Rattle.entries.specs.Refusals.{number_of}
use Rattle.entries.specs.Said.{told as told_by, said as of_code}
use Rattle.table.specs.Steps.{entered}
use Rattle.table.proofs.Decoding.{entered_more, kept_out}
use Rattle.text.proofs.Judging.{in_open, in_entries, in_bytes, out_reading, line_of_place}
use Rattle.text.proofs.ByLine.{no_line, no_row, row_follows, here, Good, next_found, good_found, bad_found, passed}

-- an entry's bytes put behind the first ones of an array that has room for them
module _ (bytes : List ℕ) (e : Entry) (at : ℕ) (room : at + size_of e ≤ length bytes) (k : ℕ) (ys : List ℕ) (ke : k ≡ length bytes - at)
    (ye : ys ≡ onto (bytes_of e) (mid_of at k bytes)) where
  stored : put_mid at k bytes ys ≡ take at bytes ++ (bytes_of e ++ drop (size_of e) (drop at bytes))
  stored = put_behind bytes (bytes_of e) at k ys room ke ye

  put_front : take (at + size_of e) (put_mid at k bytes ys) ≡ take at bytes ++ bytes_of e
  put_front =
      let long : length (take at bytes) ≡ at = length-take-le at bytes (omega arith) in
      let rest = drop (size_of e) (drop at bytes) in
      ap (take (at + size_of e)) stored
      ∙ ap (λ (n : ℕ). take (n + size_of e) (take at bytes ++ (bytes_of e ++ rest))) (sym long)
      ∙ take-append-add (take at bytes) (bytes_of e ++ rest) (size_of e)
      ∙ ap (λ (l : List ℕ). take at bytes ++ l) (take-append_seam (bytes_of e) rest)

  put_length : length (put_mid at k bytes ys) ≡ length bytes
  put_length =
      ap length stored ∙ length-append (take at bytes) (bytes_of e ++ drop (size_of e) (drop at bytes))
      ∙ omega (
        arith,
        length-take-le at bytes (omega arith),
        length-append (bytes_of e) (drop (size_of e) (drop at bytes)),
        length-drop (size_of e) (drop at bytes),
        length-drop at bytes,
      )

-- entries before those that the rest of a text spells
abbrev before : List Entry → Said (List Entry) → Said (List Entry)
before es rest = and_then rest (λ fs. answered (es ++ fs))

-- what was gathered up to a place of a text, where a line with this number begins: a table, but that a supplier may wait for its row, in bytes; and the rest
-- of the text is still to come
pub record So (text bytes : List ℕ) (count : ℕ) (counts : Tally) (force line at : ℕ) : Type 0 where
  pub table : Contents
  pub stands : Open table (row_spelled (drop at text))
  pub tallied : counts ≡ tally_of table
  pub in_force_lem : force ≡ table.supplier
  pub says : said_from 1 text ≡ before (entries table) (said_from line (drop at text))
  pub within : at ≤ length text
  pub numbered : line ≡ suc (length (entries table))
  pub few : line ≤ at + 1
  pub long : count ≡ length (encoded table)
  pub there : length bytes ≡ gather_limit
  pub front : take count bytes ≡ encoded table

-- the same, by other names
so_as : {text bytes : List ℕ} {count : ℕ} {counts : Tally} {force line at : ℕ} → So text bytes count counts force line at →
    (count' : ℕ) (counts' : Tally) (force' at' : ℕ) → count' ≡ count → counts' ≡ counts → force' ≡ force → at' ≡ at →
    So text bytes count' counts' force' line at'
so_as so count' counts' force' at' p q f r = rw (p, q, f, r) so

-- the count with an entry more
tally_more : (c : Contents) (e : Entry) → one_more e.kind (tally_of c) ≡ tally_of (with_entry c e)
tally_more c e = go e.kind
  where
    go : (kind : Kind) → one_more kind (tally_of c) ≡ tally_of (with_kind kind e c)
    go (Row k) = ap (λ (n : ℕ). tally (length c.constraints) n (length c.questions)) (sym (length-append c.rows (e ∷ [])))
    go (Question k) = ap (tally (length c.constraints) (length c.rows)) (sym (length-append c.questions (e ∷ [])))
    go (Constraint k) = ap (λ (n : ℕ). tally n (length c.rows) (length c.questions)) (sym (length-append c.constraints (e ∷ [])))
    go Supplier = refl

pub at_start : (text bytes : List ℕ) → length bytes ≡ gather_limit → So text bytes 0 (tally_of none) no_supplier 1 0
unfolding written marked last_of
at_start text bytes q = record {
  table = none;
  stands = whole_open none (row_spelled text) none_whole;
  tallied = refl;
  in_force_lem = refl;
  says = start (said_from 1 text);
  within = omega arith;
  numbered = refl;
  few = omega arith;
  long = refl;
  there = q;
  front = refl;
}
  where
    start : (x : Said (List Entry)) → x ≡ before [] x
    start (answered es) = refl
    start (refusing why) = refl

module _ {text bytes : List ℕ} {count : ℕ} {counts : Tally} {force line at : ℕ} (so : So text bytes count counts force line at) where
  -- at the end of the text, where nothing waits: the table
  pub whole_end : length text ≤ at → Whole so.table
  whole_end l =
      let none : row_spelled (drop at text) ≡ false = ap row_spelled (drop_of_length-le text l) ∙ no_row in
      rw (settled_same so.table (calm so.table (row_spelled (drop at text)) so.stands.awaits none)) at so.stands.whole

  at_end : length text ≤ at → from_text text ≡ answered (encoded so.table)
  unfolding from_text spelled said_from
  at_end l =
      let all : spelled text ≡ answered (entries so.table) =
      so.says ∙ ap (before (entries so.table)) (no_line text at line l) ∙ ap answered (append-nil (entries so.table)) in
      rw (all, whole_accepted so.table (whole_end l))

  -- at a bad line: its refusal
  at_bad : (why : Refusal) → said_from line (drop at text) ≡ refusing why → from_text text ≡ refusing why
  unfolding from_text spelled said_from
  at_bad why q = let all : spelled text ≡ refusing why = so.says ∙ ap (before (entries so.table)) q in rw all

  -- at a line that is spelled well
  module _ (inside : at < length text) (e : Entry) (good : Good text at line inside e) where
    abbrev next : ℕ
    next = (here text at line inside).next

    abbrev rest : Said (List Entry)
    rest = said_from (suc line) (drop next text)

    behind : said_from 1 text ≡ before (entries so.table ++ (e ∷ [])) rest
    unfolding on_line
    behind = so.says ∙ ap (before (entries so.table)) good.says ∙ go rest
      where
        go : (x : Said (List Entry)) → before (entries so.table) (on_line line (answered e) x) ≡ before (entries so.table ++ (e ∷ [])) x
        go (answered fs) = ap answered (sym (append_assoc (entries so.table) (e ∷ []) fs))
        go (refusing why) = refl

    -- whether a row follows, and what is said of its entry then
    abbrev follows : Bool
    follows = row_spelled (drop next text)

    abbrev said : Said Entry
    said = permitted e (placed e force follows) counts

    by_table : said ≡ permitted e (placed e so.table.supplier follows) (tally_of so.table)
    by_table = rw (so.tallied, so.in_force_lem)

    stands_here : Open so.table (is_row e.kind)
    stands_here = rw good.row at so.stands

    -- whose entry may stand there: with its bytes behind the others
    taken : (f : Entry) → said ≡ answered f → (bytes' : List ℕ) → length bytes' ≡ length bytes →
        take (count + size_of e) bytes' ≡ take count bytes ++ bytes_of e →
        So text bytes' (count + size_of e) (one_more e.kind counts) (force_behind e.kind force e.a) (line + 1) next
    taken f q bytes' long' front' =
        let c = so.table in
        let may = sym by_table ∙ q in
        let more = in_entries c e good.plain follows stands_here f may in
        let wide = in_bytes c e good.plain follows stands_here f may in record {
          table = with_entry c e;
          stands = in_open c e good.plain follows stands_here f may;
          tallied = ap (one_more e.kind) so.tallied ∙ tally_more c e;
          in_force_lem = ap (λ (f : ℕ). force_behind e.kind f e.a) so.in_force_lem ∙ sym (with_force e.kind e c);
          says = behind ∙ rw (more, add-one line);
          within = good.within;
          numbered = omega (arith, so.numbered, ap length more, length-append (entries c) (e ∷ []));
          few = omega (arith, so.few, good.forth);
          long = omega (arith, so.long, ap length wide, length-append (encoded c) (bytes_of e));
          there = long' ∙ so.there;
          front = front' ∙ ap (λ (l : List ℕ). l ++ bytes_of e) so.front ∙ sym wide;
        }

    -- there is room for them
    has_room : (f : Entry) → said ≡ answered f → count + size_of e ≤ length bytes
    has_room f q =
        let c = so.table in
        let may = sym by_table ∙ q in
        let wide = in_bytes c e good.plain follows stands_here f may in
        let short = open_short (with_entry c e) follows (in_open c e good.plain follows stands_here f may) in
        omega (arith, so.long, so.there, ap length wide, length-append (encoded c) (bytes_of e), short)

    -- whose entry may not: its refusal, unless a line behind is bad
    pub stopped : (why : Refusal) → said ≡ refusing why →
        from_text text ≡ refusing (own_unless (refusal why.number line) (bad_from (line + 1) (drop next text)))
    unfolding from_text spelled said_from written
    stopped why q = rw (add-one line) (go rest refl)
      where
        go : (x : Said (List Entry)) → rest ≡ x → from_text text ≡ refusing (own_unless (refusal why.number line) (turned x))
        go (answered fs) r =
            let c = so.table in
            let es = entries c ++ (e ∷ fs) in
            let all : spelled text ≡ answered es =
            behind ∙ ap (before (entries c ++ (e ∷ []))) r ∙ ap answered (append_assoc (entries c) (e ∷ []) fs) in
            let may = sym by_table ∙ q in
            let bytes : written es ≡ encoded c ++ (bytes_of e ++ written fs) = written_append (entries c) (e ∷ fs) in
            let inside : why.place < size_of e = omega (arith, refused_inside e (placed e c.supplier follows) (tally_of c) why may, size e) in
            let place : line_at es (length (encoded c) + why.place) ≡ line = line_of_place (entries c) e fs why.place inside ∙ sym so.numbered in
            let row = row_follows (suc line) (drop next text) fs r in
            rw (all) (ap (by_line es) (ap reading bytes ∙ out_reading c e good.plain follows stands_here (written fs) why row may)
            ∙ ap (λ (l : ℕ). refusing (refusal why.number l)) place)
        go (refusing w) r =
            let all : spelled text ≡ refusing w = behind ∙ ap (before (entries so.table ++ (e ∷ []))) r in
            rw all

-- a turn of the loop, by what the code has: the line that it found
module _ {text bytes : List ℕ} {count : ℕ} {counts : Tally} {force line at : ℕ} (so : So text bytes count counts force line at)
    (inside : at < length text)
    (found : Line) (f : line_found found ≡ line_from at (split line_feed (drop at text))) where
  pub turn_bad : (why : Coded) → found.said ≡ Err why → from_text text ≡ refusing (refusal (number_of why.reason) line)
  turn_bad why q = at_bad so (refusal (number_of why.reason) line) (bad_found text at line inside found f why q)

  -- an entry, where the next line begins, and what the code was told of the entry
  module _ (e : Entry) (q : found.said ≡ Ok e) where
    good : Good text at line inside e
    good = good_found text at line inside found f e q

    next_is : found.next ≡ (here text at line inside).next
    next_is = next_found text at line inside found f

    pub turn_next : (at < found.next) × (found.next ≤ length text) × (line ≤ found.next)
    turn_next = let next = passed text at line inside found f e q in (next.0, next.1, omega (arith, so.few, next.0))

    module _ (well : Bool) (w : well ≡ placed e force (row_spelled (drop found.next text))) (x : Result Tally Coded)
        (judged : of_code x ≡ entered counts (permitted e well counts)) where
      told : of_code x ≡ entered counts (said so inside e good)
      told =
          judged
          ∙ ap (λ (g : Bool). entered counts (permitted e g counts)) (w ∙ ap (λ (n : ℕ). placed e force (row_spelled (drop n text))) next_is)

      pub turn_out : (why : Coded) → x ≡ Err why →
          from_text text ≡ refusing (own_unless (refusal (number_of why.reason) line) (bad_from (line + 1) (drop found.next text)))
      turn_out why o =
          rw next_is (stopped so inside e good (told_by why) (kept_out (said so inside e good) counts (told_by why) (sym (ap of_code o) ∙ told)))

      module _ (more : Tally) (i : x ≡ Ok more) where
        may : (said so inside e good ≡ answered e) × (more ≡ one_more e.kind counts)
        may = entered_more e _ counts more (sym (ap of_code i) ∙ told)

        pub turn_room : count + size_of e ≤ gather_limit
        turn_room = omega (arith, has_room so inside e good e may.0, so.there)

        pub turn_in : (k n force' : ℕ) (ys : List ℕ) → k ≡ gather_limit - count → ys ≡ onto (bytes_of e) (mid_of count k bytes) →
            n ≡ size_of e →
            force' ≡ force_behind e.kind force e.a → So text (put_mid count k bytes ys) (count + n) more force' (line + 1) found.next
        turn_in k n force' ys ke ye size b =
            let room : count + size_of e ≤ length bytes = omega (arith, turn_room, so.there) in
            let k : k ≡ length bytes - count = omega (arith, ke, so.there) in
            let next = taken so inside e good e may.0 _ (put_length bytes e count room _ ys k ye) (put_front bytes e count room _ ys k ye) in
            so_as next _ _ _ _ (ap (λ (n : ℕ). count + n) size) may.1 b next_is

-- at the end: a table's bytes
pub gathered : {text bytes : List ℕ} {count : ℕ} {counts : Tally} {force line at : ℕ} → So text bytes count counts force line at →
    length text ≤ at →
    Gathers (from_text text) (record { bytes = bytes; length = count })
gathered so end =
    let short = open_short so.table _ so.stands in record {
      holds = record { fits = omega (arith, so.long, short); there = omega (arith, so.there) };
      says = at_end so end ∙ ap answered (sym so.front);
    }

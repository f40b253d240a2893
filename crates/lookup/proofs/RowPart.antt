-- Where a row's bytes stand in an accepted table.
-- Assumes nothing.
use mathlib.Core.Path.{◌≡◌, refl, sym, ap, ap₂, ◌∙◌}
use mathlib.Core.Bool.{Bool, true, false}
use mathlib.Core.List.{List, [], ◌∷◌, ◌++◌, append_assoc, append-nil}
use Prim.Native.Nat.{ℕ, suc, ◌+◌, ◌*◌, ◌≤◌, ◌<◌}
use native.Mathlib.Omega.{arith}
use native.Mathlib.Numerals.{add-one}
use lib.ListN.{length, get_or, take, drop, length-append}
use lib.Seq.{split_at, take_at, drop_at, length-take-le}
use lib.Dec.{leb}
use borrow.Author.Tests.{leb-false, lt-leb, le-leb}
use Rattle.belnap.proofs.Finite.{never}
use Rattle.std.specs.Prelude.{Result, Ok, Err}
use Rattle.entries.specs.declared.Entry.{Entry}
use Rattle.lookup.specs.declared.Part.{Part}
use Rattle.entries.specs.Refusals.{not_there, if_missing}
use Rattle.entries.specs.declared.refusals.Refusal.{Refusal as Coded}
use Rattle.entries.specs.Said.{Said, answered, refusing, refusal, told, said, unless}
use Rattle.entries.specs.Entries.{blank, size_of, constraint_size, bytes_of}
use Rattle.entries.proofs.Saying.{not_both}
use Rattle.table.specs.Steps.{row_limit, constraint_limit}
use Rattle.table.specs.Suppliers.{no_supplier, change, marked, last_of}
use Rattle.table.specs.Contents.{Contents, written}
use Rattle.table.specs.Reading.{reading, table_of, tabled}
use Rattle.lookup.specs.Lookup.{ending_with, bytes_before, part_of, place_of, part_at}
use Rattle.table.specs.declared.Table.{Table}
use Rattle.table.proofs.Padding.{padded_length, padded_at, padded_front}
use Rattle.table.proofs.Opening.{opened, turned}
use Rattle.table.proofs.Marking.{marked_append, force_at, marked_to, marked_more}
use Rattle.table.proofs.Writing.{Whole, written_append, written_more, written_parts, of_accepted}
use Rattle.table.proofs.Laws.{constraint_bytes}

-- the rows before a row, with their 60s and its own; and with the row
module _ (ss : List ℕ) (es : List Entry) (many : length ss ≡ length es) where
  pub start_more : (i : ℕ) → i < length es → length (written (marked_to ss es many (i + 1))) ≡ bytes_before ss es i + size_of (get_or es i blank)
  start_more i h =
      let first = marked_to ss es many i in
      let mark = change (force_at ss i) (get_or ss i no_supplier) in
      let e = get_or es i blank in
      ap (λ (l : List Entry). length (written l)) (marked_more ss es many i _ _ e h refl refl refl ∙ sym (append_assoc first mark (e ∷ [])))
      ∙ ap length (written_more (first ++ mark) e) ∙ length-append (written (first ++ mark)) (bytes_of e)

  pub bytes_before_lem : (i : ℕ) →
      bytes_before ss es i ≡ length (written (marked_to ss es many i)) + length (written (change (force_at ss i) (get_or ss i no_supplier)))
  bytes_before_lem i =
      let first = marked_to ss es many i in
      let mark = change (force_at ss i) (get_or ss i no_supplier) in
      ap length (written_append first mark) ∙ length-append (written first) (written mark)

-- what a count of these bytes needs, row by row
pub no_rows : (force : ℕ) → length (written (marked force [] [])) ≡ 0
unfolding written marked
no_rows force = refl

pub still_in_force : (force : ℕ) → last_of force [] ≡ force
unfolding last_of
still_in_force force = refl

pub ruleset row_bytes = (bytes_before_lem, no_rows, still_in_force)

-- so a row starts behind the constraints, the rows before it and a 60 of its own
pub start_is : (c : Contents) (r : ℕ) → length c.suppliers ≡ length c.rows → r < length c.rows →
    (part_of r c).start ≡ length (written c.constraints) + bytes_before c.suppliers c.rows r
unfolding written
start_is c r many h =
    let constraints = written c.constraints in
    let rows = marked_to c.suppliers c.rows many (r + 1) in
    rw (written_parts (ending_with r c) refl, ← add-one r, append-nil (written rows))
    (omega (arith, length-append constraints (written rows), start_more c.suppliers c.rows many r h))

-- what is said of a row that is there, and of one that is not
pub place_there : (c : Contents) (r : ℕ) → r < length c.rows → place_of (answered c) r ≡ answered (part_of r c)
unfolding place_of
place_there c r h = rw (lt-leb _ _ h)

pub place_missing : (c : Contents) (r : ℕ) → length c.rows ≤ r → place_of (answered c) r ≡ refusing (refusal not_there 0)
unfolding place_of
place_missing c r h = rw (le-leb _ _ h)

-- the part, from the struct of an accepted table
found_part : (c : Contents) → Whole c → (r : ℕ) → r < length c.rows → let t = table_of c in
    part_of r c ≡ record {
      start = constraint_size * length c.constraints + bytes_before t.suppliers t.rows r;
      length = size_of (get_or t.rows r blank);
    }
unfolding table_of
found_part c w r h =
    let front = padded_front blank row_limit c.rows r (omega arith) in
    let before = padded_front no_supplier row_limit c.suppliers r (omega (arith, w.suppliers_fit)) in
    let at = padded_at blank row_limit c.rows r in
    let own = padded_at no_supplier row_limit c.suppliers r in
    rw (front, before, at, own, start_is c r w.suppliers_fit h, constraint_bytes 0 c.constraints w.constraints_sound)

-- a table that was read: how much it holds, and where its row r stands, by its struct
pub record Found (s : List ℕ) (t : Table) : Type 0 where
  pub few : t.tally.rows ≤ row_limit
  pub bound : t.tally.constraints ≤ constraint_limit
  pub rows_long : length t.rows ≡ row_limit
  pub suppliers_long : length t.suppliers ≡ row_limit
  pub missing : (r : ℕ) → t.tally.rows ≤ r → place_of (reading s) r ≡ refusing (refusal not_there 0)
  pub there : (r : ℕ) → r < t.tally.rows → place_of (reading s) r ≡ answered (record {
    start = constraint_size * t.tally.constraints + bytes_before t.suppliers t.rows r;
    length = size_of (get_or t.rows r blank);
  })

pub found : (s : List ℕ) (r : Result Table Coded) (t : Table) → said r ≡ tabled (reading s) → r ≡ Ok t → Found s t
unfolding table_of
found s r t q e =
    let o = opened s r t q e in
    let c = o.contents in
    rw o.table (record {
      few = o.whole.rows_fit;
      bound = o.whole.constraints_fit;
      rows_long = padded_length blank row_limit c.rows o.whole.rows_fit;
      suppliers_long = padded_length no_supplier row_limit c.suppliers (omega (arith, o.whole.rows_fit, o.whole.suppliers_fit));
      missing = λ r h. rw o.is (place_missing c r h);
      there = λ r h. rw o.is (place_there c r h ∙ ap answered (found_part c o.whole r h));
    })

-- and one that was refused
pub not_found : (s : List ℕ) (row : ℕ) (r : Result Table Coded) (why : Coded) → said r ≡ tabled (reading s) → r ≡ Err why →
    place_of (reading s) row ≡ refusing (told why)
unfolding place_of
not_found s row r why q e = rw (turned s r why q e)

-- what a place tells of the reading
pub place_tells : (x : Said Contents) (r : ℕ) (part : Part) → place_of x r ≡ answered part →
    (c : Contents) × (x ≡ answered c) × (r < length c.rows) × (part_of r c ≡ part)
unfolding place_of
place_tells (answered c) r part q = go (leb (length c.rows) r) refl q
  where
    go : (b : Bool) → leb (length c.rows) r ≡ b → unless (if_missing b) (answered (part_of r c)) ≡ answered part →
        (d : Contents) × (answered c ≡ answered d) × (r < length d.rows) × (part_of r d ≡ part)
    go true e q = not_both (sym q)
    go false e q = (c, refl, leb-false _ _ e, cc)
place_tells (refusing why) r part q = not_both (sym q)

-- the bytes of an accepted table, taken apart at a row
module _ (s : List ℕ) (c : Contents) (r : ℕ) (q : reading s ≡ answered c) (h : r < length c.rows) where
  abbrev pub own : List ℕ
  own = bytes_of (get_or c.rows r blank)

  pub whole : Whole c
  whole = (of_accepted s c q).0

  abbrev before : List Entry
  before =
      marked_to c.suppliers c.rows whole.suppliers_fit r
      ++ change (force_at c.suppliers r) (get_or c.suppliers r no_supplier)

  abbrev pub front : List ℕ
  front = written c.constraints ++ written before

  abbrev behind : List Entry
  behind = marked (get_or c.suppliers r no_supplier) (drop (suc r) c.suppliers) (drop (suc r) c.rows)

  abbrev pub back : List ℕ
  back = written behind ++ written c.questions

  -- the rows with their 60s, taken apart there
  around_rows : marked no_supplier c.suppliers c.rows ≡ before ++ (get_or c.rows r blank ∷ behind)
  unfolding marked
  around_rows =
      let many = whole.suppliers_fit in
      let ss = split_at c.suppliers r no_supplier (omega (arith, many)) in
      let es = split_at c.rows r blank h in
      let both : length (take r c.suppliers) ≡ length (take r c.rows) =
      length-take-le r c.suppliers (omega (arith, many)) ∙ sym (length-take-le r c.rows (omega arith)) in
      let first = marked_to c.suppliers c.rows many r in
      let mark = change (force_at c.suppliers r) (get_or c.suppliers r no_supplier) in
      ap₂ (marked no_supplier) ss es
      ∙ marked_append no_supplier (take r c.suppliers) _ (take r c.rows) _ both
      ∙ sym (append_assoc first mark (get_or c.rows r blank ∷ behind))

  pub around : front ++ (own ++ back) ≡ s
  unfolding written
  around =
      let constraints = written c.constraints in
      let questions = written c.questions in
      let rows : written (marked no_supplier c.suppliers c.rows) ≡ written before ++ (own ++ written behind) =
      ap written around_rows ∙ written_append before (get_or c.rows r blank ∷ behind) in
      append_assoc constraints (written before) (own ++ back)
      ∙ ap (λ (l : List ℕ). constraints ++ l) (sym (rw (
        rows,
        append_assoc (written before) (own ++ written behind) questions,
        append_assoc own (written behind)
            questions,
      )))
      ∙ sym (written_parts c whole.settles) ∙ (of_accepted s c q).1

  -- the row's part lies inside, and holds the row's own bytes
  starts : (part_of r c).start ≡ length front
  starts = start_is c r whole.suppliers_fit h ∙ sym (length-append (written c.constraints) (written before))

  pub part_fits : (part_of r c).start + (part_of r c).length ≤ length s
  part_fits = omega (arith, starts, ap length around, length-append front (own ++ back), length-append own back)

  pub part_own : part_at (answered (part_of r c)) s ≡ own
  part_own = rw (starts, ← around, drop_at front (own ++ back) (length front) refl, take_at own back (length own) refl)

-- "Asking for row r gives back that entry's own bytes"
pub own_bytes : (s : List ℕ) (c : Contents) (r : ℕ) → reading s ≡ answered c → r < length c.rows →
    part_at (place_of (reading s) r) s ≡ bytes_of (get_or c.rows r blank)
own_bytes s c r q h = rw (q, place_there c r h) (part_own s c r q h)

-- so a part that is found lies inside
pub inside : (s : List ℕ) (r : ℕ) (part : Part) → answered part ≡ place_of (reading s) r → part.start + part.length ≤ length s
inside s r part q = go (place_of (reading s) r) refl q
  where
    go : (x : Said Part) → place_of (reading s) r ≡ x → answered part ≡ x → part.start + part.length ≤ length s
    go (refusing why) e q = never cc
    go (answered other) e q =
        let o = place_tells (reading s) r other e in
        let same : part ≡ other = cc in
        rw (same, ← o.3) (part_fits s o.0 r o.1 o.2)

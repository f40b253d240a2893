-- What the code of striking writes: an output filled with entries one by one, and the rows that are left, row by row.
-- Assumes nothing.
use mathlib.Core.Path.{◌≡◌, refl, sym, ap, ap₂, ◌∙◌}
use mathlib.Core.List.{List, [], ◌∷◌, ◌++◌, map, append_assoc, append-nil, map-append}
use Prim.Native.Nat.{ℕ, ◌+◌, ◌-◌, ◌≤◌, ◌<◌}
use native.Mathlib.Omega.{arith}
use native.Mathlib.Numerals.{add-one}
use lib.ListN.{length, get_or, take, drop, length-append, length-drop, length-map, take-append-drop}
use lib.Seq.{take-suc, take-length, take_at, drop_at, drop-drop, length-take-le}
use borrow.Rule.Slice.PartMut.{put_mid, mid_of}
use Rattle.std.proofs.lemmas.List.{take_all, take_rest}
use Rattle.entries.specs.declared.Entry.{Entry}
use Rattle.entries.specs.Entries.{blank, size_of, bytes_of, onto}
use Rattle.table.specs.Suppliers.{no_supplier, change, marked, last_of}
use Rattle.table.specs.Contents.{written}
use Rattle.entries.proofs.Putting.{put_behind, onto_fits}
use Rattle.table.proofs.Marking.{last_append, marked_append}
use Rattle.table.proofs.Writing.{written_append}
use Rattle.strike.specs.Strike.{lowered, without}
use Rattle.strike.specs.Inner.{left_rows}
use Rattle.strike.proofs.Renumbering.{without_more, without_own, without_front, without_long}

-- the first of some entries stand in the output, up to a place, and behind them what was there; all of them fit
pub record Filled (all : List Entry) (before : List ℕ) (done : List Entry) (at : ℕ) (out : List ℕ) : Type 0 where
  pub rest : List Entry
  pub parts : all ≡ done ++ rest
  pub place : at ≡ length (written done)
  pub bytes : out ≡ written done ++ drop at before
  pub fits : length (written all) ≤ length before
  pub within : at ≤ length before
  pub long : length out ≡ length before

pub filled : (all before done : _) (at : ℕ) (out : List ℕ) (rest : List Entry) → all ≡ done ++ rest → at ≡ length (written done) →
    out ≡ written done ++ drop at before → length (written all) ≤ length before → Filled all before done at out
filled all before done at out rest parts place bytes fits =
    let within : at ≤ length before =
    omega (
      arith,
      place,
      fits,
      ap (λ (es : List Entry). length (written es)) parts,
      ap length (written_append done rest),
      length-append (written done) (written rest),
    ) in
    record {
      rest = rest;
      parts = parts;
      place = place;
      bytes = bytes;
      fits = fits;
      within = within;
      long = ap length bytes ∙ length-append (written done) (drop at before) ∙ omega (arith, place, length-drop at before, within);
    }

pub filled_none : (all : List Entry) (out : List ℕ) → length (written all) ≤ length out → Filled all out [] 0 out
unfolding written
filled_none all out h = filled all out [] 0 out all refl refl refl h

pub filled_all : {all done : List Entry} {before out : List ℕ} {at : ℕ} → Filled all before done at out → done ≡ all →
    (at ≡ length (written all)) × (out ≡ written all ++ drop at before)
filled_all f q = (rw q at f.place, rw q at f.bytes)

pub list_filled : {all : List Entry} {before out : List ℕ} {i at : ℕ} → Filled all before (take i all) at out → length all ≤ i →
    (at ≡ length (written all)) × (out ≡ written all ++ drop at before)
list_filled {all} {i = i} f h = filled_all f (take_all i all h)

-- some entries more, written into the part of the output from its current end
module _ {all : List Entry} {before : List ℕ} {done : List Entry} {at : ℕ} {out : List ℕ} (f : Filled all before done at out) (next later : List Entry)
    (more : List Entry) (is : more ≡ done ++ next) (parts : all ≡ more ++ later) where
  bytes_more : written more ≡ written done ++ written next
  bytes_more = ap written is ∙ written_append done next

  place_more : at + length (written next) ≡ length (written more)
  place_more = omega (arith, f.place, ap length bytes_more, length-append (written done) (written next))

  pub filled_room : at + length (written next) ≤ length before
  filled_room =
      omega (
        arith,
        place_more,
        f.fits,
        ap (λ (es : List Entry). length (written es)) parts,
        ap length (written_append more later),
        length-append (written more) (written later),
      )

  pub filled_more : (k n : ℕ) (ys : List ℕ) → k ≡ length out - at → n ≡ length (written next) → ys ≡ onto (written next) (mid_of at k out) →
      Filled all before more (at + n) (put_mid at k out ys)
  filled_more k n ys ke ne ye =
      let d : drop at out ≡ drop at before = ap (drop at) f.bytes ∙ drop_at (written done) (drop at before) at (sym f.place) in
      let t : take at out ≡ written done = ap (take at) f.bytes ∙ take_at (written done) (drop at before) at (sym f.place) in
      rw ne (filled all before more (at + length (written next)) _ later parts place_more
      (put_behind out (written next) at k ys (omega (arith, filled_room, f.long)) ke ye
      ∙ rw (t, d, drop-drop (length (written next)) at before, bytes_more)
      (sym (append_assoc (written done) (written next) (drop (at + length (written next)) before)))) f.fits)

  -- where the callee wrote them over the front of that part
  pub part_room : length (written next) ≤ length (mid_of at (length out - at) out)
  part_room = simp (take_rest, length-drop) (omega (arith, filled_room, f.long))

  pub part_more : (n : ℕ) (ys : List ℕ) → n ≡ length (written next) → ys ≡ written next ++ drop n (mid_of at (length out - at) out) →
      Filled all before more (at + n) (put_mid at (length out - at) out ys)
  part_more n ys ne ye =
      filled_more (length out - at) n ys refl ne
      (ye ∙ ap (λ (n : ℕ). written next ++ drop n (mid_of at (length out - at) out)) ne
      ∙ sym (onto_fits (written next) (mid_of at (length out - at) out) part_room))

-- three lists one behind the other, each written over the front of what the one before it left
module _ (first second third : List Entry) (before : List ℕ) (room : length (written (first ++ (second ++ third))) ≤ length before) where
  abbrev three : List Entry
  three = first ++ (second ++ third)

  pub first_fits : length (written first) ≤ length before
  first_fits =
      omega (arith, room, ap length (written_append first (second ++ third)), length-append (written first) (written (second ++ third)))

  module _ (n : ℕ) (out : List ℕ) (p : n ≡ length (written first)) (q : out ≡ written first ++ drop n before) where
    one_stands : Filled three before first n out
    one_stands = filled three before first n out (second ++ third) refl p q room

    pub second_fits : length (written second) ≤ length (mid_of n (length out - n) out)
    second_fits = part_room one_stands second third (first ++ second) refl (sym (append_assoc first second third))

    module _ (m : ℕ) (ys : List ℕ) (pm : m ≡ length (written second)) (qm : ys ≡ written second ++ drop m (mid_of n (length out - n) out)) where
      abbrev later : List ℕ
      later = put_mid n (length out - n) out ys

      two_stand : Filled three before (first ++ second) (n + m) later
      two_stand = part_more one_stands second third (first ++ second) refl (sym (append_assoc first second third)) m ys pm qm

      pub third_fits : length (written third) ≤ length (mid_of (n + m) (length later - (n + m)) later)
      third_fits = part_room two_stand third [] three (sym (append_assoc first second third)) (sym (append-nil three))

      pub all_stand : (k : ℕ) (zs : List ℕ) → k ≡ length (written third) →
          zs ≡ written third ++ drop k (mid_of (n + m) (length later - (n + m)) later) → let last = put_mid (n + m) (length later - (n + m)) later zs in
          (n + m + k ≡ length (written three)) × (last ≡ written three ++ drop (n + m + k) before)
      all_stand k zs pk qk =
          filled_all (part_more two_stand third [] three (sym (append_assoc first second third)) (sym (append-nil three)) k zs pk qk) refl

-- one entry more, of a list
module _ {all : List Entry} {before : List ℕ} {i at : ℕ} {out : List ℕ} (f : Filled all before (take i all) at out) (l : i < length all) (e : Entry)
    (is : e ≡ get_or all i blank) where
  written_one : written (e ∷ []) ≡ bytes_of e
  unfolding written
  written_one = append-nil (bytes_of e)

  one_more : take (i + 1) all ≡ take i all ++ (e ∷ [])
  one_more = rw is (ap (λ (n : ℕ). take n all) (add-one i) ∙ take-suc all i blank l)

  pub entry_room : at + size_of e ≤ length before
  entry_room =
      omega (arith, filled_room f (e ∷ []) (drop (i + 1) all) _ one_more (sym (take-append-drop (i + 1) all)), ap length written_one)

  pub entry_more : (k n : ℕ) (ys : List ℕ) → k ≡ length out - at → n ≡ size_of e → ys ≡ onto (bytes_of e) (mid_of at k out) →
      Filled all before (take (i + 1) all) (at + n) (put_mid at k out ys)
  entry_more k n ys ke ne ye =
      filled_more f (e ∷ []) (drop (i + 1) all) _ one_more (sym (take-append-drop (i + 1) all)) k n ys ke
      (ne ∙ ap length (sym written_one)) (ye ∙ ap (λ (b : List ℕ). onto b (mid_of at k out)) (sym written_one))

-- the rows that are left, row by row
module _ (r : ℕ) (ss : List ℕ) (es : List Entry) (many : length ss ≡ length es) where
  abbrev pub left_to : ℕ → List Entry
  left_to i = left_rows r (take i ss) (take i es)

  -- the supplier in force behind them
  abbrev pub left_force : ℕ → ℕ
  left_force i = last_of no_supplier (without r (take i ss))

  both_long : (i : ℕ) → i ≤ length es → length (without r (take i ss)) ≡ length (map (lowered r) (without r (take i es)))
  both_long i l =
      without_long r (take i ss) (take i es) (length-take-le i ss (omega (arith, many)) ∙ sym (length-take-le i es l))
      ∙ sym (length-map (without r (take i es)) (lowered r))

  module _ (i : ℕ) (l : i < length es) where
    abbrev owner : ℕ
    owner = get_or ss i no_supplier

    abbrev row : Entry
    row = get_or es i blank

    next_owner : take (i + 1) ss ≡ take i ss ++ (owner ∷ [])
    next_owner = ap (λ (n : ℕ). take n ss) (add-one i) ∙ take-suc ss i no_supplier (omega (arith, many))

    next_row : take (i + 1) es ≡ take i es ++ (row ∷ [])
    next_row = ap (λ (n : ℕ). take n es) (add-one i) ∙ take-suc es i blank l

    count_owners : length (take i ss) ≡ i
    count_owners = length-take-le i ss (omega (arith, many))

    count_rows : length (take i es) ≡ i
    count_rows = length-take-le i es (omega arith)

    -- another row than r, with its 60
    pub left_more : (i ≡ r → ⊥) → left_to (i + 1) ≡ left_to i ++ (change (left_force i) owner ++ (lowered r row ∷ []))
    unfolding marked
    left_more d =
        let one = without_more r (take i ss) owner (λ q. d (sym count_owners ∙ q)) in
        let two = without_more r (take i es) row (λ q. d (sym count_rows ∙ q)) in
        rw (next_owner, next_row, one, two, map-append (lowered r) (without r (take i es)) (row ∷ []))
        (marked_append no_supplier (without r (take i ss)) (owner ∷ []) (map (lowered r) (without r (take i es))) (lowered r row ∷ [])
        (both_long i (omega arith)))

    pub force_more : (i ≡ r → ⊥) → left_force (i + 1) ≡ owner
    unfolding last_of
    force_more d =
        rw (next_owner, without_more r (take i ss) owner (λ q. d (sym count_owners ∙ q))) (last_append no_supplier (without r (take i ss)) (owner ∷ []))

    -- row r itself
    pub left_same : i ≡ r → left_to (i + 1) ≡ left_to i
    left_same q =
        rw (next_owner, next_row, without_own r (take i ss) owner (count_owners ∙ q), without_own r (take i es) row (count_rows ∙ q))

    pub force_same : i ≡ r → left_force (i + 1) ≡ left_force i
    force_same q = rw (next_owner, without_own r (take i ss) owner (count_owners ∙ q))

  -- what is left to write
  pub left_parts : (i : ℕ) → i ≤ length es → (later : List Entry) × (left_rows r ss es ≡ left_to i ++ later)
  left_parts i l =
      let a = without_front r (take i ss) (drop i ss) in
      let b = without_front r (take i es) (drop i es) in (
        marked (left_force i) a.0 (map (lowered r) b.0),
        ap₂ (left_rows r) (sym (take-append-drop i ss)) (sym (take-append-drop i es))
            ∙ rw (a.1, b.1, map-append (lowered r) (without r (take i es)) b.0)
            (marked_append no_supplier (without r (take i ss)) a.0 (map (lowered r) (without r (take i es))) (map (lowered r) b.0) (both_long i l)),
      )

  pub left_all : (i : ℕ) → i ≡ length es → left_to i ≡ left_rows r ss es
  left_all i q = rw (q, take-length es, ← many, take-length ss)

  -- one row more, written with its 60 into the output
  module _ {before : List ℕ} {i at : ℕ} {out : List ℕ} (f : Filled (left_rows r ss es) before (left_to i) at out)
      (l : i < length es) (d : i ≡ r → ⊥)
      (force : ℕ) (e : Entry) (behind : force ≡ left_force i) (is : e ≡ lowered r (get_or es i blank)) where
    abbrev next : List Entry
    next = change force (get_or ss i no_supplier) ++ (e ∷ [])

    one_left : left_to (i + 1) ≡ left_to i ++ next
    one_left = rw (behind, is) (left_more i l d)

    pub row_room : at + length (written next) ≤ length before
    row_room = let p = left_parts (i + 1) (omega arith) in filled_room f next p.0 _ one_left p.1

    pub row_more : (k n : ℕ) (ys : List ℕ) → k ≡ length out - at → n ≡ length (written next) → ys ≡ onto (written next) (mid_of at k out) →
        Filled (left_rows r ss es) before (left_to (i + 1)) (at + n) (put_mid at k out ys)
    row_more = let p = left_parts (i + 1) (omega arith) in filled_more f next p.0 _ one_left p.1

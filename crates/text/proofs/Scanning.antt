-- A line as the code goes through it: its word, its numbers piece by piece, and its end.
-- Assumes nothing.
use mathlib.Core.Path.{◌≡◌, refl, sym, ap, ap₂, ◌∙◌}
use mathlib.Core.Bool.{Bool, true, false, cond, ◌&&◌}
use mathlib.Core.List.{List, [], ◌∷◌, ◌++◌, map, append_assoc, append-nil}
use Prim.Native.Nat.{ℕ, ◌+◌, ◌-◌, ◌≤◌, ◌<◌}
use native.Mathlib.Omega.{arith}
use native.Mathlib.Numerals.{add-one}
use lib.ListN.{length, get_or, take, drop, length-map, length-drop, drop_of_length-le}
use lib.Seq.{drop-drop}
use lib.Dec.{eqb}
use borrow.Author.Tests.{ne_eqb, eqb-true, lt-ltb, le-ltb}
use Rattle.belnap.proofs.Finite.{both_parts}
use Rattle.std.proofs.lemmas.List.{get_or_past}
use Rattle.entries.proofs.Numbers.{by_order}
use Rattle.kinds.specs.declared.Kind.{Kind}
use Rattle.std.specs.Prelude.{Some}
use Rattle.kinds.specs.Kinds.{form_of}
use Rattle.entries.specs.declared.Entry.{Entry}
use Rattle.entries.specs.Refusals.{unknown_word, misspelt}
use Rattle.entries.specs.Said.{Said, answered, refusing, refusal, and_then, unless}
use Rattle.kinds.specs.Words.{kind_spelled}
use Rattle.table.specs.Steps.{number_at, entry_of}
use Rattle.std.specs.Prelude.{Result, Ok, Err, is_ok}
use Rattle.std.specs.Result.{result_unwrap_or}
use Rattle.decimal.specs.declared.Misread.{Misread}
use Rattle.decimal.specs.declared.Misread.TheVariants.{Large, Misspelt}
use Rattle.decimal.specs.Decimal.{number_said, value, too_large, well_spelled, space, line_feed}
use Rattle.entries.specs.Lists.{some, every}
use Rattle.entries.proofs.Lists.{none_append}
use Rattle.text.specs.Texts.{Pieces, split, misspelling, line_by, line_says}
use Rattle.text.specs.Inner.{pieces_behind, line_from}
use Rattle.text.proofs.Splitting.{split_front, first_within, behind_some}

-- a piece's value, 0 where it is not spelled well
abbrev worth : List ℕ → ℕ
worth p = cond (well_spelled p) (value p) 0

-- what the pieces of a kind's line say behind those seen: how many these are, whether they are all spelled well, and the first two values
module _ (kind : Kind) where
  pub scan : ℕ → Bool → ℕ → ℕ → List (List ℕ) → Said Entry
  scan count good a b [] = cond (eqb count (form_of kind).numbers && good) (answered (record { kind = kind; a = a; b = b })) (refusing (refusal misspelt 0))
  scan count good a b (p ∷ ps) =
      cond (too_large p) (refusing (refusal unknown_word 0))
      (scan (count + 1) (good && well_spelled p) (cond (eqb count 0) (worth p) a) (cond (eqb count 1) (worth p) b) ps)

  scan_end : (count : ℕ) (good : Bool) (a b : ℕ) →
      scan count good a b []
      ≡ cond (eqb count (form_of kind).numbers && good) (answered (record { kind = kind; a = a; b = b })) (refusing (refusal misspelt 0))
  unfolding scan
  scan_end count good a b = refl

  scan_large : (count : ℕ) (good : Bool) (a b : ℕ) (p : List ℕ) (ps : List (List ℕ)) → too_large p ≡ true →
      scan count good a b (p ∷ ps) ≡ refusing (refusal unknown_word 0)
  unfolding scan
  scan_large count good a b p ps h = rw h

  scan_small : (count : ℕ) (good : Bool) (a b : ℕ) (p : List ℕ) (ps : List (List ℕ)) → too_large p ≡ false →
      scan count good a b (p ∷ ps) ≡ scan (count + 1) (good && well_spelled p) (cond (eqb count 0) (worth p) a) (cond (eqb count 1) (worth p) b) ps
  unfolding scan
  scan_small count good a b p ps h = rw h

-- the first number and the second, with a piece more
first_more : (ps : List (List ℕ)) (p : List ℕ) → cond (eqb (length ps) 0) (worth p) (get_or (map worth ps) 0 0) ≡
    get_or (map worth (ps ++ (p ∷ []))) 0 0
first_more [] p = refl
first_more (q ∷ ps) p = rw (ne_eqb (length (q ∷ ps)) 0 (λ e. omega arith))

second_more : (ps : List (List ℕ)) (p : List ℕ) → cond (eqb (length ps) 1) (worth p) (get_or (map worth ps) 1 0) ≡
    get_or (map worth (ps ++ (p ∷ []))) 1 0
second_more [] p = refl
second_more (q ∷ []) p = refl
second_more (q ∷ r ∷ ps) p = rw (ne_eqb (length (q ∷ r ∷ ps)) 1 (λ e. omega arith))

every_more : (is : List ℕ → Bool) (ps : List (List ℕ)) (p : List ℕ) → (every is ps && is p) ≡ every is (ps ++ (p ∷ []))
every_more is [] p = go (is p)
  where
    go : (b : Bool) → b ≡ (b && true)
    go true = refl
    go false = refl
every_more is (q ∷ ps) p = go (is q) (every_more is ps p)
  where
    go : (b : Bool) → (every is ps && is p) ≡ every is (ps ++ (p ∷ [])) → ((b && every is ps) && is p) ≡ (b && every is (ps ++ (p ∷ [])))
    go true h = h
    go false h = refl

count_more : (ps : List (List ℕ)) (p : List ℕ) → length ps + 1 ≡ length (ps ++ (p ∷ []))
count_more [] p = refl
count_more (q ∷ ps) p = omega (arith, count_more ps p)

-- values of pieces that are all spelled well, and the numbers of an entry that has as many
worth_well : (ps : List (List ℕ)) → every well_spelled ps ≡ true → map worth ps ≡ map value ps
worth_well [] w = refl
worth_well (p ∷ ps) w =
    let parts = both_parts (well_spelled p) (every well_spelled ps) w in
    ap₂ ◌∷◌ (rw parts.0) (worth_well ps parts.1)

number_there : (vs : List ℕ) (i : ℕ) → number_at (length vs) i vs ≡ get_or vs i 0
number_there vs i = by_order i (length vs) (λ l. rw (lt-ltb i (length vs) l)) (λ l. rw (le-ltb i (length vs) l) (sym (get_or_past vs i 0 l)))

-- the scan of all pieces, whatever was seen of them, is what is said of the line
module _ (kind : Kind) where
  seen : List (List ℕ) → List (List ℕ) → Said Entry
  seen done ps = scan kind (length done) (every well_spelled done) (get_or (map worth done) 0 0) (get_or (map worth done) 1 0) ps

  at_end : (done : List (List ℕ)) → some too_large done ≡ false → seen done [] ≡ line_by (Some kind) done
  unfolding seen scan misspelling
  at_end done small = go (eqb (length done) (form_of kind).numbers) refl (every well_spelled done) refl
    where
      go : (count : Bool) → eqb (length done) (form_of kind).numbers ≡ count → (good : Bool) → every well_spelled done ≡ good →
          cond (count && good) (answered (record { kind = kind; a = get_or (map worth done) 0 0; b = get_or (map worth done) 1 0 }))
          (refusing (refusal misspelt 0))
          ≡ unless (cond (some too_large done) unknown_word (cond (count && good) 0 misspelt)) (answered (entry_of kind (map value done)))
      go true c true g =
          let n : length (map value done) ≡ (form_of kind).numbers = length-map done value ∙ eqb-true _ _ c in
          rw (small, worth_well done g, ← n) (ap₂ (λ (a b : ℕ). answered (record { kind = kind; a = a; b = b }))
          (sym (number_there (map value done) 0)) (sym (number_there (map value done) 1)))
      go true c false g = rw small
      go false c good g = rw small

  scanned : (ps done : List (List ℕ)) → some too_large done ≡ false → seen done ps ≡ line_by (Some kind) (done ++ ps)
  unfolding seen scan misspelling
  scanned [] done small = at_end done small ∙ ap (line_by (Some kind)) (sym (append-nil done))
  scanned (p ∷ ps) done small = go (too_large p) refl (scanned ps (done ++ (p ∷ [])))
    where
      go : (large : Bool) → too_large p ≡ large →
          (some too_large (done ++ (p ∷ [])) ≡ false → seen (done ++ (p ∷ [])) ps ≡ line_by (Some kind) ((done ++ (p ∷ [])) ++ ps)) →
          seen done (p ∷ ps) ≡ line_by (Some kind) (done ++ (p ∷ ps))
      go true l on = rw (l, none_append too_large done (p ∷ ps) small, l)
      go false l on =
          let none : some too_large (done ++ (p ∷ [])) ≡ false = none_append too_large done (p ∷ []) small ∙ rw l in
          rw (l, first_more done p, second_more done p, every_more well_spelled done p, count_more done p) (on none ∙ ap (line_by (Some kind))
          (append_assoc done (p ∷ []) ps))

  pub scan_all : (ps : List (List ℕ)) → scan kind 0 true 0 0 ps ≡ line_by (Some kind) ps
  unfolding seen
  scan_all ps = scanned ps [] refl

-- a turn: where the next piece ends, and that it and the pieces behind it are what is left
module _ (sep : ℕ) (s : List ℕ) (at to : ℕ) (inside : at < length s) (q : to ≡ at + 1 + length (split sep (drop (at + 1) s)).first) where
  pub next_within : to ≤ length s
  next_within = omega (arith, q, inside, first_within sep (drop (at + 1) s), length-drop (at + 1) s)

  next_piece : pieces_behind sep (drop at s) ≡ (split sep (drop (at + 1) s)).first ∷ pieces_behind sep (drop to s)
  next_piece =
      let rest = drop (at + 1) s in
      behind_some sep s at inside ∙ rw (← add-one at) (ap (λ (ps : List (List ℕ)). (split sep rest).first ∷ ps)
      ((split_front sep rest).1 ∙ ap (pieces_behind sep) (drop-drop (length (split sep rest).first) (at + 1) s) ∙ rw q))

-- the piece itself, between two places
pub piece_between : (sep : ℕ) (s : List ℕ) (from to : ℕ) → to ≡ from + length (split sep (drop from s)).first →
    take (to - from) (drop from s) ≡ (split sep (drop from s)).first
piece_between sep s from to q =
    let k : to - from ≡ length (split sep (drop from s)).first = omega arith in
    rw k (sym (split_front sep (drop from s)).0)

-- what a piece's number says of it
is_large : (p : List ℕ) → number_said p ≡ Err Large → too_large p ≡ true
unfolding number_said
is_large p q = go (too_large p) (well_spelled p) q
  where
    go : (l w : Bool) → cond l (Err Large) (cond w (Ok (value p)) (Err Misspelt)) ≡ Err Large → l ≡ true
    go true w q = refl
    go false true q = cc
    go false false q = cc

is_small : (p : List ℕ) → (number_said p ≡ Err Large → ⊥) →
    (too_large p ≡ false) × (is_ok (number_said p) ≡ well_spelled p) × (result_unwrap_or (number_said p) 0 ≡ worth p)
unfolding number_said
is_small p h = go (too_large p) (well_spelled p) h
  where
    go : (l w : Bool) → (cond l (Err Large) (cond w (Ok (value p)) (Err Misspelt)) ≡ Err Large → ⊥) →
        (l ≡ false)
        × (is_ok (cond l (Err Large) (cond w (Ok (value p)) (Err Misspelt))) ≡ w)
        × (result_unwrap_or (cond l (Err Large) (cond w (Ok (value p)) (Err Misspelt))) 0 ≡ cond w (value p) 0)
    go true w h = absurd (h refl)
    go false true h = (refl, refl, refl)
    go false false h = (refl, refl, refl)

-- the scan's turn at a place of a line, by the number that the code has of the next piece: it stops at one that is too large
module _ (kind : Kind) (count : ℕ) (good : Bool) (a b : ℕ) (line : List ℕ) (at to : ℕ) (number : Result ℕ Misread) (inside : at < length line)
    (q : to ≡ at + 1 + length (split space (drop (at + 1) line)).first) (r : number ≡ number_said (take (to - (at + 1)) (drop (at + 1) line))) where
  abbrev piece : List ℕ
  piece = (split space (drop (at + 1) line)).first

  number_is : number_said piece ≡ number
  number_is = sym (r ∙ ap number_said (piece_between space line (at + 1) to q))

  turn : scan kind count good a b (pieces_behind space (drop at line)) ≡ scan kind count good a b (piece ∷ pieces_behind space (drop to line))
  turn = ap (scan kind count good a b) (next_piece space line at to inside q)

  pub turn_large : number ≡ Err Large → scan kind count good a b (pieces_behind space (drop at line)) ≡ refusing (refusal unknown_word 0)
  turn_large h = turn ∙ scan_large kind count good a b piece _ (is_large piece (number_is ∙ h))

  pub turn_other : (number ≡ Err Large → ⊥) → scan kind count good a b (pieces_behind space (drop at line))
      ≡ scan kind (count + 1) (good && is_ok number) (cond (eqb count 0) (result_unwrap_or number 0) a)
      (cond (eqb count 1) (result_unwrap_or number 0) b) (pieces_behind space (drop to line))
  turn_other h =
      let is = is_small piece (λ e. h (sym number_is ∙ e)) in
      turn ∙ scan_small kind count good a b piece _ is.0 ∙ rw (← number_is, is.1, is.2)

-- and behind the last piece
pub turn_end : (kind : Kind) (count : ℕ) (good : Bool) (a b : ℕ) (line : List ℕ) (at : ℕ) → length line ≤ at →
    scan kind count good a b (pieces_behind space (drop at line))
    ≡ cond (eqb count (form_of kind).numbers && good) (answered (record { kind = kind; a = a; b = b })) (refusing (refusal misspelt 0))
turn_end kind count good a b line at h = rw (drop_of_length-le line h) (scan_end kind count good a b)

-- a line by where its word ends
pub word_cut : (line : List ℕ) (end : ℕ) → end ≡ 0 + length (split space line).first → take end line ≡ (split space line).first
word_cut line end q = let n : end ≡ length (split space line).first = omega arith in rw n (sym (split_front space line).0)

pub word_within : (line : List ℕ) (end : ℕ) → end ≡ 0 + length (split space line).first → end ≤ length line
word_within line end q = omega (arith, q, first_within space line)

pub line_cut : (line : List ℕ) (end : ℕ) → end ≡ 0 + length (split space line).first →
    line_says line ≡ line_by (kind_spelled (take end line)) (pieces_behind space (drop end line))
unfolding line_says
line_cut line end q =
    let length_is : length (split space line).first ≡ end = omega arith in
    ap₂ (λ (w : List ℕ) (ps : List (List ℕ)). line_by (kind_spelled w) ps)
    (sym (word_cut line end q)) ((split_front space line).1 ∙ ap (λ (n : ℕ). pieces_behind space (drop n line)) length_is)

-- the line that begins at a place of a text, by where it ends: at a line feed, or where the text does
module _ (text : List ℕ) (at end : ℕ) (q : end ≡ at + length (split line_feed (drop at text)).first) where
  abbrev lines : Pieces
  lines = split line_feed (drop at text)

  pub end_within : at ≤ length text → end ≤ length text
  end_within l = omega (arith, q, first_within line_feed (drop at text), length-drop at text)

  pub more_behind : lines.more ≡ pieces_behind line_feed (drop end text)
  more_behind = (split_front line_feed (drop at text)).1 ∙ ap (pieces_behind line_feed) (drop-drop (length lines.first) at text) ∙ rw q

  pub line_whole : end < length text → line_from at lines ≡ record { said = line_says lines.first; next = end + 1 }
  unfolding line_from
  line_whole l = rw (more_behind ∙ behind_some line_feed text end l, ← q)

  pub line_last : length text ≤ end →
      line_from at lines ≡ record { said = and_then (line_says lines.first) (λ e. refusing (refusal misspelt 0)); next = end }
  unfolding line_from
  line_last l = rw (more_behind, drop_of_length-le text l, ← q)

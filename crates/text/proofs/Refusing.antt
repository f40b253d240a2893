-- What a refusal of a text says: 12 or 13, and the lines before it are spelled well; or 01's own for the bytes, at the line of the first bad entry.
-- Assumes nothing.
use mathlib.Core.Path.{◌≡◌, refl, sym, ap, ◌∙◌}
use mathlib.Core.Bool.{true}
use mathlib.Core.List.{List, [], ◌∷◌, ◌++◌, append_assoc}
use mathlib.Core.Logic.{◌⊎◌, inl, inr, ⊎_elim}
use Prim.Native.Nat.{ℕ, suc, ◌+◌, ◌<◌}
use native.Mathlib.Omega.{arith}
use lib.ListN.{length, length-append}
use Rattle.belnap.proofs.Finite.{never, both_parts}
use Rattle.entries.specs.declared.Entry.{Entry}
use Rattle.entries.specs.Said.{Refusal}
use Rattle.entries.specs.Refusals.{misspelt, of_entries, of_spelling, is_among}
use Rattle.entries.specs.Said.{Said, answered, refusing, refusal, and_then}
use Rattle.entries.proofs.Saying.{not_both}
use Rattle.entries.specs.Entries.{size_of}
use Rattle.entries.proofs.OneEntry.{size}
use Rattle.table.specs.Steps.{begins_row}
use Rattle.table.specs.Suppliers.{marked, last_of}
use Rattle.table.specs.Contents.{Contents, none, tally_of, settled, written, encoded}
use Rattle.table.specs.Reading.{reading}
use Rattle.table.proofs.Permission.{permitted_own, refused_inside}
use Rattle.table.proofs.Writing.{none_whole, whole_open, whole_accepted}
use Rattle.decimal.specs.Decimal.{line_feed}
use Rattle.text.specs.Lines.{each, line_of, text_of}
use Rattle.entries.specs.Lists.{every}
use Rattle.text.specs.Texts.{Pieces, split, line_says, on_line, lines_say, spelled, ended_by}
use Rattle.text.specs.Calls.{line_at, by_line, from_text}
use Rattle.text.specs.Inner.{said_from}
use Rattle.text.specs.Places.{BadLine, BadEntry, DueText}
use Rattle.text.proofs.Splitting.{split_joined, free, split_each, split_frees}
use Rattle.text.proofs.OneLine.{line_ends, line_written}
use Rattle.text.proofs.Judging.{Plainly, FirstBad, ends, line_of_place}
use Rattle.text.proofs.OneText.{text_read, text_written}
use Rattle.text.proofs.ByLine.{IsSpelling, lines_number}

-- a refused text: a line of it is bad, or all are spelled well and reading refuses their bytes
pub record Own (text : List ℕ) (why : Refusal) : Type 0 where
  pub entries : List Entry
  pub spells : spelled text ≡ answered entries
  pub at : ℕ
  pub refuses : reading (written entries) ≡ refusing (refusal why.number at)
  pub line : why.place ≡ line_at entries at

pub refused_by : (text : List ℕ) (why : Refusal) → from_text text ≡ refusing why → (spelled text ≡ refusing why) ⊎ Own text why
unfolding from_text
refused_by text why q = go (spelled text) refl q
  where
    own : (es : List Entry) → spelled text ≡ answered es → (x : Said Contents) → reading (written es) ≡ x → by_line es x
        ≡ refusing why → Own text why
    own es s (answered c) r q = not_both q
    own es s (refusing w) r q =
        let same : refusal w.number (line_at es w.place) ≡ why = cc in
        rw (← same) (record { entries = es; spells = s; at = w.place; refuses = r; line = refl })

    go : (x : Said (List Entry)) → spelled text ≡ x → and_then x (λ es. by_line es (reading (written es))) ≡ refusing why →
        (spelled text ≡ refusing why) ⊎ Own text why
    go (answered es) s q = inr (own es s (reading (written es)) refl q)
    go (refusing w) s q = let same : w ≡ why = cc in inl (s ∙ ap refusing same)

pub spelling_number : (text : List ℕ) (why : Refusal) → spelled text ≡ refusing why → IsSpelling why.number
unfolding spelled
spelling_number text why q = let lines = split line_feed text in lines_number lines.more 1 lines.first why q

-- a bad line: the lines before it are those of entries
record Bad (n : ℕ) (s : List ℕ) (why : Refusal) : Type 0 where
  before : List Entry
  rest : List ℕ
  parts : s ≡ text_of before ++ rest
  plain : Plainly before
  there : rest ≡ [] → ⊥
  line_is : why.place ≡ n + length before
  here : Refusal
  says : ended_by (split line_feed rest).more (line_says (split line_feed rest).first) ≡ refusing here
  number_is : why.number ≡ here.number

-- a list with something in it is not empty
longer : (x : ℕ) (l : List ℕ) → x ∷ l ≡ [] → ⊥
longer x l q = omega (arith, ap length q)

behind : (l m : List ℕ) → l ++ (line_feed ∷ m) ≡ [] → ⊥
behind l m q = omega (arith, ap length q, length-append l (line_feed ∷ m))

-- at the first of some lines
first_bad : (n : ℕ) (line : List ℕ) (more : List (List ℕ)) (w : Refusal) → (line ++ each line_feed more ≡ [] → ⊥) →
    free line_feed line ≡ true → every (free line_feed) more ≡ true →
    ended_by more (line_says line) ≡ refusing w → Bad n (line ++ each line_feed more) (refusal w.number n)
unfolding text_of
first_bad n line more w some f g q = record {
  before = [];
  rest = line ++ each line_feed more;
  parts = refl;
  plain = tt;
  there = some;
  line_is = omega arith;
  here = w;
  says = ap (λ (p : Pieces). ended_by p.more (line_says p.first)) (split_each line_feed line more f g) ∙ q;
  number_is = refl;
}

lines_bad : (more : List (List ℕ)) (n : ℕ) (line : List ℕ) (why : Refusal) → free line_feed line ≡ true → every (free line_feed) more ≡ true →
    lines_say n line more ≡ refusing why → Bad n (line ++ each line_feed more) why
unfolding lines_say on_line text_of
lines_bad [] n [] why f g q = not_both q
lines_bad [] n (x ∷ line) why f g q = go (line_says (x ∷ line)) refl q
  where
    go : (said : Said Entry) → line_says (x ∷ line) ≡ said → on_line n (ended_by [] said) (answered []) ≡ refusing why →
        Bad n ((x ∷ line) ++ each line_feed []) why
    go (answered e) l q =
        let same : refusal misspelt n ≡ why = cc in rw (← same) (first_bad n (x ∷ line) [] (refusal misspelt 0) (λ z. longer x
        (line ++ []) z) f g (rw l))
    go (refusing w) l q =
        let same : refusal w.number n ≡ why = cc in rw (← same) (first_bad n (x ∷ line) [] w (λ z. longer x (line ++ []) z) f g (rw l))
lines_bad (next ∷ more) n line why f g q =
    let parts = both_parts (free line_feed next) (every (free line_feed) more) g in
    go (line_says line) refl (lines_say (suc n) next more) refl q (λ w. lines_bad more (suc n) next w parts.0 parts.1)
  where
    go : (said : Said Entry) → line_says line ≡ said → (rest : Said (List Entry)) → lines_say (suc n) next more ≡ rest → on_line n said rest
        ≡ refusing why →
        ((w : Refusal) → lines_say (suc n) next more ≡ refusing w → Bad (suc n) (next ++ each line_feed more) w) →
        Bad n (line ++ each line_feed (next ∷ more)) why
    go (refusing w) l rest r q on =
        let same : refusal w.number n ≡ why = cc in rw (← same) (first_bad n line (next ∷ more) w (behind line (next ++ each line_feed more)) f g l)
    go (answered e) l (answered es) r q on = not_both q
    go (answered e) l (refusing w) r q on =
        let same : w ≡ why = cc in
        let b = on w r in rw (← same) (record {
          before = e ∷ b.before;
          rest = b.rest;
          plain = ((line_written line e l).1, b.plain);
          there = b.there;
          parts = ap (λ (s : List ℕ). line ++ (line_feed ∷ s)) b.parts
              ∙ ap (λ (l : List ℕ). l ++ (line_feed ∷ (text_of b.before ++ b.rest))) (line_written line e l).0
              ∙ sym (line_ends e (text_of b.before ++ b.rest)) ∙ sym (append_assoc (line_of e) (text_of b.before) b.rest);
          line_is = omega (arith, b.line_is);
          here = b.here;
          says = b.says;
          number_is = b.number_is;
        })

pub bad_text : (text : List ℕ) (why : Refusal) → spelled text ≡ refusing why → BadLine text why.number why.place
unfolding spelled said_from
bad_text text why q =
    let lines = split line_feed text in
    let frees = split_frees line_feed text in
    let b = lines_bad lines.more 1 lines.first why frees.0 frees.1 q in record {
      before = b.before;
      rest = b.rest;
      parts = sym (split_joined line_feed text) ∙ b.parts;
      well = text_read b.before b.plain 1;
      there = b.there;
      among = spelling_number text why q;
      line_is = omega (arith, b.line_is);
      here = b.here;
      says = b.says;
      number_is = b.number_is;
    }

-- a bad entry: those before it are an accepted table, or one and a 60 that waits
pub bad_entry : (text : List ℕ) (why : Refusal) → Own text why → BadEntry text why.number why.place
unfolding written marked last_of
bad_entry text why own =
    let es = own.entries in
    let plain = (text_written text es own.spells).1 in
    let begin = whole_open none (begins_row (written es)) none_whole in
    let b : FirstBad none es (refusal why.number own.at) = rw own.refuses at (ends es none begin plain) in
    let number : b.here.number ≡ why.number = sym (ap (λ (r : Refusal). r.number) b.is) in
    let front : written b.front ≡ encoded b.before = ap written (sym b.taken) in
    let at : own.at ≡ length (written b.front) + b.here.place = ap (λ (r : Refusal). r.place) b.is ∙ ap (λ
    (l : List ℕ). length l + b.here.place) (sym front) in
    let inside : b.here.place < size_of b.bad = omega (arith, refused_inside b.bad _ (tally_of b.before) b.here b.refuses, size b.bad) in
    let same : refusal b.here.number b.here.place ≡ refusal why.number b.here.place = ap (λ (n : ℕ). refusal n
    b.here.place) number in record {
      front = b.front;
      bad = b.bad;
      rest = b.rest;
      spells = own.spells ∙ ap answered b.parts;
      line_is = own.line ∙ ap (line_at es) at ∙ ap (λ (es : List Entry). line_at es (length (written b.front) + b.here.place)) b.parts
          ∙ line_of_place b.front b.bad b.rest b.here.place inside;
      among = rw number at (permitted_own b.bad _ (tally_of b.before) b.here b.refuses);
      before = b.before;
      stands = sym b.taken;
      reached = record { accepted = whole_accepted (settled b.before) b.stands.whole; awaits = b.stands.awaits };
      place = b.here.place;
      brings = b.refuses ∙ ap refusing same;
      refuses = ap (λ (es : List Entry). reading (written es)) (sym b.parts) ∙ own.refuses ∙ ap (λ (p : ℕ). refusing (refusal why.number p)) at;
    }

-- nor has one that is due the number 0
pub due_some : (text : List ℕ) (n line : ℕ) → DueText text n line → n ≡ 0 → ⊥
due_some text n line d z =
    ⊎_elim
    (λ b. never (sym (ap (is_among of_spelling) (sym z) ∙ b.among)))
    (⊎_elim
    (λ b. never (sym (ap (is_among of_entries) (sym z) ∙ b.among)))
    (λ h. omega (arith, h.0)))
    d

-- What the lines from a place of a text on say, by the line that begins there.
-- Assumes nothing.
use mathlib.Core.Path.{◌≡◌, refl, sym, ap, ◌∙◌}
use mathlib.Core.Bool.{Bool, true, false, cond, ◌&&◌}
use mathlib.Core.List.{List, [], ◌∷◌, map}
use Prim.Native.Nat.{ℕ, suc, ◌+◌, ◌≤◌, ◌<◌}
use native.Mathlib.Omega.{arith}
use native.Mathlib.Numerals.{add-one}
use lib.ListN.{length, drop, drop_of_length-le}
use lib.Dec.{eqb}
use Rattle.kinds.specs.declared.Kind.{Kind}
use Rattle.std.specs.Prelude.{Option, Some, None, Ok, Err}
use Rattle.entries.specs.declared.refusals.Refusal.{Refusal as Coded}
use Rattle.kinds.specs.Kinds.{form_of, is_row, of_row}
use Rattle.kinds.specs.Words.{kind_spelled}
use Rattle.entries.specs.declared.Entry.{Entry}
use Rattle.entries.specs.Said.{Refusal}
use Rattle.entries.specs.Refusals.{number_of, unknown_word, misspelt, of_spelling, is_among}
use Rattle.entries.specs.Said.{Said, answered, refusing, refusal, told, said as of_code, unless}
use Rattle.entries.proofs.Numbers.{by_order}
use Rattle.entries.proofs.Saying.{not_both}
use Rattle.kinds.proofs.Spelling.{word_some, no_word}
use Rattle.table.specs.Steps.{entry_of, begins_row}
use Rattle.table.specs.Contents.{written}
use Rattle.table.proofs.Writing.{begins_own}
use Rattle.text.specs.declared.lines.Line.{Line}
use Rattle.decimal.specs.Decimal.{value, too_large, well_spelled, space, line_feed}
use Rattle.entries.specs.Lists.{some, every}
use Rattle.text.specs.Texts.{Pieces, split, misspelling, line_by, line_says, on_line, last_says, lines_say, ended_by}
use Rattle.text.specs.Inner.{row_spelled, Found, line_from, line_found, said_from, turned, bad_from}
use Rattle.text.proofs.Splitting.{behind_some}
use Rattle.text.proofs.OneLine.{Plain, line_written, line_kind}
use Rattle.text.proofs.Scanning.{more_behind, line_whole, line_last}

-- at the end there is no line
pub no_line : (text : List ℕ) (at n : ℕ) → length text ≤ at → said_from n (drop at text) ≡ answered []
unfolding said_from split lines_say
no_line text at n l = rw (drop_of_length-le text l)

-- whether a row follows: nothing does at the end, and else the entry tells that the first line is read as
pub no_row : row_spelled [] ≡ false
unfolding row_spelled split
no_row = ap of_row (no_word [] (λ kind q. omega (arith, word_some kind, ap length q)))

row_of_line : (s : List ℕ) (e : Entry) → line_says (split line_feed s).first ≡ answered e → row_spelled s ≡ is_row e.kind
unfolding row_spelled
row_of_line s e q = ap of_row (line_kind (split line_feed s).first e q)

pub row_follows : (n : ℕ) (s : List ℕ) (es : List Entry) → said_from n s ≡ answered es → row_spelled s ≡ begins_row (written es)
unfolding said_from lines_say on_line written row_spelled split
row_follows n s es q = go (split line_feed s).first (split line_feed s).more refl q
  where
    go : (line : List ℕ) (more : List (List ℕ)) → (split line_feed s).first ≡ line → lines_say n line more ≡ answered es →
        row_spelled s ≡ begins_row (written es)
    go [] [] p q = let none : [] ≡ es = cc in rw (← none, p) no_row
    go (x ∷ line) [] p q = last (line_says (x ∷ line)) q
      where
        last : (said : Said Entry) → on_line n (ended_by [] said) (answered []) ≡ answered es → row_spelled s ≡ begins_row (written es)
        last (answered e) q = not_both (sym q)
        last (refusing why) q = not_both (sym q)
    go line (next ∷ more) p q = first (line_says line) refl (lines_say (suc n) next more) q
      where
        first : (said : Said Entry) → line_says line ≡ said → (rest : Said (List Entry)) → on_line n said rest ≡ answered es →
            row_spelled s ≡ begins_row (written es)
        first (answered e) l (answered fs) q =
            let all : e ∷ fs ≡ es = cc in
            rw (← all) (row_of_line s e (ap line_says p ∙ l) ∙ sym (begins_own e (written fs)))
        first (answered e) l (refusing why) q = not_both (sym q)
        first (refusing why) l rest q = not_both (sym q)

module _ (text : List ℕ) (at n : ℕ) (inside : at < length text) where
  abbrev lines : Pieces
  lines = split line_feed (drop at text)

  abbrev pub here : Found
  here = line_from at lines

  abbrev end : ℕ
  end = at + length lines.first

  -- one that ends with a line feed, and the lines behind it
  whole : end < length text → said_from n (drop at text) ≡ on_line n (line_says lines.first) (said_from (suc n) (drop (end + 1) text))
  unfolding said_from lines_say
  whole l = rw (more_behind text at end refl ∙ behind_some line_feed text end l, add-one end)

  -- one that misses it
  last : length text ≤ end → said_from n (drop at text) ≡ on_line n (ended_by [] (line_says lines.first)) (answered [])
  unfolding said_from lines_say
  last l = rw (more_behind text at end refl, drop_of_length-le text l) (some lines.first (omega (arith, l)))
    where
      some : (line : List ℕ) → 0 < length line → last_says n line ≡ on_line n (ended_by [] (line_says line)) (answered [])
      some [] h = absurd (omega arith)
      some (x ∷ line) h = refl

  -- a line that is spelled well, and a bad one
  pub record Good (e : Entry) : Type 0 where
    pub says : said_from n (drop at text) ≡ on_line n (answered e) (said_from (suc n) (drop here.next text))
    pub forth : at < here.next
    pub within : here.next ≤ length text
    pub plain : Plain e
    pub row : row_spelled (drop at text) ≡ is_row e.kind

  good_line : (e : Entry) → here.said ≡ answered e → Good e
  good_line e q =
      by_order end (length text)
      (λ l.
      let line = line_whole text at end refl l in
      let next = ap (λ (x : Found). x.next) line in
      let was : line_says lines.first ≡ answered e = sym (ap (λ (x : Found). x.said) line) ∙ q in record {
        says = whole l ∙ rw (was, next);
        forth = omega (arith, next);
        within = omega (arith, next, l);
        plain = (line_written lines.first e was).1;
        row = row_of_line (drop at text) e was;
      })
      (λ l. absurd (never_took (line_says lines.first) (sym (ap (λ (x : Found). x.said) (line_last text at end refl l)) ∙ q)))
    where
      never_took : (x : Said Entry) → ended_by [] x ≡ answered e → ⊥
      never_took (answered f) q = not_both (sym q)
      never_took (refusing why) q = not_both (sym q)

  bad_line : (why : Refusal) → here.said ≡ refusing why → said_from n (drop at text) ≡ refusing (refusal why.number n)
  unfolding on_line
  bad_line why q =
      by_order end (length text)
      (λ l.
      let was : line_says lines.first ≡ refusing why = sym (ap (λ (x : Found). x.said) (line_whole text at end refl l)) ∙ q in
      whole l ∙ rw was)
      (λ l.
      let was : ended_by [] (line_says lines.first) ≡ refusing why = sym (ap (λ (x : Found). x.said) (line_last text at end refl l)) ∙ q in
      last l ∙ rw was)

-- the same of the line that the code found at a place
module _ (text : List ℕ) (at n : ℕ) (inside : at < length text) (found : Line)
    (f : line_found found ≡ line_from at (split line_feed (drop at text))) where
  pub next_found : found.next ≡ (here text at n inside).next
  next_found = ap (λ (l : Found). l.next) f

  said_found : of_code found.said ≡ (here text at n inside).said
  said_found = ap (λ (l : Found). l.said) f

  pub good_found : (e : Entry) → found.said ≡ Ok e → Good text at n inside e
  good_found e q = good_line text at n inside e (sym said_found ∙ ap of_code q)

  pub bad_found : (why : Coded) → found.said ≡ Err why → said_from n (drop at text) ≡ refusing (refusal (number_of why.reason) n)
  bad_found why q = bad_line text at n inside (told why) (sym said_found ∙ ap of_code q)

  -- a line that is spelled well is passed, and the first bad line is behind it
  pub passed : (e : Entry) → found.said ≡ Ok e → (at < found.next) × (found.next ≤ length text)
  passed e q = let good = good_found e q in (omega (arith, good.forth, next_found), omega (arith, good.within, next_found))

  pub bad_behind : (e : Entry) → found.said ≡ Ok e → bad_from n (drop at text) ≡ bad_from (n + 1) (drop found.next text)
  unfolding on_line
  bad_behind e q = rw (next_found, add-one n) (ap turned (good_found e q).says ∙ go (said_from (suc n) (drop (here text at n inside).next text)))
    where
      go : (rest : Said (List Entry)) → turned (on_line n (answered e) rest) ≡ turned rest
      go (answered es) = refl
      go (refusing why) = refl

-- a refusal of a line is 12 or 13
abbrev pub IsSpelling : ℕ → Type 0
IsSpelling n = is_among of_spelling n ≡ true

line_number : (line : List ℕ) (why : Refusal) → line_says line ≡ refusing why → IsSpelling why.number
unfolding line_says misspelling
line_number line why q = go (kind_spelled (split space line).first) q
  where
    by : (kind : Kind) (large good : Bool) (x : Said Entry) → x ≡ answered (entry_of kind (map value (split space line).more)) →
        unless (cond large unknown_word (cond good 0 misspelt)) x ≡ refusing why → IsSpelling why.number
    by kind true good x e q = let same : refusal unknown_word 0 ≡ why = cc in rw (← same) refl
    by kind false true x e q = not_both (sym e ∙ q)
    by kind false false x e q = let same : refusal misspelt 0 ≡ why = cc in rw (← same) refl

    go : (a : Option Kind) → line_by a (split space line).more ≡ refusing why → IsSpelling why.number
    go None q = let same : refusal unknown_word 0 ≡ why = cc in rw (← same) refl
    go (Some kind) q =
        let ps = (split space line).more in
        by kind (some too_large ps) (eqb (length ps) (form_of kind).numbers && every well_spelled ps) (answered (entry_of kind (map value ps))) refl q

pub lines_number : (more : List (List ℕ)) (n : ℕ) (line : List ℕ) (why : Refusal) → lines_say n line more ≡ refusing why → IsSpelling why.number
unfolding lines_say on_line
lines_number [] n [] why q = not_both q
lines_number [] n (x ∷ line) why q = go (line_says (x ∷ line)) refl q
  where
    go : (said : Said Entry) → line_says (x ∷ line) ≡ said → on_line n (ended_by [] said) (answered []) ≡ refusing why → IsSpelling why.number
    go (answered e) s q = let same : refusal misspelt n ≡ why = cc in rw (← same) refl
    go (refusing w) s q = let same : refusal w.number n ≡ why = cc in rw (← same) (line_number (x ∷ line) w s)
lines_number (next ∷ more) n line why q = go (line_says line) refl (lines_say (suc n) next more) refl q (lines_number more (suc n) next)
  where
    go : (said : Said Entry) → line_says line ≡ said → (rest : Said (List Entry)) → lines_say (suc n) next more ≡ rest → on_line n said rest
        ≡ refusing why →
        ((w : Refusal) → lines_say (suc n) next more ≡ refusing w → IsSpelling w.number) → IsSpelling why.number
    go (answered e) s (answered es) r q on = not_both q
    go (answered e) s (refusing w) r q on = let same : w ≡ why = cc in rw (← same) (on w r)
    go (refusing w) s rest r q on = let same : refusal w.number n ≡ why = cc in rw (← same) (line_number line w s)

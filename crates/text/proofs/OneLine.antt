-- A line and its entry: an entry's line is read as the entry, and a line that is read as an entry is the entry's.
-- Assumes nothing.
use mathlib.Core.Path.{◌≡◌, refl, sym, ap, ap₂, ◌∙◌}
use mathlib.Core.Bool.{Bool, true, false, cond, not, ◌&&◌}
use mathlib.Core.List.{List, [], ◌∷◌, ◌++◌, map, append_assoc, append-nil}
use Prim.Native.Nat.{ℕ, zero, suc, ◌+◌, ◌≤◌, ◌<◌}
use native.Mathlib.Omega.{arith}
use lib.ListN.{length, get_or, take, length-append, length-map}
use lib.Seq.{take-length}
use lib.Dec.{eqb, ltb}
use borrow.Author.Tests.{eqb-true, eq-eqb, leb-false, lt-ltb}
use Rattle.belnap.proofs.Finite.{both_parts, neither}
use Rattle.kinds.specs.declared.Kind.{Kind}
use Rattle.std.specs.Prelude.{Option, Some, None}
use Rattle.kinds.specs.Kinds.{form_of}
use Rattle.kinds.specs.Words.{word_of, kind_spelled}
use Rattle.kinds.proofs.Spelling.{above, kind_of_word, word_of_kind, word_plain}
use Rattle.entries.specs.declared.Entry.{Entry}
use Rattle.entries.specs.Refusals.{unknown_word, misspelt}
use Rattle.entries.specs.Said.{answered}
use Rattle.entries.specs.Entries.{number_limit, numbers_of, numbers_in}
use Rattle.entries.proofs.OneEntry.{few, length_front}
use Rattle.entries.proofs.Saying.{not_both, unless_none, unless_answered}
use Rattle.table.specs.Steps.{number_at, entry_of}
use Rattle.table.specs.Whole.{Tidy}
use Rattle.table.proofs.Writing.{front_of, trim, number_front}
use Rattle.decimal.specs.Decimal.{is_digit, decimal, digits_alone, value, too_large, well_spelled, space, line_feed}
use Rattle.text.specs.Lines.{each, line_of}
use Rattle.entries.specs.Lists.{some, every}
use Rattle.text.specs.Texts.{Pieces, split, misspelling, line_by, line_says}
use Rattle.decimal.proofs.Numerals.{digit_of, decimal_alone, value_decimal, decimal_well, decimal_small, decimal_value}
use Rattle.text.proofs.Splitting.{split_joined, free, above_free, split_each}

-- an entry whose numbers are bytes, 0 where its kind has none
pub record Plain (e : Entry) : Type 0 where
  pub tidy : Tidy e
  pub first : e.a < number_limit
  pub second : e.b < number_limit

-- an entry's line without its line feed
abbrev pub line_body : Entry → List ℕ
line_body e = word_of e.kind ++ each space (map decimal (numbers_in e))

pub line_ends : (e : Entry) (s : List ℕ) → line_of e ++ s ≡ line_body e ++ (line_feed ∷ s)
unfolding line_of
line_ends e s = append_assoc (line_body e) (line_feed ∷ []) s

-- digits are no separators
alone_above : (p : List ℕ) → digits_alone p ≡ true → above space p ≡ true
alone_above [] a = refl
alone_above (x ∷ p) a =
    let parts = both_parts (is_digit x) (digits_alone p) a in
    rw (lt-ltb space x (omega (arith, (digit_of x parts.0).0)), alone_above p parts.1)

decimals_free : (sep : ℕ) → sep ≤ space → (ns : List ℕ) → every (free sep) (map decimal ns) ≡ true
decimals_free sep h [] = refl
decimals_free sep h (n ∷ ns) = rw (above_free sep space (decimal n) h (alone_above (decimal n) (decimal_alone n)), decimals_free sep h ns)

word_free : (sep : ℕ) → sep ≤ space → (kind : Kind) → free sep (word_of kind) ≡ true
word_free sep h kind = above_free sep space (word_of kind) h (word_plain kind)

-- nor does a line's body have a line feed
free_append : (sep : ℕ) (l m : List ℕ) → free sep l ≡ true → free sep m ≡ true → free sep (l ++ m) ≡ true
free_append sep [] m a b = b
free_append sep (x ∷ l) m a b =
    let parts = both_parts (not (eqb x sep)) (free sep l) a in
    rw (parts.0, free_append sep l m parts.1 b)

each_free : (ps : List (List ℕ)) → every (free line_feed) ps ≡ true → free line_feed (each space ps) ≡ true
each_free [] a = refl
each_free (p ∷ ps) a =
    let parts = both_parts (free line_feed p) (every (free line_feed) ps) a in
    free_append line_feed p (each space ps) parts.0 (each_free ps parts.1)

pub body_free : (e : Entry) → free line_feed (line_body e) ≡ true
body_free e =
    free_append line_feed (word_of e.kind) (each space (map decimal (numbers_in e))) (word_free line_feed (omega arith) e.kind)
    (each_free (map decimal (numbers_in e)) (decimals_free line_feed (omega arith) (numbers_in e)))

-- numbers as pieces: spelled well, none too large, and read back
pieces_well : (ns : List ℕ) → every well_spelled (map decimal ns) ≡ true
pieces_well [] = refl
pieces_well (n ∷ ns) = rw (decimal_well n, pieces_well ns)

pieces_back : (ns : List ℕ) → map value (map decimal ns) ≡ ns
pieces_back [] = refl
pieces_back (n ∷ ns) = ap₂ ◌∷◌ (value_decimal n) (pieces_back ns)

front_small : (n a b : ℕ) → n < 3 → a < number_limit → b < number_limit → some too_large (map decimal (take n (a ∷ b ∷ []))) ≡ false
front_small zero a b h p q = refl
front_small (suc zero) a b h p q = rw (decimal_small a p)
front_small (suc (suc zero)) a b h p q = rw (decimal_small a p, decimal_small b q)
front_small (suc (suc (suc n))) a b h p q = absurd (omega arith)

-- an entry from the numbers that it has
entry_back : (e : Entry) → Tidy e → entry_of e.kind (numbers_in e) ≡ e
entry_back e t =
    let n = number_front (numbers_of e) e.a e.b [] (few e.kind) in
    let all = append-nil (numbers_in e) in
    ap₂ (λ (a b : ℕ). record { kind = e.kind; a = a; b = b })
    (ap (number_at (numbers_of e) 0) (sym all) ∙ n.0 ∙ sym t.first) (ap (number_at (numbers_of e) 1) (sym all) ∙ n.1 ∙ sym t.second)

-- an entry's line is read as the entry
pub line_read : (e : Entry) → Plain e → line_says (line_body e) ≡ answered e
unfolding line_says misspelling
line_read e p =
    let kind = e.kind in
    let ns = numbers_in e in
    let cut = split_each space (word_of kind) (map decimal ns) (word_free space (omega arith) kind) (decimals_free space (omega arith) ns) in
    let count : length (map decimal ns) ≡ (form_of kind).numbers = length-map ns decimal ∙ length_front (numbers_of e) e.a e.b (few kind) in
    let good : misspelling kind (map decimal ns) ≡ 0 =
    rw (front_small (numbers_of e) e.a e.b (few kind) p.first p.second, eq-eqb _ _ count, pieces_well ns) in
    ap (λ (p : Pieces). line_by (kind_spelled p.first) p.more) cut
    ∙ ap (λ (a : Option Kind). line_by a (map decimal ns)) (kind_of_word kind)
    ∙ unless_none (misspelling kind (map decimal ns)) (answered (entry_of kind (map value (map decimal ns)))) good
    ∙ ap (λ (ns : List ℕ). answered (entry_of kind ns)) (pieces_back ns) ∙ ap answered (entry_back e p.tidy)

-- what a line without a misspelling has
record Spelt (kind : Kind) (ps : List (List ℕ)) : Type 0 where
  small : some too_large ps ≡ false
  count : length ps ≡ (form_of kind).numbers
  well : every well_spelled ps ≡ true

spelt : (kind : Kind) (ps : List (List ℕ)) → misspelling kind ps ≡ 0 → Spelt kind ps
unfolding misspelling
spelt kind ps h = go (some too_large ps) refl (eqb (length ps) (form_of kind).numbers && every well_spelled ps) refl h
  where
    go : (large : Bool) → some too_large ps ≡ large → (good : Bool) → (eqb (length ps) (form_of kind).numbers && every well_spelled ps) ≡ good →
        ◌≡◌ {A = ℕ} (cond large unknown_word (cond good 0 misspelt)) 0 → Spelt kind ps
    go true l good g h = absurd (omega arith)
    go false l false g h = absurd (omega arith)
    go false l true g h =
        let parts = both_parts (eqb (length ps) (form_of kind).numbers) (every well_spelled ps) g in
        record { small = l; count = eqb-true _ _ parts.0; well = parts.1 }

values_back : (ps : List (List ℕ)) → every well_spelled ps ≡ true → map decimal (map value ps) ≡ ps
values_back [] w = refl
values_back (p ∷ ps) w =
    let parts = both_parts (well_spelled p) (every well_spelled ps) w in
    ap₂ ◌∷◌ (decimal_value p parts.0) (values_back ps parts.1)

value_small : (p : List ℕ) → too_large p ≡ false → well_spelled p ≡ true → value p < number_limit
unfolding too_large well_spelled
value_small p h w = leb-false number_limit (value p) (rw (both_parts (digits_alone p) _ w).0 at h)

values_small : (ps : List (List ℕ)) → some too_large ps ≡ false → every well_spelled ps ≡ true →
    (i : ℕ) → get_or (map value ps) i 0 < number_limit
values_small [] h w i = omega arith
values_small (p ∷ ps) h w zero =
    value_small p (neither (too_large p) (some too_large ps) h).0 (both_parts (well_spelled p) (every well_spelled ps) w).0
values_small (p ∷ ps) h w (suc i) =
    values_small ps (neither (too_large p) (some too_large ps) h).1 (both_parts (well_spelled p) (every well_spelled ps) w).1 i

number_small : (n i : ℕ) (vs : List ℕ) → ((i : ℕ) → get_or vs i 0 < number_limit) → number_at n i vs < number_limit
number_small n i vs h = go (ltb i n)
  where
    go : (b : Bool) → cond b (get_or vs i 0) 0 < number_limit
    go true = h i
    go false = omega arith

-- a line that is read as an entry is the entry's
module _ (kind : Kind) (ps : List (List ℕ)) (h : Spelt kind ps) where
  abbrev read : Entry
  read = entry_of kind (map value ps)

  read_plain : Plain read
  read_plain =
      let n = (form_of kind).numbers in
      let small = values_small ps h.small h.well in record {
        tidy = record {
          first = trim (ltb 0 n) read.a (get_or (map value ps) 0 0) refl;
          second = trim (ltb 1 n) read.b (get_or (map value ps) 1 0) refl;
        };
        first = number_small n 0 (map value ps) small;
        second = number_small n 1 (map value ps) small;
      }

  read_numbers : numbers_in read ≡ map value ps
  read_numbers =
      let vs = map value ps in
      let n = (form_of kind).numbers in
      let count : length vs ≡ n = length-map ps value ∙ h.count in
      front_of n read.a read.b vs (few kind) (omega (arith, count)) refl refl ∙ ap (λ (n : ℕ). take n vs) (sym count) ∙ take-length vs

  read_pieces : map decimal (numbers_in read) ≡ ps
  read_pieces = ap (map decimal) read_numbers ∙ values_back ps h.well

pub line_written : (l : List ℕ) (e : Entry) → line_says l ≡ answered e → (l ≡ line_body e) × Plain e
unfolding line_says
line_written l e q = go (kind_spelled (split space l).first) refl q
  where
    go : (a : Option Kind) → kind_spelled (split space l).first ≡ a → line_by a (split space l).more ≡ answered e → (l ≡ line_body e) × Plain e
    go None k q = not_both (sym q)
    go (Some kind) k q =
        let ps = (split space l).more in
        let said = unless_answered (misspelling kind ps) (answered (entry_of kind (map value ps))) e q in
        let h = spelt kind ps said.0 in
        let one : entry_of kind (map value ps) ≡ e = cc said.1 in
        let body : l ≡ line_body (entry_of kind (map value ps)) =
        sym (split_joined space l) ∙ ap₂ (λ (w : List ℕ) (ps : List (List ℕ)). w ++ each space ps)
        (word_of_kind (split space l).first kind k) (sym (read_pieces kind ps h)) in
        rw (← one) (body, read_plain kind ps h)

-- and its word is that of the entry's kind
pub line_kind : (l : List ℕ) (e : Entry) → line_says l ≡ answered e → kind_spelled (split space l).first ≡ Some e.kind
unfolding line_says
line_kind l e q = go (kind_spelled (split space l).first) q
  where
    go : (a : Option Kind) → line_by a (split space l).more ≡ answered e → a ≡ Some e.kind
    go None q = not_both (sym q)
    go (Some kind) q =
        let ps = (split space l).more in
        let said = unless_answered (misspelling kind ps) (answered (entry_of kind (map value ps))) e q in
        let one : entry_of kind (map value ps) ≡ e = cc said.1 in
        ap (λ (e : Entry). Some e.kind) one

-- an entry's numbers with a space before each
abbrev pub numbers_text : Entry → List ℕ
numbers_text e = each space (map decimal (numbers_in e))

-- where there are two of them
module _ (e : Entry) where
  abbrev front : ℕ → List ℕ
  front n = each space (map decimal (take n (e.a ∷ e.b ∷ [])))

  pub two_numbers : (numbers_of e ≡ 0 → ⊥) → (numbers_of e ≡ 1 → ⊥) →
      numbers_text e ≡ each space (decimal e.a ∷ []) ++ each space (decimal e.b ∷ [])
  two_numbers h k =
      let two : numbers_of e ≡ 2 = omega (arith, h, k, few e.kind) in
      ap front two ∙ ap (λ (l : List ℕ). space ∷ (l ++ each space (decimal e.b ∷ []))) (sym (append-nil (decimal e.a)))

-- how long a line is
pub line_long : (e : Entry) → length (line_of e) ≡ length (word_of e.kind) + length (numbers_text e) + 1
unfolding line_of
line_long e = length-append (line_body e) (line_feed ∷ []) ∙ ap (λ (n : ℕ). n + 1) (length-append (word_of e.kind) (numbers_text e))

-- A table and its text: the text of entries is read as these entries, a text that is read is theirs, and a bad line speaks for itself.
-- Assumes nothing.
use mathlib.Core.Path.{◌≡◌, refl, sym, ap, ap₂, ◌∙◌}
use mathlib.Core.Bool.{Bool, true, false, cond}
use mathlib.Core.List.{List, [], ◌∷◌, ◌++◌, append-nil}
use Prim.Native.Nat.{ℕ, suc, ◌+◌, ◌≤◌, ◌<◌}
use native.Mathlib.Omega.{arith}
use lib.ListN.{length}
use lib.Dec.{ltb, eqb}
use borrow.Author.Tests.{le-ltb}
use Rattle.belnap.proofs.Finite.{both_parts}
use Rattle.kinds.specs.declared.Kind.{Kind}
use Rattle.kinds.specs.declared.Names.{Names}
use Rattle.kinds.specs.declared.Names.TheVariants.{Nothing, Predicates, Rows, Questions, Suppliers}
use Rattle.kinds.specs.Kinds.{is_row, is_question, is_constraint}
use Rattle.entries.specs.declared.Entry.{Entry}
use Rattle.entries.specs.Said.{Said, answered, refusing}
use Rattle.entries.specs.Entries.{number_limit, numbers_of, names_of}
use Rattle.entries.proofs.Numbers.{by_order}
use Rattle.entries.proofs.Saying.{not_both}
use Rattle.table.specs.declared.steps.Tally.{Tally}
use Rattle.table.specs.Steps.{tally, limit, named_at, fits}
use Rattle.table.specs.Suppliers.{no_supplier, supplying, change, marked}
use Rattle.table.specs.Contents.{Contents, last_supplier, entries}
use Rattle.table.specs.Whole.{Sound, Each, Whole, SupplierAt}
use Rattle.table.proofs.Permission.{fits_below}
use Rattle.table.proofs.Marking.{unchanged}
use Rattle.decimal.specs.Decimal.{line_feed}
use Rattle.text.specs.Lines.{each, text_of}
use Rattle.text.specs.Texts.{Pieces, split, line_says, on_line, lines_say, spelled, ended_by}
use Rattle.text.specs.Inner.{said_from}
use Rattle.text.proofs.Splitting.{split_joined, split_next}
use Rattle.text.proofs.OneLine.{Plain, line_body, line_ends, body_free, line_read, line_written}
use Rattle.text.proofs.Judging.{Plainly, plainly_append}

-- the text of entries is read as these entries, whatever the number of the first line
pub text_read : (es : List Entry) → Plainly es → (n : ℕ) → said_from n (text_of es) ≡ answered es
unfolding said_from text_of lines_say on_line split
text_read [] p n = refl
text_read (e ∷ es) p n =
    ap (λ (l : List ℕ). let lines = split line_feed l in lines_say n lines.first lines.more) (line_ends e (text_of es))
    ∙ ap (λ (q : Pieces). lines_say n q.first q.more) (split_next line_feed (line_body e) (text_of es) (body_free e))
    ∙ rw (line_read e p.0, text_read es p.1 (suc n))

-- a text that is read is that of the entries that it is read as
pub lines_written : (more : List (List ℕ)) (n : ℕ) (line : List ℕ) (es : List Entry) → lines_say n line more ≡ answered es →
    (line ++ each line_feed more ≡ text_of es) × Plainly es
unfolding lines_say on_line text_of
lines_written [] n [] es q = let none : [] ≡ es = cc in rw (← none) (refl, tt)
lines_written [] n (x ∷ line) es q = go (line_says (x ∷ line)) q
  where
    go : {P : Type 0} (said : Said Entry) → on_line n (ended_by [] said) (answered []) ≡ answered es → P
    go (answered e) q = not_both (sym q)
    go (refusing why) q = not_both (sym q)
lines_written (next ∷ more) n line es q = go (line_says line) refl (lines_say (suc n) next more) refl q (lines_written more (suc n) next)
  where
    go : (said : Said Entry) → line_says line ≡ said → (rest : Said (List Entry)) → lines_say (suc n) next more ≡ rest → on_line n said rest
        ≡ answered es →
        ((fs : List Entry) → lines_say (suc n) next more ≡ answered fs → (next ++ each line_feed more ≡ text_of fs) × Plainly fs) →
        (line ++ (line_feed ∷ next ++ each line_feed more) ≡ text_of es) × Plainly es
    go (answered e) l (answered fs) r q on =
        let one = line_written line e l in
        let others = on fs r in
        let all : e ∷ fs ≡ es = cc in
        rw (← all) (
          ap₂ (λ (line rest : List ℕ). line ++ (line_feed ∷ rest)) one.0 others.0 ∙ sym (line_ends e (text_of fs)),
          (one.1, others.1),
        )
    go (answered e) l (refusing why) r q on = not_both (sym q)
    go (refusing why) l rest r q on = not_both (sym q)

pub text_written : (s : List ℕ) (es : List Entry) → spelled s ≡ answered es → (s ≡ text_of es) × Plainly es
unfolding spelled
text_written s es q =
    let lines = split line_feed s in
    let w = lines_written lines.more 1 lines.first es q in
    (sym (split_joined line_feed s) ∙ w.0, w.1)

-- the entries of a whole table are plain: each number is below its limit, and no limit is above 256
limit_low : (names : Names) (before : Tally) → before.rows ≤ number_limit → before.questions ≤ number_limit → limit names before ≤ number_limit
limit_low Nothing before r q = omega arith
limit_low Predicates before r q = omega arith
limit_low Rows before r q = r
limit_low Questions before r q = q
limit_low Suppliers before r q = omega arith

number_low : (n below i x y : ℕ) → below ≤ number_limit → named_at n below i x ≡ true → x ≡ cond (ltb i n) y 0 → x < number_limit
number_low n below i x y h f t =
    by_order i n
    (λ l. omega (arith, fits_below n below i x f l))
    (λ l. let none : x ≡ 0 = t ∙ rw (le-ltb i n l) in omega arith)

sound_plain : (part : Kind → Bool) (before : Tally) (e : Entry) → before.rows ≤ number_limit → before.questions ≤ number_limit →
    Sound part before e → Plain e
sound_plain part before e r q s =
    let n = numbers_of e in
    let below = limit (names_of e) before in
    let low = limit_low (names_of e) before r q in
    let parts = both_parts (fits e before 0 e.a) (fits e before 1 e.b) s.names in record {
      tidy = s.tidy;
      first = number_low n below 0 e.a e.a low parts.0 s.tidy.first;
      second = number_low n below 1 e.b e.b low parts.1 s.tidy.second;
    }

each_plain : (part : Kind → Bool) (before : ℕ → Tally) (i : ℕ) (es : List Entry) →
    ((j : ℕ) → j < i + length es → ((before j).rows ≤ number_limit) × ((before j).questions ≤ number_limit)) →
    Each (λ j e. Sound part (before j) e) i es → Plainly es
each_plain part before i [] low h = tt
each_plain part before i (e ∷ es) low h =
    let here = low i (omega arith) in (
      sound_plain part (before i) e here.0 here.1 h.0,
      each_plain part before (suc i) es (λ j l. low j (omega arith)) h.1,
    )

supplier_plain : (s : ℕ) → s < number_limit → Plain (supplying s)
supplier_plain s h = record { tidy = record { first = refl; second = refl }; first = h; second = omega arith }

change_plain : (force s : ℕ) → s < number_limit → Plainly (change force s)
change_plain force s h = go (eqb s force)
  where
    go : (same : Bool) → Plainly (cond same [] (supplying s ∷ []))
    go true = tt
    go false = (supplier_plain s h, tt)

marked_plain : (i force : ℕ) (ss : List ℕ) (es : List Entry) → Each SupplierAt i ss → Plainly es → Plainly (marked force ss es)
unfolding marked
marked_plain i force ss [] h p = tt
marked_plain i force [] (e ∷ es) h p = (p.0, marked_plain i force [] es h p.1)
marked_plain i force (s ∷ ss) (e ∷ es) h p =
    plainly_append (change force s) (e ∷ marked s ss es) (change_plain force s h.0) (p.0, marked_plain (suc i) s ss es h.1 p.1)

pub whole_plain : (c : Contents) → Whole c → Plainly (entries c)
whole_plain c w =
    let n = length c.constraints in
    let constraints = each_plain is_constraint (λ i. tally i 0 0) 0 c.constraints (λ j l. (omega arith, omega arith)) w.constraints_sound in
    let rows = each_plain is_row (λ i. tally n i 0) 0 c.rows (λ j l. (omega (arith, w.rows_fit), omega arith)) w.rows_sound in
    let questions =
    each_plain is_question (λ j. tally n (length c.rows) j) 0 c.questions (λ j l. (w.rows_fit, omega (arith, w.questions_fit))) w.questions_sound in
    let none : change (last_supplier c) c.supplier ≡ [] = unchanged (last_supplier c) c.supplier w.settles in
    let all = marked no_supplier c.suppliers c.rows in
    rw (none, append-nil all) (plainly_append c.constraints (all ++ c.questions) constraints
    (plainly_append all c.questions (marked_plain 0 no_supplier c.suppliers c.rows w.suppliers_sound rows) questions))

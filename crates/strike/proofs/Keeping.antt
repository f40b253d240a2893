-- The heart of striking (the letter's second demand): once a row is struck, every remaining row decides as before under its new number, and has the same
-- set under all known facts; every question is true at the same requests, has the same sets, and gets the same verdict, request and count with every budget.
-- Nothing needs repair by hand: striking is a renaming of the rows that are left, which keeps what each of them names.
-- Assumes nothing.
use mathlib.Core.Path.{◌≡◌, sym, ap, ◌∙◌}
use mathlib.Core.Bool.{true, false}
use mathlib.Core.Logic.{inl, inr}
use Prim.Native.Nat.{ℕ, ◌<◌}
use lib.ListN.{length, get_or, get_or-eq_default}
use Rattle.belnap.proofs.Finite.{never}
use Rattle.entries.specs.declared.Entry.{Entry}
use Rattle.entries.specs.Entries.{blank}
use Rattle.table.specs.Contents.{Contents, predicates}
use Rattle.entries.specs.Renaming.{names_row}
use Rattle.entries.proofs.Numbers.{by_order}
use Rattle.table.proofs.Writing.{each_get, Whole, RowAt, QuestionAt}
use Rattle.walk.proofs.Answers.{bounded}
use Rattle.table.proofs.Renaming.{first_below, second_below}
use Rattle.decide.specs.Meaning.{decision}
use Rattle.decide.proofs.Renaming.{Named, Renames, decision_kept}
use Rattle.possible.specs.Possible.{possible}
use Rattle.possible.proofs.Renaming.{possible_kept}
use Rattle.questions.specs.Questions.{truth, truth_set}
use Rattle.walk.specs.Walk.{walk, reply_of}
use Rattle.questions.proofs.Renaming.{Asked, Follows, truth_kept as truth_renamed, truths_kept as truths_renamed}
use Rattle.walk.proofs.Renaming.{walk_kept as walk_renamed}
use Rattle.strike.specs.Strike.{lower, lowered, struck, names, in_use}
use Rattle.strike.proofs.Renumbering.{old_lower, lower_apart, lower_still}
use Rattle.strike.proofs.Closing.{first_other, second_other}
use Rattle.suppliers.specs.Suppliers.{supplier_at, suppliers_of}
use Rattle.suppliers.proofs.Laws.{suppliers_kept}
use Rattle.strike.proofs.Laws.{struck_at, struck_question_at, struck_supplier_at, struck_predicates, unnamed_row, unnamed_question}

-- the rows that are left
abbrev pub Left : ℕ → ℕ → Type 0
Left r i = i ≡ r → ⊥

-- a table that is whole, and whose row r nothing names
module _ (c : Contents) (r : ℕ) (w : Whole c) (unnamed : in_use r c ≡ false) where
  abbrev bound : ℕ
  bound = length c.constraints

  abbrev row : ℕ → Entry
  row i = get_or c.rows i blank

  abbrev question : ℕ → Entry
  question j = get_or c.questions j blank

  -- what is known of row i where it names a row; past the end no row is named
  row_names : {P : Type 0} (place i : ℕ) → names_row place (row i) ≡ true → (RowAt bound i (row i) → names r (row i) ≡ false → P) → P
  row_names place i t k =
      by_order i (length c.rows)
      (λ l. k (each_get (RowAt bound) c.rows blank w.rows_sound i l) (unnamed_row r c unnamed i l))
      (λ l. never (sym (rw (get_or-eq_default c.rows blank l) at t)))

  named : (i x : ℕ) → Left r i → x < i → Left r x → Named (lower r) (Left r) i x
  named i x k l o = record { kept = o; lower = l; still = lower_still r x i o k l }

  rows_renamed : Renames (lower r) (Left r) c.rows (struck r c).rows
  rows_renamed = record {
    stands = λ i k. record {
      there = struck_at r c (lower r i) ∙ ap (λ (j : ℕ). lowered r (get_or c.rows j blank)) (old_lower r i k);
      first = λ t. row_names 0 i t (λ s n. named i (row i).a k (first_below (row i) s t) (first_other r (row i) n t));
      second = λ t. row_names 1 i t (λ s n. named i (row i).b k (second_below (row i) s t) (second_other r (row i) n t));
    };
    apart = lower_apart r;
  }

  question_asked : (j : ℕ) → Asked (question j)
  question_asked j =
      by_order j (length c.questions)
      (λ l. inl (each_get (QuestionAt bound (length c.rows)) c.questions blank w.questions_sound j l).in_part)
      (λ l. inr (get_or-eq_default c.questions blank l))

  questions_follow : Follows (lower r) (Left r) c.questions (struck r c).questions
  questions_follow = record {
    stands = struck_question_at r c;
    asked = question_asked;
    first = λ j t. first_other r (question j) (unnamed_question r c unnamed j) t;
    second = λ j t. second_other r (question j) (unnamed_question r c unnamed j) t;
  }

  -- "Once a row is struck, every remaining row decides as before under its new number", and has the sets it had
  pub decides_as_before : (m i : ℕ) → Left r i → decision (struck r c).rows m (lower r i) ≡ decision c.rows m i
  decides_as_before = decision_kept rows_renamed

  pub possible_as_before : (known request i : ℕ) → Left r i → possible (struck r c).rows known request (lower r i) ≡ possible c.rows known request i
  possible_as_before = possible_kept rows_renamed

  -- and the supplier and the list of suppliers that it had (02, L6)
  pub supplier_as_before : (i : ℕ) → Left r i → supplier_at (struck r c).suppliers (lower r i) ≡ supplier_at c.suppliers i
  supplier_as_before i k = struck_supplier_at r c (lower r i) ∙ ap (supplier_at c.suppliers) (old_lower r i k)

  pub list_as_before : (i : ℕ) → Left r i →
      suppliers_of (struck r c).rows (struck r c).suppliers (lower r i) ≡ suppliers_of c.rows c.suppliers i
  list_as_before = suppliers_kept rows_renamed c.suppliers (struck r c).suppliers supplier_as_before

  pub truth_kept : (m j : ℕ) → truth (struck r c).rows (struck r c).questions m j ≡ truth c.rows c.questions m j
  truth_kept = truth_renamed rows_renamed questions_follow

  pub truths_kept : (known request j : ℕ) →
      truth_set (struck r c).rows (struck r c).questions known request j ≡ truth_set c.rows c.questions known request j
  truths_kept = truths_renamed rows_renamed questions_follow

  -- every question gets the same verdict, request and count with every budget, though n may be smaller now
  pub walk_kept : (j : ℕ) →
      walk (struck r c).constraints (struck r c).rows (struck r c).questions (predicates (struck r c)) j
      ≡ walk c.constraints c.rows c.questions (predicates c) j
  walk_kept =
      walk_renamed rows_renamed questions_follow c.constraints (predicates (struck r c))
      (bounded (struck r c) w.constraints_sound) (predicates c) (struck_predicates r c)

  pub verdict_kept : (j budget : ℕ) →
      reply_of budget (walk (struck r c).constraints (struck r c).rows (struck r c).questions (predicates (struck r c)) j)
      ≡ reply_of budget (walk c.constraints c.rows c.questions (predicates c) j)
  verdict_kept j budget = ap (reply_of budget) (walk_kept j)

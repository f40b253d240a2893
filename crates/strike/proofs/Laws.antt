-- What striking a row leaves: a table that reading accepts, with one row fewer (01, "Taking one entry, and striking a row"),
-- and an output that goes by the answer.
-- Assumes nothing.
use mathlib.Core.Path.{◌≡◌, refl, sym, ap, ◌∙◌}
use mathlib.Core.Bool.{false}
use mathlib.Core.List.{List}
use Prim.Native.Nat.{ℕ, suc, ◌+◌, ◌≤◌, ◌<◌}
use native.Mathlib.Omega.{arith}
use lib.ListN.{length, get_or, length-append, length-map, get_or-append, get_or-eq_default}
use lib.Seq.{get_or-append-add}
use Rattle.entries.specs.Said.{Said, answered}
use Rattle.kinds.specs.Kinds.{is_row, is_question}
use Rattle.entries.specs.Entries.{blank}
use Rattle.table.specs.Steps.{tally}
use Rattle.table.specs.Suppliers.{no_supplier}
use Rattle.table.specs.Contents.{Contents, predicates, others}
use Rattle.table.specs.Reading.{reading}
use Rattle.table.proofs.Writing.{Each, each_get, each_of, Whole, of_accepted, whole_accepted, RowAt, SupplierAt, QuestionAt}
use Rattle.strike.specs.Strike.{old, lowered, struck, struck_bytes, names, in_use, struck_answer, output_by, struck_output}
use Rattle.strike.proofs.Renumbering.{lower_lt, old_above, old_lt, without_at, length_without}
use Rattle.strike.proofs.Closing.{lowered_sound, closed_at, lowered_at, length_closed, closed_highest}
use Rattle.strike.proofs.Closing.{unnamed_above}
use Rattle.entries.proofs.Lists.{none_at, nowhere, none_append}
use Rattle.entries.proofs.Numbers.{by_order}

-- row j is the row with its old number, its numbers lowered; question j is question j, its row numbers lowered
pub struck_at : (r : ℕ) (c : Contents) (j : ℕ) → get_or (struck r c).rows j blank ≡ lowered r (get_or c.rows (old r j) blank)
struck_at r c j = closed_at r c.rows j

pub struck_question_at : (r : ℕ) (c : Contents) (j : ℕ) → get_or (struck r c).questions j blank ≡ lowered r (get_or c.questions j blank)
struck_question_at r c j = lowered_at r c.questions j

-- one row fewer, the same number of questions, and n no larger
pub struck_rows : (r : ℕ) (c : Contents) → r < length c.rows → suc (length (struck r c).rows) ≡ length c.rows
struck_rows r c h = length_closed r c.rows h

pub struck_questions : (r : ℕ) (c : Contents) → length (struck r c).questions ≡ length c.questions
struck_questions r c = length-map c.questions (lowered r)

pub struck_predicates : (r : ℕ) (c : Contents) → predicates (struck r c) ≤ predicates c
struck_predicates r c = omega (arith, closed_highest r c.rows)

-- row j has the supplier that it had, and there are as many as rows
pub struck_supplier_at : (r : ℕ) (c : Contents) (j : ℕ) → get_or (struck r c).suppliers j no_supplier ≡ get_or c.suppliers (old r j) no_supplier
struck_supplier_at r c j = without_at r c.suppliers j no_supplier

pub struck_each : (r : ℕ) (c : Contents) → length c.suppliers ≡ length c.rows → r < length c.rows →
    length (struck r c).suppliers ≡ length (struck r c).rows
struck_each r c many h = omega (arith, length_without r c.suppliers (rw many h), struck_rows r c h)

-- no row and no question of a table names r
pub unnamed_row : (r : ℕ) (c : Contents) → in_use r c ≡ false → (i : ℕ) → i < length c.rows → names r (get_or c.rows i blank) ≡ false
unfolding in_use
unnamed_row r c n i l =
    ap (names r) (sym (get_or-append c.rows c.questions blank i l))
    ∙ none_at (names r) (others c) blank n i (omega (arith, length-append c.rows c.questions))

pub unnamed_question : (r : ℕ) (c : Contents) → in_use r c ≡ false → (j : ℕ) → names r (get_or c.questions j blank) ≡ false
unfolding in_use
unnamed_question r c n j =
    by_order j (length c.questions)
    (λ l. ap (names r) (sym (get_or-append-add c.rows c.questions j blank))
    ∙ none_at (names r) (others c) blank n (length c.rows + j) (omega (arith, length-append c.rows c.questions)))
    (λ l. ap (names r) (get_or-eq_default c.questions blank l))

-- a table whose row r is there and is named nowhere
module _ (r : ℕ) (c : Contents) (w : Whole c) (h : r < length c.rows) (n : in_use r c ≡ false) where
  abbrev bound : ℕ
  bound = length c.constraints

  rows_left : Each (RowAt bound) 0 (struck r c).rows
  rows_left =
      each_of (RowAt bound) 0 (struck r c).rows blank
      (λ j l.
      let z : 0 + j ≡ j = omega arith in
      let o : old r j < length c.rows = omega (arith, struck_rows r c h, old_lt r j (length (struck r c).rows) (omega (arith, struck_rows r c h)) l) in
      rw (z, struck_at r c j)
      (lowered_sound r (get_or c.rows (old r j) blank) (unnamed_row r c n (old r j) o) is_row bound (old r j) j 0 (λ x k m. lower_lt r x j m k)
      (each_get (RowAt bound) c.rows blank w.rows_sound (old r j) o)))

  questions_left : Each (QuestionAt bound (length (struck r c).rows)) 0 (struck r c).questions
  questions_left =
      let m = length (struck r c).rows in
      let top : old r m ≡ length c.rows = old_above r m (omega (arith, struck_rows r c h)) ∙ struck_rows r c h in
      each_of (QuestionAt bound m) 0 (struck r c).questions blank
      (λ j l.
      let z : 0 + j ≡ j = omega arith in
      rw (z, struck_question_at r c j)
      (lowered_sound r (get_or c.questions j blank) (unnamed_question r c n j) is_question bound (length c.rows) m j
      (λ x k q. lower_lt r x m q (rw top k))
      (each_get (QuestionAt bound (length c.rows)) c.questions blank w.questions_sound j (rw (struck_questions r c) at l))))

  suppliers_left : Each SupplierAt 0 (struck r c).suppliers
  suppliers_left =
      each_of SupplierAt 0 (struck r c).suppliers no_supplier
      (λ j l.
      let few = length_without r c.suppliers (omega (arith, w.suppliers_fit)) in
      let o : old r j < length c.suppliers =
      omega (arith, few, old_lt r j (length (struck r c).suppliers) (omega (arith, few, w.suppliers_fit)) l) in
      rw (without_at r c.suppliers j no_supplier) (each_get SupplierAt c.suppliers no_supplier w.suppliers_sound (old r j) o))

  pub struck_whole : Whole (struck r c)
  struck_whole = record {
    constraints_fit = w.constraints_fit;
    rows_fit = omega (arith, struck_rows r c h, w.rows_fit);
    questions_fit = omega (arith, struck_questions r c, w.questions_fit);
    constraints_sound = w.constraints_sound;
    rows_sound = rows_left;
    suppliers_fit = struck_each r c w.suppliers_fit h;
    suppliers_sound = suppliers_left;
    settles = refl;
    questions_sound = questions_left;
  }

-- reading accepts the struck table's bytes, and they are the struck table
pub struck_accepted : (s : List ℕ) (r : ℕ) (c : Contents) → reading s ≡ answered c → r < length c.rows → in_use r c ≡ false →
    reading (struck_bytes r c) ≡ answered (struck r c)
struck_accepted s r c q h n = whole_accepted (struck r c) (struck_whole r c (of_accepted s c q).0 h n)

-- a row that is not there is named nowhere: 8 and 9 are never both due
pub unnamed_missing : (r : ℕ) (c : Contents) → Whole c → length c.rows ≤ r → in_use r c ≡ false
unfolding in_use
unnamed_missing r c w h =
    let n = length c.constraints in
    let row = each_get (RowAt n) c.rows blank w.rows_sound in
    let question = each_get (QuestionAt n (length c.rows)) c.questions blank w.questions_sound in
    none_append (names r) c.rows c.questions
    (nowhere (names r) c.rows blank (λ i l. unnamed_above (tally n i 0) r (omega arith) (get_or c.rows i blank) (row i l)))
    ∙ nowhere (names r) c.questions blank (λ j l. unnamed_above (tally n (length c.rows) j) r h (get_or c.questions j blank) (question j l))

-- the output goes by the answer
pub output_of : (c : Contents) (r : ℕ) (out : List ℕ) (a : Said ℕ) → struck_answer (answered c) r (length out) ≡ a →
    struck_output (answered c) r out ≡ output_by a (struck_bytes r c) out
unfolding struck_output
output_of c r out a q = ap (λ (a : Said ℕ). output_by a (struck_bytes r c) out) q

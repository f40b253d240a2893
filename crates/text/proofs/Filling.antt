-- A text as the code writes it, line by line.
-- Assumes nothing.
use mathlib.Core.Path.{◌≡◌, refl, sym, ap, ◌∙◌}
use mathlib.Core.List.{List, [], ◌∷◌, ◌++◌, append_assoc, append-nil}
use Prim.Native.Nat.{ℕ, zero, suc, ◌+◌, ◌≤◌, ◌<◌}
use native.Mathlib.Omega.{arith}
use lib.ListN.{length, get_or, take, drop, take-append-drop}
use lib.Seq.{take-suc}
use native.Mathlib.Numerals.{add-one}
use Rattle.entries.specs.declared.Entry.{Entry}
use Rattle.entries.specs.Entries.{blank}
use Rattle.table.specs.declared.Table.{Table}
use Rattle.table.specs.Suppliers.{no_supplier, supplying, change, marked}
use Rattle.table.specs.Contents.{last_supplier, ruled}
use Rattle.table.specs.Reading.{first_of, contents_in, Full, held}
use Rattle.table.proofs.Marking.{unchanged, changed, force_at, marked_to, marked_from, marked_more, marked_parts}
use Rattle.text.specs.Lines.{line_of, text_of}

text_append : (es fs : List Entry) → text_of (es ++ fs) ≡ text_of es ++ text_of fs
unfolding text_of
text_append [] fs = refl
text_append (e ∷ es) fs = ap (λ (l : List ℕ). line_of e ++ l) (text_append es fs) ∙ sym (append_assoc (line_of e) (text_of es) (text_of fs))

-- a row's lines: its own, behind that of a supplier where that changes
pub same_lines : (force s : ℕ) (e : Entry) → s ≡ force → text_of (change force s ++ (e ∷ [])) ≡ line_of e
unfolding text_of
same_lines force s e q = rw (unchanged force s q) (append-nil (line_of e))

pub other_lines : (force s : ℕ) (e : Entry) → (s ≡ force → ⊥) → text_of (change force s ++ (e ∷ [])) ≡ line_of (supplying s) ++ line_of e
unfolding text_of
other_lines force s e h = rw (changed force s h) (ap (λ (l : List ℕ). line_of (supplying s) ++ l) (append-nil (line_of e)))

-- the lines of the first entries, with one more; and what is left behind it
module _ (es : List Entry) (i : ℕ) (here : i < length es) where
  pub text_next : text_of (take (i + 1) es) ≡ text_of (take i es) ++ line_of (get_or es i blank)
  unfolding text_of
  text_next =
      rw (add-one i, take-suc es i blank here)
      (text_append (take i es) (get_or es i blank ∷ []) ∙ ap (λ (l : List ℕ). text_of (take i es) ++ l) (append-nil (line_of (get_or es i blank))))

  pub text_left : text_of es ≡ (text_of (take i es) ++ line_of (get_or es i blank)) ++ text_of (drop (i + 1) es)
  text_left =
      ap text_of (sym (take-append-drop (i + 1) es)) ∙ text_append (take (i + 1) es) (drop (i + 1) es)
      ∙ ap (λ (l : List ℕ). l ++ text_of (drop (i + 1) es)) text_next

-- and of rows, with those of their suppliers
abbrev pub rows_to : List ℕ → List Entry → ℕ → List ℕ
rows_to ss es i = text_of (marked no_supplier (take i ss) (take i es))

module _ (ss : List ℕ) (es : List Entry) (many : length ss ≡ length es) (i s force : ℕ) (e : Entry) (here : i < length es)
    (in_force : force ≡ force_at ss i) (owner : s ≡ get_or ss i no_supplier) (next : e ≡ get_or es i blank) where
  pub rows_next : rows_to ss es (i + 1) ≡ rows_to ss es i ++ text_of (change force s ++ (e ∷ []))
  rows_next =
      ap text_of (marked_more ss es many i s force e here in_force owner next)
      ∙ text_append (marked_to ss es many i) (change force s ++ (e ∷ []))

  pub rows_left : text_of (marked no_supplier ss es)
      ≡ (rows_to ss es i ++ text_of (change force s ++ (e ∷ []))) ++ text_of (marked_from ss es many (i + 1))
  rows_left =
      ap text_of (marked_parts ss es many (i + 1) (omega (arith, here)))
      ∙ text_append (marked_to ss es many (i + 1)) (marked_from ss es many (i + 1))
      ∙ ap (λ (l : List ℕ). l ++ text_of (marked_from ss es many (i + 1))) rows_next

-- the first n of a longer list
pub first_taken : {A : Type 0} (z : A) (l : List A) (n : ℕ) → n ≤ length l → first_of z l n ≡ take n l
unfolding first_of
first_taken z l zero h = refl
first_taken z l (suc n) h = rw (first_taken z l n (omega (arith, h)), take-suc l n z (omega (arith, h)))

-- a table's text: the lines of its constraints, of its rows with those of their suppliers, and of its questions
module _ (t : Table) (full : Full t) where
  abbrev pub constraints : List Entry
  constraints = take t.tally.constraints t.constraints

  abbrev pub rows : List Entry
  rows = marked no_supplier (take t.tally.rows t.suppliers) (take t.tally.rows t.rows)

  abbrev pub questions : List Entry
  questions = take t.tally.questions t.questions

  pub table_text : text_of (held t) ≡ (text_of constraints ++ text_of rows) ++ text_of questions
  table_text =
      let c = contents_in t in
      let plain : ruled c ≡ marked no_supplier c.suppliers c.rows =
      rw (unchanged (last_supplier c) c.supplier refl) (append-nil (marked no_supplier c.suppliers c.rows)) in
      let all = text_append c.constraints (ruled c ++ c.questions)
      ∙ ap (λ (l : List ℕ). text_of c.constraints ++ l) (text_append (ruled c) c.questions
      ∙ ap (λ (r : List Entry). text_of r ++ text_of c.questions) plain)
      ∙ sym (append_assoc (text_of c.constraints) (text_of (marked no_supplier c.suppliers c.rows)) (text_of c.questions)) in
      rw (
        ← first_taken blank t.constraints t.tally.constraints (omega (arith, full.fits.bound_fit, full.constraints_long)),
        ← first_taken blank t.rows t.tally.rows (omega (arith, full.fits.used_fit, full.rows_long)),
        ← first_taken no_supplier t.suppliers t.tally.rows (omega (arith, full.fits.used_fit, full.suppliers_long)),
        ← first_taken blank t.questions t.tally.questions (omega (arith, full.fits.asked_fit, full.questions_long)),
      ) all

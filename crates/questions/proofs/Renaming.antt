-- Questions over rows under new numbers: they are true at the same requests and have the same sets (the letter's second demand; decide/proofs/Renaming.antt).
-- Assumes nothing.
use mathlib.Core.Path.{◌≡◌, refl, sym, ap, ap₂, ◌∙◌}
use mathlib.Core.Bool.{Bool, true, false, cond}
use mathlib.Core.List.{List}
use mathlib.Core.Logic.{◌⊎◌, ⊎_elim}
use Prim.Native.Nat.{ℕ}
use lib.Dec.{eqb}
use lib.ListN.{get_or}
use Rattle.belnap.proofs.Finite.{never}
use Rattle.kinds.specs.declared.QuestionKind.{QuestionKind}
use Rattle.kinds.specs.declared.QuestionKind.TheVariants.{Compare, Not, Both}
use Rattle.kinds.specs.declared.Kind.{Kind}
use Rattle.kinds.specs.declared.Kind.TheVariants.{Row, Question, Constraint, Supplier}
use Rattle.entries.specs.declared.Entry.{Entry}
use Rattle.kinds.specs.Kinds.{is_question, as_question}
use Rattle.entries.specs.Entries.{blank, equal_numbers}
use Rattle.entries.specs.Renaming.{names_row, renamed}
use Rattle.entries.proofs.Numbers.{by_order}
use Rattle.decide.specs.Rows.{values, value_at}
use Rattle.decide.specs.Meaning.{decision}
use Rattle.decide.proofs.RowByRow.{by_rows, before_there, before_past}
use Rattle.decide.proofs.Renaming.{OneToOne, equal_still, Renames, decision_kept}
use Rattle.possible.specs.Sets.{single}
use Rattle.possible.specs.Possible.{possible}
use Rattle.possible.proofs.Renaming.{possible_kept}
use Rattle.questions.specs.Questions.{truth_by, truth, truth_set_by, truth_set}

-- a question's value comes from those of the rows that it compares, or else from those of the questions that it asks, and from whether its numbers are equal
abbrev compares : QuestionKind → Bool
compares (Compare o) = true
compares Not = false
compares Both = false

abbrev Answers : {A B : Type 0} → (QuestionKind → Bool → B → B → A → A → A) → Type 0
Answers {A} {B} f =
    (k : QuestionKind) (equal other : Bool) (s t p q : B) (x y u v : A) → equal ≡ other → (compares k ≡ true → (s ≡ p) × (t ≡ q)) →
    (compares k ≡ false → (x ≡ u) × (y ≡ v)) → f k equal s t x y ≡ f k other p q u v

truth_answers : Answers (λ k equal. truth_by k)
truth_answers (Compare o) equal other s t p q x y u v same rows asked = rw ((rows refl).0, (rows refl).1)
truth_answers Not equal other s t p q x y u v same rows asked = rw (asked refl).0
truth_answers Both equal other s t p q x y u v same rows asked = rw ((asked refl).0, (asked refl).1)

set_answers : Answers truth_set_by
unfolding truth_set_by
set_answers (Compare o) equal other s t p q x y u v same rows asked = rw (same, (rows refl).0, (rows refl).1)
set_answers Not equal other s t p q x y u v same rows asked = rw (asked refl).0
set_answers Both equal other s t p q x y u v same rows asked = rw (same, (asked refl).0, (asked refl).1)

-- a question, or what stands past the last one
abbrev pub Asked : Entry → Type 0
Asked e = (is_question e.kind ≡ true) ⊎ (e ≡ blank)

-- its numbers are row numbers, or question numbers, which stay
rows_named : (e : Entry) → Asked e → compares (as_question e.kind) ≡ true → (names_row 0 e ≡ true) × (names_row 1 e ≡ true)
rows_named e = ⊎_elim (λ q c. go e.kind e.a e.b q c) (λ q c. never (sym (rw q at c)))
  where
    go : (k : Kind) (a b : ℕ) → is_question k ≡ true → compares (as_question k) ≡ true →
        (names_row 0 (record { kind = k; a = a; b = b }) ≡ true) × (names_row 1 (record { kind = k; a = a; b = b }) ≡ true)
    go (Row k) a b q c = never (sym q)
    go (Question (Compare o)) a b q c = (refl, refl)
    go (Question Not) a b q c = never (sym c)
    go (Question Both) a b q c = never (sym c)
    go (Constraint k) a b q c = never (sym q)
    go Supplier a b q c = never (sym q)

numbers_stay : (new : ℕ → ℕ) (e : Entry) → Asked e → compares (as_question e.kind) ≡ false →
    ((renamed new e).a ≡ e.a) × ((renamed new e).b ≡ e.b)
numbers_stay new e = ⊎_elim (λ q c. go e.kind e.a e.b q c) (λ q c. rw q (refl, refl))
  where
    go : (k : Kind) (a b : ℕ) → is_question k ≡ true → compares (as_question k) ≡ false →
        ((renamed new (record { kind = k; a = a; b = b })).a ≡ a) × ((renamed new (record { kind = k; a = a; b = b })).b ≡ b)
    go (Row k) a b q c = never (sym q)
    go (Question (Compare o)) a b q c = never c
    go (Question Not) a b q c = (refl, refl)
    go (Question Both) a b q c = (refl, refl)
    go (Constraint k) a b q c = never (sym q)
    go Supplier a b q c = never (sym q)

-- questions that name rows which are kept, under their new numbers
pub record Follows (new : ℕ → ℕ) (Kept : ℕ → Type 0) (questions fresh : List Entry) : Type 0 where
  pub stands : (j : ℕ) → get_or fresh j blank ≡ renamed new (get_or questions j blank)
  pub asked : (j : ℕ) → Asked (get_or questions j blank)
  pub first : (j : ℕ) → names_row 0 (get_or questions j blank) ≡ true → Kept (get_or questions j blank).a
  pub second : (j : ℕ) → names_row 1 (get_or questions j blank) ≡ true → Kept (get_or questions j blank).b

-- a question's numbers are equal afterwards exactly if they were before
equal_asked : {new : ℕ → ℕ} {Kept : ℕ → Type 0} {questions fresh : List Entry} → OneToOne new Kept → Follows new Kept questions fresh →
    (j : ℕ) → equal_numbers (renamed new (get_or questions j blank)) ≡ equal_numbers (get_or questions j blank)
equal_asked {new} {questions = questions} apart w j = go (compares (as_question e.kind)) refl
  where
    e : Entry
    e = get_or questions j blank

    go : (b : Bool) → compares (as_question e.kind) ≡ b → equal_numbers (renamed new e) ≡ equal_numbers e
    go true c = let n = rows_named e (w.asked j) c in equal_still apart e n.0 n.1 (w.first j n.0) (w.second j n.1)
    go false c = let n = numbers_stay new e (w.asked j) c in ap₂ eqb n.0 n.1

-- every question has the value it had, if the rows have theirs
module _ {new : ℕ → ℕ} {Kept : ℕ → Type 0} {questions fresh : List Entry} (apart : OneToOne new Kept) (w : Follows new Kept questions fresh)
    {A B : Type 0} (f : QuestionKind → Bool → B → B → A → A → A) (z : A) (answers : Answers f) (g h : ℕ → B)
    (rows-kept : (x : ℕ) → Kept x → g (new x) ≡ h x) where
  abbrev after : Entry → A → A → A
  after e x y = f (as_question e.kind) (equal_numbers e) (g e.a) (g e.b) x y

  abbrev before : Entry → A → A → A
  before e x y = f (as_question e.kind) (equal_numbers e) (h e.a) (h e.b) x y

  question_kept : (j : ℕ) → value_at after z fresh j ≡ value_at before z questions j
  unfolding value_at
  question_kept = by_rows (λ j. value_at after z fresh j ≡ value_at before z questions j) (λ j ih.
      let e = get_or questions j blank in
      let row : (x : ℕ) (b : Bool) → b ≡ true → Kept x → g (cond b (new x) x) ≡ h x =
      λ x b t k. ap (λ (b : Bool). g (cond b (new x) x)) t ∙ rows-kept x k in
      let question : (x y : ℕ) → y ≡ x → get_or (values after z fresh j) y z ≡ get_or (values before z questions j) x z =
      λ x y q. ap (λ (y : ℕ). get_or (values after z fresh j) y z) q ∙ by_order x j
      (λ l. before_there after z fresh j x l ∙ ih x l ∙ sym (before_there before z questions j x l))
      (λ l. before_past after z fresh j x l ∙ sym (before_past before z questions j x l)) in
      ap (λ (d : Entry). after d (get_or (values after z fresh j) d.a z) (get_or (values after z fresh j) d.b z)) (w.stands j)
      ∙ answers (as_question e.kind) _ _ _ _ _ _ _ _ _ _ (equal_asked apart w j)
      (λ c. let n = rows_named e (w.asked j) c in
      (row e.a (names_row 0 e) n.0 (w.first j n.0), row e.b (names_row 1 e) n.1 (w.second j n.1)))
      (λ c. let n = numbers_stay new e (w.asked j) c in (question e.a (renamed new e).a n.0, question e.b (renamed new e).b n.1)))

-- the questions of a table whose rows got new numbers
module _ {new : ℕ → ℕ} {Kept : ℕ → Type 0} {rows others questions asked : List Entry}
    (r : Renames new Kept rows others) (w : Follows new Kept questions asked) where
  pub truth_kept : (m j : ℕ) → truth others asked m j ≡ truth rows questions m j
  truth_kept m = question_kept r.apart w (λ k equal. truth_by k) true truth_answers (decision others m) (decision rows m) (decision_kept r m)

  pub truths_kept : (known request j : ℕ) → truth_set others asked known request j ≡ truth_set rows questions known request j
  truths_kept known request =
      question_kept r.apart w truth_set_by (single true) set_answers (possible others known request) (possible rows known request)
      (possible_kept r known request)

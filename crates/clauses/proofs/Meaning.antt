-- What the clauses of an accepted table mean: an assignment satisfies them exactly if it says of each row what that decides, and of each question whether
-- it is true, at the request that it says, and that request keeps each constraint (02, L7).
-- Assumes nothing.
use mathlib.Core.Path.{◌≡◌, refl, sym, ap, ap₂, ◌∙◌}
use mathlib.Core.Bool.{Bool, true, false, not, ◌&&◌, ◌||◌}
use mathlib.Core.List.{List, [], ◌∷◌, ◌++◌}
use Prim.Native.Nat.{ℕ, zero, suc, ◌+◌, ◌≤◌, ◌<◌}
use native.Mathlib.Omega.{arith}
use native.Mathlib.Nat.{zero-add}
use lib.ListN.{length, get_or}
use lib.Dec.{ltb}
use borrow.Author.Tests.{ltb-true, not-true}
use Rattle.belnap.specs.declared.Decision.{Decision}
use Rattle.belnap.specs.declared.Decision.TheVariants.{U}
use Rattle.belnap.specs.Decisions.{grants, denies, claiming, alike, same}
use Rattle.belnap.specs.Orders.{at_or_below}
use Rattle.belnap.proofs.Finite.{never, both_parts, claimed, alike_is, alike_itself, same_is, same_itself}
use Rattle.kinds.specs.declared.Kind.{Kind}
use Rattle.kinds.specs.declared.Kind.TheVariants.{Row, Question, Constraint, Supplier}
use Rattle.kinds.specs.declared.QuestionKind.{QuestionKind}
use Rattle.kinds.specs.declared.QuestionKind.TheVariants.{Compare, Not, Both}
use Rattle.kinds.specs.Kinds.{form_of, is_row, is_constraint, as_row}
use Rattle.entries.specs.declared.Entry.{Entry}
use Rattle.entries.specs.Said.{answered}
use Rattle.entries.specs.Lists.{every}
use Rattle.entries.specs.Entries.{blank, used_by}
use Rattle.entries.proofs.Lists.{every_append}
use Rattle.table.specs.Contents.{Contents, highest, predicates}
use Rattle.table.specs.Reading.{reading}
use Rattle.table.specs.Whole.{Each, ConstraintAt, QuestionAt}
use Rattle.table.proofs.Laws.{row_sound, question_sound, row_uses, constraint_uses, covered}
use Rattle.table.proofs.Renaming.{first_below, second_below}
use Rattle.table.proofs.Writing.{of_accepted}
use Rattle.decide.specs.Rows.{values, value_at}
use Rattle.decide.specs.Meaning.{bit, decides, decision}
use Rattle.decide.proofs.RowByRow.{by_rows, before_there}
use Rattle.decide.proofs.Renaming.{decisions_come}
use Rattle.decide.proofs.Rules.{by_named, by_rule}
use Rattle.questions.specs.Questions.{truth_by, asks, truth}
use Rattle.constraints.specs.Constraints.{keeps, kept_by, within}
use Rattle.clauses.specs.declared.Literal.{Literal}
use Rattle.clauses.specs.declared.Layout.{Layout}
use Rattle.clauses.specs.Clauses.{satisfies_one, satisfies}
use Rattle.clauses.specs.Variables.{claims_at, truth_at, entry_clauses, clauses_from, false_clause, layout_of, negation_of}
use Rattle.clauses.proofs.Saying.{row_says_lem, question_says, constraint_says}

-- clauses one behind the other
pub satisfies_append : (A : ℕ → Bool) (l m : List (List Literal)) → satisfies A (l ++ m) ≡ (satisfies A l && satisfies A m)
satisfies_append A = every_append (satisfies_one A)

-- the clauses of entries are satisfied exactly if those of each are
module _ (A : ℕ → Bool) (layout : Layout) where
  abbrev pub Satisfied : ℕ → Entry → Type 0
  Satisfied i e = satisfies A (entry_clauses layout i e) ≡ true

  pub each_entry : (i : ℕ) (es : List Entry) → satisfies A (clauses_from layout i es) ≡ true → (k : ℕ) → k < length es → Satisfied (i + k) (get_or es k blank)
  unfolding clauses_from
  each_entry i [] h k l = absurd (omega arith)
  each_entry i (e ∷ es) h k l = go k l (λ j m. each_entry (suc i) es both.1 j m)
    where
      both : (satisfies A (entry_clauses layout i e) ≡ true) × (satisfies A (clauses_from layout (suc i) es) ≡ true)
      both = both_parts _ _ (sym (satisfies_append A (entry_clauses layout i e) (clauses_from layout (suc i) es)) ∙ h)

      go : (k : ℕ) → k < suc (length es) → ((j : ℕ) → j < length es → Satisfied (suc i + j) (get_or es j blank)) → Satisfied (i + k) (get_or (e ∷ es) k blank)
      go zero l on = let q : i + 0 ≡ i = omega arith in rw q both.0
      go (suc j) l on = let q : i + suc j ≡ suc i + j = omega arith in rw q (on j (omega arith))

  pub all_entries : (i : ℕ) (es : List Entry) → ((k : ℕ) → k < length es → Satisfied (i + k) (get_or es k blank)) →
      satisfies A (clauses_from layout i es) ≡ true
  unfolding clauses_from
  all_entries i [] h = refl
  all_entries i (e ∷ es) h =
      let none : i + 0 ≡ i = omega arith in
      satisfies_append A (entry_clauses layout i e) (clauses_from layout (suc i) es)
      ∙ ap₂ ◌&&◌ (rw none at (h 0 (omega arith))) (all_entries (suc i) es (λ k l. let q : suc i + k ≡ i + suc k = omega arith in
      rw q (h (suc k) (omega arith))))

-- an accepted table, and an assignment that says yes to the predicates of a request
module _ (s : List ℕ) (c : Contents) (is : reading s ≡ answered c) (A : ℕ → Bool) (m : ℕ) (bits : (p : ℕ) → p < predicates c → A (p + 1) ≡ bit m p) where
  abbrev layout : Layout
  layout = layout_of c

  -- what it says of a row, and of a question
  abbrev pub heard : ℕ → Decision
  heard r = claiming (A (claims_at layout r).grants.variable) (A (claims_at layout r).denies.variable)

  abbrev pub said : ℕ → Bool
  said j = A (truth_at layout j).variable

  claim : (x : ℕ) → let l = claims_at layout x in
      (grants (heard x) ≡ A l.grants.variable) × (denies (heard x) ≡ A l.denies.variable)
  claim x = claimed (A (claims_at layout x).grants.variable) (A (claims_at layout x).denies.variable)

  -- a row's clauses, and a question's: it says what follows from what it says of the rest
  row_clauses : (r : ℕ) (kind : Kind) (a b : ℕ) → is_row kind ≡ true → used_by (form_of (Row (as_row kind))).names a ≤ predicates c →
      let e : Entry = record { kind = kind; a = a; b = b } in
      satisfies A (entry_clauses layout r e) ≡ same (heard r) (decides m e (heard a) (heard b))
  row_clauses r (Row k) a b h u =
      row_says_lem A _ _ _ _ _ _ (heard r) (heard a) (heard b) (sym (claim r).0) (sym (claim r).1) (sym (claim a).0) (sym (claim a).1) (sym (claim b).0)
      (sym (claim b).1) k (a + 1) a m (predicates c) u (bits a)
  row_clauses r (Question k) a b h u = never (sym h)
  row_clauses r (Constraint k) a b h u = never (sym h)
  row_clauses r Supplier a b h u = never (sym h)

  question_clauses : (j : ℕ) (k : QuestionKind) (a b : ℕ) →
      satisfies A (entry_clauses layout j (record { kind = Question k; a = a; b = b })) ≡ alike (said j) (truth_by k (heard a) (heard b) (said a) (said b))
  question_clauses j k a b =
      let own = claimed (said j) (said j) in
      question_says A _ _ _ _ _ _ (claiming (said j) (said j)) (heard a) (heard b) (sym own.0) (sym own.1) (sym (claim a).0) (sym (claim a).1)
      (sym (claim b).0) (sym (claim b).1) k _ _

  -- of a row it says what that decides, if it does so of the lower ones
  row_at : (r : ℕ) → r < length c.rows → ((x : ℕ) → x < r → heard x ≡ decision c.rows m x) →
      satisfies A (entry_clauses layout r (get_or c.rows r blank)) ≡ same (heard r) (decision c.rows m r)
  row_at r there lower =
      let e = get_or c.rows r blank in
      let d : ℕ → Decision = decision c.rows m in
      row_clauses r e.kind e.a e.b (row_sound s c is r there).in_part (omega (arith, row_uses e, covered c r))
      ∙ ap (same (heard r)) (by_named s c is r there (decides m) (decisions_come m) (heard e.a) (heard e.b) (d e.a) (d e.b) (lower e.a)
      (lower e.b) ∙ sym (by_rule s c is r there (decides m) (decisions_come m) U))

  -- of a question whether it is true, if it does so of the lower ones and of the rows
  abbrev Rows : Type 0
  Rows = (x : ℕ) → x < length c.rows → heard x ≡ decision c.rows m x

  question_at : (j : ℕ) → j < length c.questions → Rows → ((x : ℕ) → x < j → said x ≡ truth c.rows c.questions m x) →
      satisfies A (entry_clauses layout j (get_or c.questions j blank)) ≡ alike (said j) (truth c.rows c.questions m j)
  unfolding value_at
  question_at j there rows lower =
      let e = get_or c.questions j blank in
      go e.kind e.a e.b (question_sound s c is j there)
    where
      earlier : ℕ → Bool
      earlier x = get_or (values (asks c.rows m) true c.questions j) x true

      before : (x : ℕ) → x < j → said x ≡ earlier x
      before x h = lower x h ∙ sym (before_there (asks c.rows m) true c.questions j x h)

      go : (kind : Kind) (a b : ℕ) →
          let e : Entry = record { kind = kind; a = a; b = b } in
          QuestionAt (length c.constraints) (length c.rows) j e →
          satisfies A (entry_clauses layout j e) ≡ alike (said j) (asks c.rows m e (earlier a) (earlier b))
      go (Question (Compare o)) a b h =
          question_clauses j (Compare o) a b
          ∙ ap (alike (said j)) (ap₂ (at_or_below o) (rows a (first_below _ h refl)) (rows b (second_below _ h refl)))
      go (Question Not) a b h =
          let l = ltb-true a j (both_parts (ltb a j) true h.names).0 in
          question_clauses j Not a b ∙ ap (alike (said j)) (ap not (before a l))
      go (Question Both) a b h =
          let l = both_parts (ltb a j) (ltb b j) h.names in
          question_clauses j Both a b ∙ ap (alike (said j)) (ap₂ ◌&&◌ (before a (ltb-true a j l.0)) (before b (ltb-true b j l.1)))
      go (Row k) a b h = never (sym h.in_part)
      go (Constraint k) a b h = never (sym h.in_part)
      go Supplier a b h = never (sym h.in_part)

  -- the constraints: that the request keeps them
  constraint_clauses : (i : ℕ) (kind : Kind) (a b : ℕ) → is_constraint kind ≡ true → a < predicates c → b < predicates c →
      let e : Entry = record { kind = kind; a = a; b = b } in
      satisfies A (entry_clauses layout i e) ≡ kept_by m e
  constraint_clauses i (Constraint k) a b h l g = constraint_says A k (a + 1) (b + 1) ∙ ap₂ (keeps k) (bits a l) (bits b g)
  constraint_clauses i (Row k) a b h l g = never (sym h)
  constraint_clauses i (Question k) a b h l g = never (sym h)
  constraint_clauses i Supplier a b h l g = never (sym h)

  constraints_at : (i : ℕ) (es : List Entry) → Each ConstraintAt i es → highest es ≤ predicates c →
      satisfies A (clauses_from layout i es) ≡ every (kept_by m) es
  unfolding clauses_from highest
  constraints_at i [] h l = refl
  constraints_at i (e ∷ es) h l =
      let used = constraint_uses e h.0.in_part in
      satisfies_append A (entry_clauses layout i e) (clauses_from layout (suc i) es)
      ∙ ap₂ ◌&&◌ (constraint_clauses i e.kind e.a e.b h.0.in_part (omega (arith, used, l)) (omega (arith, used, l)))
      (constraints_at (suc i) es h.1 (omega arith))

  constraints_say : satisfies A (clauses_from layout 0 c.constraints) ≡ within c.constraints m
  unfolding within
  constraints_say = constraints_at 0 c.constraints (of_accepted s c is).0.constraints_sound (omega arith)

  -- the whole: the constraints, the rows, the questions, and the last clause
  module _ (q : ℕ) (asked : q < length c.questions) where
    abbrev Agrees : Type 0
    Agrees = Rows × ((x : ℕ) → x < length c.questions → said x ≡ truth c.rows c.questions m x)

    all_parts : satisfies A (negation_of c q) ≡ (within c.constraints m && (satisfies A (clauses_from layout 0 c.rows) &&
        (satisfies A (clauses_from layout 0 c.questions) && not (said q))))
    unfolding negation_of
    all_parts =
        let rows = clauses_from layout 0 c.rows in
        let questions = clauses_from layout 0 c.questions in
        let last = false_clause layout q ∷ [] in
        satisfies_append A (clauses_from layout 0 c.constraints) (rows ++ (questions ++ last))
        ∙ ap₂ ◌&&◌ constraints_say (satisfies_append A rows (questions ++ last) ∙ ap (λ (p : Bool). satisfies A rows && p)
        (satisfies_append A questions last ∙ ap (λ (p : Bool). satisfies A questions && p) (alone (said q))))
      where
        alone : (t : Bool) → ((alike false t || false) && true) ≡ not t
        alone true = refl
        alone false = refl

    -- an assignment that satisfies them agrees with the request, which is within the constraints and breaks the question
    pub satisfied_means : satisfies A (negation_of c q) ≡ true → (within c.constraints m ≡ true) × (truth c.rows c.questions m q ≡ false)
    satisfied_means h =
        let parts = both_parts (within c.constraints m) _ (sym all_parts ∙ h) in
        let more = both_parts (satisfies A (clauses_from layout 0 c.rows)) _ parts.1 in
        let last = both_parts (satisfies A (clauses_from layout 0 c.questions)) (not (said q)) more.1 in
        (parts.0, sym (questions (rows more.0) last.0 q asked) ∙ not-true (said q) last.1)
      where
        rows : satisfies A (clauses_from layout 0 c.rows) ≡ true → Rows
        rows h = by_rows (λ r. r < length c.rows → heard r ≡ decision c.rows m r) (λ r ih l.
            same_is (heard r) (decision c.rows m r) (sym (row_at r l (λ x k. ih x k (omega arith)))
            ∙ (rw (zero-add r) at (each_entry A layout 0 c.rows h r l))))

        questions : Rows → satisfies A (clauses_from layout 0 c.questions) ≡ true → (x : ℕ) → x < length c.questions →
            said x ≡ truth c.rows c.questions m x
        questions rows h = by_rows (λ j. j < length c.questions → said j ≡ truth c.rows c.questions m j) (λ j ih l.
            alike_is (said j) (truth c.rows c.questions m j)
            (sym (question_at j l rows (λ x k. ih x k (omega arith))) ∙ (rw (zero-add j) at (each_entry A layout 0 c.questions h j l))))

    -- and one that agrees with such a request satisfies them
    pub agreeing_satisfies : Agrees → within c.constraints m ≡ true → truth c.rows c.questions m q ≡ false → satisfies A (negation_of c q) ≡ true
    agreeing_satisfies agrees inside breaks =
        all_parts ∙ ap₂ ◌&&◌ inside (ap₂ ◌&&◌ rows (ap₂ ◌&&◌ questions (ap not (agrees.1 q asked ∙ breaks))))
      where
        rows : satisfies A (clauses_from layout 0 c.rows) ≡ true
        rows = all_entries A layout 0 c.rows (λ r l. rw (zero-add r) (row_at r l (λ x k. agrees.0 x (omega arith))
            ∙ ap (λ (v : Decision). same v (decision c.rows m r)) (agrees.0 r l) ∙ same_itself (decision c.rows m r)))

        questions : satisfies A (clauses_from layout 0 c.questions) ≡ true
        questions = all_entries A layout 0 c.questions (λ j l. rw (zero-add j) (question_at j l agrees.0 (λ x k. agrees.1 x (omega arith))
            ∙ ap (λ (t : Bool). alike t (truth c.rows c.questions m j)) (agrees.1 j l) ∙ alike_itself (truth c.rows c.questions m j)))

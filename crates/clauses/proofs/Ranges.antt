-- Each literal of the clauses is a variable of the table, or its negation: a variable from 1 to V.
-- Assumes nothing.
use mathlib.Core.Path.{◌≡◌, refl, sym, ap₂, ◌∙◌}
use mathlib.Core.Bool.{Bool, true, ◌&&◌}
use mathlib.Core.List.{List, [], ◌∷◌, ◌++◌}
use Prim.Native.Nat.{ℕ, suc, ◌+◌, ◌*◌, ◌≤◌, ◌<◌}
use native.Mathlib.Omega.{arith}
use native.Mathlib.Nat.{zero-add}
use lib.ListN.{length, get_or}
use lib.Dec.{leb, ltb}
use borrow.Author.Tests.{le-leb, ltb-true}
use Rattle.belnap.specs.declared.Decision.TheVariants.{U, D, G, C}
use Rattle.belnap.specs.declared.orders.Order.TheVariants.{Truth, Knowledge}
use Rattle.belnap.proofs.Finite.{never, both_parts}
use Rattle.operators.specs.declared.OneRow.TheVariants.{Negation, Conflation, ClosedDefault, OpenDefault}
use Rattle.operators.specs.declared.TwoRow.TheVariants.{TruthMeet, TruthJoin, KnowledgeMeet, KnowledgeJoin, Implication}
use Rattle.operators.specs.declared.TwoRow.TheVariants.{Guard, OverrideU, OverrideD, OverrideG, OverrideC}
use Rattle.kinds.specs.declared.RowKind.{RowKind}
use Rattle.kinds.specs.declared.RowKind.TheVariants.{Always, DenyIf, GrantIf, One, Two}
use Rattle.kinds.specs.declared.QuestionKind.TheVariants.{Compare, Not, Both}
use Rattle.kinds.specs.declared.ConstraintKind.TheVariants.{NeverBoth, OnlyIf}
use Rattle.kinds.specs.declared.Kind.{Kind}
use Rattle.kinds.specs.declared.Kind.TheVariants.{Row, Question, Constraint, Supplier}
use Rattle.kinds.specs.Kinds.{is_constraint}
use Rattle.entries.specs.declared.Entry.{Entry}
use Rattle.entries.specs.Said.{answered}
use Rattle.entries.specs.Lists.{every}
use Rattle.entries.specs.Entries.{blank, uses}
use Rattle.entries.specs.Renaming.{names_row}
use Rattle.entries.proofs.Lists.{every_append}
use Rattle.table.specs.Contents.{Contents, predicates}
use Rattle.table.specs.Reading.{reading}
use Rattle.table.specs.Whole.{RowAt, QuestionAt}
use Rattle.table.proofs.Laws.{constraint_sound, row_sound, question_sound, constraint_uses, covered, constraints_covered}
use Rattle.table.proofs.Renaming.{first_below, second_below}
use Rattle.clauses.specs.declared.Literal.{Literal}
use Rattle.clauses.specs.declared.Layout.{Layout}
use Rattle.clauses.specs.Clauses.{in_range}
use Rattle.clauses.specs.Rules.{row_rules, spelled}
use Rattle.clauses.specs.Variables.{yes, entry_clauses, clauses_from, false_clause, layout_of, variables_of, negation_of}
use Rattle.clauses.proofs.Saying.{claims}

-- a row's literals, by those of the rows and the predicate that it names
module _ (ok : ℕ → Bool) where
  abbrev all : List (List Literal) → Bool
  all = every (every (λ l. ok l.variable))

  row_range : (k : RowKind) (a b p g d gx dx gy dy : ℕ) →
      let e : Entry = record { kind = Row k; a = a; b = b } in
      ok g ≡ true → ok d ≡ true → (a < uses e → ok p ≡ true) → (names_row 0 e ≡ true → (ok gx ≡ true) × (ok dx ≡ true)) →
      (names_row 1 e ≡ true → (ok gy ≡ true) × (ok dy ≡ true)) →
      all (spelled (row_rules k (yes p) (claims g d) (claims gx dx) (claims gy dy))) ≡ true
  row_range (Always U) a b p g d gx dx gy dy hg hd hp hx hy = rw (hg, hd)
  row_range (Always D) a b p g d gx dx gy dy hg hd hp hx hy = rw (hg, hd)
  row_range (Always G) a b p g d gx dx gy dy hg hd hp hx hy = rw (hg, hd)
  row_range (Always C) a b p g d gx dx gy dy hg hd hp hx hy = rw (hg, hd)
  row_range DenyIf a b p g d gx dx gy dy hg hd hp hx hy = rw (hg, hd, hp (omega arith))
  row_range GrantIf a b p g d gx dx gy dy hg hd hp hx hy = rw (hg, hd, hp (omega arith))
  row_range (One Negation) a b p g d gx dx gy dy hg hd hp hx hy = rw (hg, hd, (hx refl).0, (hx refl).1)
  row_range (One Conflation) a b p g d gx dx gy dy hg hd hp hx hy = rw (hg, hd, (hx refl).0, (hx refl).1)
  row_range (One ClosedDefault) a b p g d gx dx gy dy hg hd hp hx hy = rw (hg, hd, (hx refl).0, (hx refl).1)
  row_range (One OpenDefault) a b p g d gx dx gy dy hg hd hp hx hy = rw (hg, hd, (hx refl).0, (hx refl).1)
  row_range (Two TruthMeet) a b p g d gx dx gy dy hg hd hp hx hy = rw (hg, hd, (hx refl).0, (hx refl).1, (hy refl).0, (hy refl).1)
  row_range (Two TruthJoin) a b p g d gx dx gy dy hg hd hp hx hy = rw (hg, hd, (hx refl).0, (hx refl).1, (hy refl).0, (hy refl).1)
  row_range (Two KnowledgeMeet) a b p g d gx dx gy dy hg hd hp hx hy = rw (hg, hd, (hx refl).0, (hx refl).1, (hy refl).0, (hy refl).1)
  row_range (Two KnowledgeJoin) a b p g d gx dx gy dy hg hd hp hx hy = rw (hg, hd, (hx refl).0, (hx refl).1, (hy refl).0, (hy refl).1)
  row_range (Two Implication) a b p g d gx dx gy dy hg hd hp hx hy = rw (hg, hd, (hx refl).0, (hy refl).0, (hy refl).1)
  row_range (Two Guard) a b p g d gx dx gy dy hg hd hp hx hy = rw (hg, hd, (hx refl).0, (hy refl).0, (hy refl).1)
  row_range (Two OverrideU) a b p g d gx dx gy dy hg hd hp hx hy = rw (hg, hd, (hx refl).0, (hx refl).1, (hy refl).0, (hy refl).1)
  row_range (Two OverrideD) a b p g d gx dx gy dy hg hd hp hx hy = rw (hg, hd, (hx refl).0, (hx refl).1, (hy refl).0, (hy refl).1)
  row_range (Two OverrideG) a b p g d gx dx gy dy hg hd hp hx hy = rw (hg, hd, (hx refl).0, (hx refl).1, (hy refl).0, (hy refl).1)
  row_range (Two OverrideC) a b p g d gx dx gy dy hg hd hp hx hy = rw (hg, hd, (hx refl).0, (hx refl).1, (hy refl).0, (hy refl).1)

  -- entries, each by its number
  entries_range : (layout : Layout) (i : ℕ) (es : List Entry) → ((k : ℕ) → k < length es → all (entry_clauses layout (i + k) (get_or es k blank)) ≡ true) →
      all (clauses_from layout i es) ≡ true
  unfolding clauses_from
  entries_range layout i [] h = refl
  entries_range layout i (e ∷ es) h =
      let none : i + 0 ≡ i = omega arith in
      every_append (every (λ l. ok l.variable)) (entry_clauses layout i e) (clauses_from layout (suc i) es)
      ∙ ap₂ ◌&&◌ (rw none at (h 0 (omega arith)))
      (entries_range layout (suc i) es (λ k l. let q : suc i + k ≡ i + suc k = omega arith in rw q (h (suc k) (omega arith))))

-- an accepted table
module _ (s : List ℕ) (c : Contents) (is : reading s ≡ answered c) where
  abbrev layout : Layout
  layout = layout_of c

  abbrev n : ℕ
  n = predicates c

  abbrev ok : ℕ → Bool
  ok v = leb 1 v && leb v (variables_of c)

  from_to : (v : ℕ) → 1 ≤ v → v ≤ variables_of c → ok v ≡ true
  from_to v h l = ap₂ ◌&&◌ (le-leb 1 v h) (le-leb v (variables_of c) l)

  predicate_in : (p : ℕ) → p < n → ok (p + 1) ≡ true
  predicate_in p h = from_to (p + 1) (omega arith) (omega arith)

  claims_in : (r : ℕ) → r < length c.rows → (ok (n + 2 * r + 1) ≡ true) × (ok (n + 2 * r + 2) ≡ true)
  claims_in r h = (from_to (n + 2 * r + 1) (omega arith) (omega arith), from_to (n + 2 * r + 2) (omega arith) (omega arith))

  question_in : (j : ℕ) → j < length c.questions → ok (n + 2 * length c.rows + j + 1) ≡ true
  question_in j h = from_to (n + 2 * length c.rows + j + 1) (omega arith) (omega arith)

  row_in : (r : ℕ) → r < length c.rows → all ok (entry_clauses layout r (get_or c.rows r blank)) ≡ true
  row_in r h = let e = get_or c.rows r blank in go e.kind e.a e.b (row_sound s c is r h) (covered c r)
    where
      go : (kind : Kind) (a b : ℕ) →
          let e : Entry = record { kind = kind; a = a; b = b } in
          RowAt (length c.constraints) r e → uses e ≤ n → all ok (entry_clauses layout r e) ≡ true
      go (Row k) a b sound u =
          row_range ok k a b (a + 1) _ _ _ _ _ _ (claims_in r h).0 (claims_in r h).1 (λ l. predicate_in a (omega (arith, l, u)))
          (λ t. claims_in a (omega (arith, first_below _ sound t, h))) (λ t. claims_in b (omega (arith, second_below _ sound t, h)))
      go (Question k) a b sound u = never (sym sound.in_part)
      go (Constraint k) a b sound u = never (sym sound.in_part)
      go Supplier a b sound u = never (sym sound.in_part)

  asked_in : (j : ℕ) → j < length c.questions → all ok (entry_clauses layout j (get_or c.questions j blank)) ≡ true
  asked_in j h = let e = get_or c.questions j blank in go e.kind e.a e.b (question_sound s c is j h)
    where
      go : (kind : Kind) (a b : ℕ) →
          let e : Entry = record { kind = kind; a = a; b = b } in
          QuestionAt (length c.constraints) (length c.rows) j e → all ok (entry_clauses layout j e) ≡ true
      go (Question (Compare Truth)) a b sound =
          let x = claims_in a (first_below _ sound refl) in
          let y = claims_in b (second_below _ sound refl) in
          rw (question_in j h, x.0, x.1, y.0, y.1)
      go (Question (Compare Knowledge)) a b sound =
          let x = claims_in a (first_below _ sound refl) in
          let y = claims_in b (second_below _ sound refl) in
          rw (question_in j h, x.0, x.1, y.0, y.1)
      go (Question Not) a b sound =
          let l = ltb-true a j (both_parts (ltb a j) true sound.names).0 in
          rw (question_in j h, question_in a (omega (arith, l, h)))
      go (Question Both) a b sound =
          let l = both_parts (ltb a j) (ltb b j) sound.names in
          rw (question_in j h, question_in a (omega (arith, ltb-true a j l.0, h)), question_in b (omega (arith, ltb-true b j l.1, h)))
      go (Row k) a b sound = never (sym sound.in_part)
      go (Constraint k) a b sound = never (sym sound.in_part)
      go Supplier a b sound = never (sym sound.in_part)

  constraint_in : (i : ℕ) → i < length c.constraints → all ok (entry_clauses layout i (get_or c.constraints i blank)) ≡ true
  constraint_in i h =
      let e = get_or c.constraints i blank in
      let part = (constraint_sound s c is i h).in_part in
      let used = constraint_uses e part in
      let most = constraints_covered c i in
      go e.kind e.a e.b part (omega (arith, used.0, most)) (omega (arith, used.1, most))
    where
      go : (kind : Kind) (a b : ℕ) → is_constraint kind ≡ true → a < n → b < n → all ok (entry_clauses layout i (record { kind = kind; a = a; b = b })) ≡ true
      go (Constraint NeverBoth) a b part l g = rw (predicate_in a l, predicate_in b g)
      go (Constraint OnlyIf) a b part l g = rw (predicate_in a l, predicate_in b g)
      go (Row k) a b part l g = never (sym part)
      go (Question k) a b part l g = never (sym part)
      go Supplier a b part l g = never (sym part)

  -- "every literal between -V and V and not 0"
  pub literals_in_range : (q : ℕ) → q < length c.questions → in_range (variables_of c) (negation_of c q) ≡ true
  unfolding negation_of
  literals_in_range q h =
      let is_ok : List Literal → Bool = every (λ l. ok l.variable) in
      let rows = clauses_from layout 0 c.rows in
      let questions = clauses_from layout 0 c.questions in
      let last = false_clause layout q ∷ [] in
      every_append is_ok (clauses_from layout 0 c.constraints) (rows ++ (questions ++ last))
      ∙ ap₂ ◌&&◌ (entries_range ok layout 0 c.constraints (λ k l. rw (zero-add k) (constraint_in k l)))
      (every_append is_ok rows (questions ++ last) ∙ ap₂ ◌&&◌ (entries_range ok layout 0 c.rows (λ k l. rw (zero-add k) (row_in k l)))
      (every_append is_ok questions last ∙ ap₂ ◌&&◌ (entries_range ok layout 0 c.questions (λ k l. rw (zero-add k) (asked_in k l))) (rw (question_in q h))))

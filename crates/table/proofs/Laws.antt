-- What holds of every table that is accepted (01, "The table, byte by byte").
-- Assumes nothing.
use mathlib.Core.Path.{◌≡◌, refl, sym, ap, ◌∙◌}
use mathlib.Core.Bool.{Bool, true, false, cond}
use mathlib.Core.List.{List, [], ◌∷◌, ◌++◌}
use Prim.Native.Nat.{ℕ, zero, suc, ◌+◌, ◌*◌, ◌≤◌, ◌<◌}
use native.Mathlib.Omega.{arith}
use lib.ListN.{length, get_or, length-append}
use lib.Dec.{ltb, eqb}
use borrow.Author.Tests.{ltb-true}
use Rattle.belnap.proofs.Finite.{never, both_parts}
use Rattle.kinds.specs.declared.RowKind.TheVariants.{Always, DenyIf, GrantIf, One, Two}
use Rattle.kinds.specs.declared.Kind.{Kind}
use Rattle.kinds.specs.declared.Names.{Names}
use Rattle.kinds.specs.declared.Names.TheVariants.{Nothing, Predicates, Rows, Questions, Suppliers}
use Rattle.kinds.specs.declared.ConstraintKind.TheVariants.{NeverBoth, OnlyIf}
use Rattle.kinds.specs.declared.Kind.TheVariants.{Row, Question, Constraint, Supplier}
use Rattle.entries.specs.declared.Entry.{Entry}
use Rattle.table.specs.declared.steps.Tally.{Tally}
use Rattle.entries.specs.Said.{answered}
use Rattle.kinds.specs.Kinds.{form_of, is_row, is_constraint, as_row}
use Rattle.entries.specs.Entries.{numbers_of, names_of, body_size, size_of, size_limit, constraint_size, supplier_size, blank, bytes_of, uses, used_by}
use Rattle.table.specs.Steps.{tally, predicate_limit, row_limit, question_limit, constraint_limit, byte_limit, limit, named_at, fits}
use Rattle.table.specs.Suppliers.{no_supplier, supplying, change, marked}
use Rattle.table.specs.Contents.{Contents, Covers, last_supplier, settled, ruled, highest, predicates, written, encoded}
use Rattle.table.specs.Reading.{reading}
use Rattle.table.specs.Whole.{named}
use Rattle.entries.proofs.OneEntry.{few, size, used_at, used_by_both}
use Rattle.table.proofs.Writing.{Sound, Each, each_get, ConstraintAt, RowAt, QuestionAt}
use Rattle.table.proofs.Writing.{written_append, written_parts, Open, of_accepted, whole_accepted}

-- no entry has more bytes than the longest
written_short : (es : List Entry) → length (written es) ≤ size_limit * length es
unfolding written
written_short [] = omega arith
written_short (e ∷ es) =
    let h = written_short es in
    omega (arith, length-append (bytes_of e) (written es), size e, few e.kind, h)

-- a 60 has two bytes, and there is at most one for each row
pub change_bytes : (force s : ℕ) → length (written (change force s)) ≡ cond (eqb s force) 0 supplier_size
unfolding written bytes_of
change_bytes force s = go (eqb s force)
  where
    go : (same : Bool) → length (written (cond same [] (supplying s ∷ []))) ≡ cond same 0 supplier_size
    go true = refl
    go false = refl

pub change_short : (force s : ℕ) → length (written (change force s)) ≤ supplier_size
change_short force s = rw (change_bytes force s) (go (eqb s force))
  where
    go : (same : Bool) → cond same 0 supplier_size ≤ supplier_size
    go true = omega arith
    go false = omega arith

pub marked_short : (force : ℕ) (ss : List ℕ) (es : List Entry) → length (written (marked force ss es)) ≤ length (written es) + supplier_size * length es
unfolding marked written
marked_short force ss [] = omega arith
marked_short force [] (e ∷ es) =
    let rest = marked force [] es in
    omega (arith, marked_short force [] es, length-append (bytes_of e) (written rest), length-append (bytes_of e) (written es))
marked_short force (s ∷ ss) (e ∷ es) =
    let rest = marked s ss es in
    let first = change force s in
    omega (
      arith,
      marked_short s ss es,
      change_short force s,
      ap length (written_append first (e ∷ rest)),
      length-append (written first) (bytes_of e ++ written rest),
      length-append (bytes_of e) (written rest),
      length-append (bytes_of e) (written es),
    )

-- and constraints have one size
constraint_size_lem : (e : Entry) → is_constraint e.kind ≡ true → size_of e ≡ constraint_size
constraint_size_lem e h = size e ∙ ap suc (go e.kind h)
  where
    go : (kind : Kind) → is_constraint kind ≡ true → (form_of kind).numbers ≡ body_size (Constraint NeverBoth)
    go (Row k) h = never (sym h)
    go (Question k) h = never (sym h)
    go (Constraint NeverBoth) h = refl
    go (Constraint OnlyIf) h = refl
    go Supplier h = never (sym h)

pub constraint_bytes : (i : ℕ) (es : List Entry) → Each ConstraintAt i es → length (written es) ≡ constraint_size * length es
unfolding written
constraint_bytes i [] h = refl
constraint_bytes i (e ∷ es) h =
    omega (arith, length-append (bytes_of e) (written es), constraint_size_lem e h.0.in_part, constraint_bytes (suc i) es h.1)

-- no entry uses a predicate above 23
number_bound : (names : Names) (n i x : ℕ) (before : Tally) → named_at n (limit names before) i x ≡ true → used_at names n i x ≤ predicate_limit
number_bound names n i x before h = go names (ltb i n) h
  where
    go : (names : Names) (there : Bool) → cond there (ltb x (limit names before)) true ≡ true → cond there (used_by names x) 0 ≤ predicate_limit
    go names false h = omega arith
    go Nothing true h = omega arith
    go Predicates true h = omega (arith, ltb-true x predicate_limit h)
    go Rows true h = omega arith
    go Questions true h = omega arith
    go Suppliers true h = omega arith

used_bound : (e : Entry) (before : Tally) → named e before ≡ true → uses e ≤ predicate_limit
used_bound e before h =
    let n = numbers_of e in
    let parts = both_parts (fits e before 0 e.a) (fits e before 1 e.b) h in
    let first = number_bound (names_of e) n 0 e.a before parts.0 in
    let second = number_bound (names_of e) n 1 e.b before parts.1 in
    omega (arith, used_by_both (names_of e) n e.a e.b (few e.kind), first, second)

highest_bound : (part : Kind → Bool) (before : ℕ → Tally) (i : ℕ) (es : List Entry) → Each (λ i. Sound part (before i)) i es →
    highest es ≤ predicate_limit
unfolding highest
highest_bound part before i [] h = omega arith
highest_bound part before i (e ∷ es) h =
    let a = used_bound e (before i) h.0.names in
    let b = highest_bound part before (suc i) es h.1 in
    omega arith

-- as a row, an entry uses no other predicate
pub row_uses : (e : Entry) → used_by (form_of (Row (as_row e.kind))).names e.a ≤ uses e
row_uses e = go e.kind e.a e.b
  where
    go : (kind : Kind) (a b : ℕ) → used_by (form_of (Row (as_row kind))).names a ≤ uses (record { kind = kind; a = a; b = b })
    go (Row (Always v)) a b = omega arith
    go (Row DenyIf) a b = omega arith
    go (Row GrantIf) a b = omega arith
    go (Row (One op)) a b = omega arith
    go (Row (Two op)) a b = omega arith
    go (Question k) a b = omega arith
    go (Constraint k) a b = omega arith
    go Supplier a b = omega arith

-- as a constraint, its two predicates are among those that it uses
pub constraint_uses : (e : Entry) → is_constraint e.kind ≡ true → (e.a < uses e) × (e.b < uses e)
constraint_uses e h = go e.kind e.a e.b h
  where
    go : (kind : Kind) (a b : ℕ) → is_constraint kind ≡ true →
        (a < uses (record { kind = kind; a = a; b = b })) × (b < uses (record { kind = kind; a = a; b = b }))
    go (Row k) a b h = never (sym h)
    go (Question k) a b h = never (sym h)
    go (Constraint NeverBoth) a b h = (omega arith, omega arith)
    go (Constraint OnlyIf) a b h = (omega arith, omega arith)
    go Supplier a b h = never (sym h)

-- n covers the predicates that rows and constraints use
highest_covers : (es : List Entry) → Covers (highest es) es
unfolding highest
highest_covers [] i = omega arith
highest_covers (e ∷ es) zero = omega arith
highest_covers (e ∷ es) (suc i) = let h = highest_covers es i in omega arith

pub covered : (c : Contents) → Covers (predicates c) c.rows
covered c i = omega (arith, highest_covers c.rows i)

pub constraints_covered : (c : Contents) → Covers (predicates c) c.constraints
constraints_covered c i = omega (arith, highest_covers c.constraints i)

-- an accepted table
module _ (s : List ℕ) (c : Contents) (q : reading s ≡ answered c) where
  -- a constraint names predicates below 24
  pub constraint_sound : (i : ℕ) → i < length c.constraints → ConstraintAt i (get_or c.constraints i blank)
  constraint_sound = each_get ConstraintAt c.constraints blank (of_accepted s c q).0.constraints_sound

  -- row i names only rows below i and predicates below 24
  pub row_sound : (i : ℕ) → i < length c.rows → RowAt (length c.constraints) i (get_or c.rows i blank)
  row_sound = each_get (RowAt (length c.constraints)) c.rows blank (of_accepted s c q).0.rows_sound

  -- question j names only rows of the table, and questions below j
  pub question_sound : (j : ℕ) → j < length c.questions → QuestionAt (length c.constraints) (length c.rows) j (get_or c.questions j blank)
  question_sound = each_get (QuestionAt (length c.constraints) (length c.rows)) c.questions blank (of_accepted s c q).0.questions_sound

  -- at most 32 constraints, 256 rows, 64 questions and 1568 bytes, and n is at most 24
  pub limits : (length c.constraints ≤ constraint_limit) × (length c.rows ≤ row_limit) × (length c.questions ≤ question_limit) ×
      (length s ≤ byte_limit) × (predicates c ≤ predicate_limit)
  limits =
      let w = of_accepted s c q in
      let rows = marked no_supplier c.suppliers c.rows in
      let parts : length (encoded c) ≡ length (written c.constraints) + (length (written rows) + length (written c.questions)) =
      ap length (written_parts c w.0.settles) ∙ length-append (written c.constraints) (written rows ++ written c.questions)
      ∙ ap (λ (n : ℕ). length (written c.constraints) + n) (length-append (written rows) (written c.questions)) in (
        w.0.constraints_fit,
        w.0.rows_fit,
        w.0.questions_fit,
        omega (
          arith,
          ap length w.1,
          parts,
          written_short c.constraints,
          written_short c.rows,
          written_short c.questions,
          marked_short no_supplier c.suppliers c.rows,
          w.0.constraints_fit,
          w.0.rows_fit,
          w.0.questions_fit,
        ),
        omega (
          arith,
          highest_bound is_constraint (λ i. tally i 0 0) 0 c.constraints w.0.constraints_sound,
          highest_bound is_row (λ i. tally (length c.constraints) i 0) 0 c.rows w.0.rows_sound,
        ),
      )

  -- its bytes are those of its contents
  pub written_back : encoded c ≡ s
  written_back = (of_accepted s c q).1

-- with a 60 that waits for its row, it may be longer by that
pub open_short : (c : Contents) (follows : Bool) → Open c follows → length (encoded c) ≤ byte_limit + supplier_size
open_short c follows o =
    let d = settled c in
    let rows = marked no_supplier c.suppliers c.rows in
    let last = change (last_supplier c) c.supplier in
    let constraints = written c.constraints in
    let questions = written c.questions in
    let all : encoded c ≡ constraints ++ ((written rows ++ written last) ++ questions) =
    rw (written_append c.constraints (ruled c ++ c.questions), written_append (ruled c) c.questions, written_append rows last) in
    omega (
      arith,
      (limits (encoded d) d (whole_accepted d o.whole)).3,
      ap length (written_parts d refl),
      length-append constraints (written rows ++ questions),
      length-append (written rows) questions,
      ap length all,
      length-append constraints ((written rows ++ written last) ++ questions),
      length-append (written rows ++ written last) questions,
      length-append (written rows) (written last),
      change_short (last_supplier c) c.supplier,
    )

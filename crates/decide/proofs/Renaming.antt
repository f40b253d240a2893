-- Rows under new numbers: whatever comes from the rows that a row names is kept under any renaming that keeps what each row names (the letter's second demand).
-- Striking a row is one such renaming.
-- Assumes nothing.
use mathlib.Core.Path.{◌≡◌, refl, sym, ap, ap₂, ◌∙◌}
use mathlib.Core.Bool.{Bool, true, false, cond}
use mathlib.Core.List.{List}
use Prim.Native.Nat.{ℕ, ◌<◌}
use lib.ListN.{get_or}
use lib.Dec.{eqb}
use borrow.Author.Tests.{eq-eqb, ne_eqb}
use Rattle.belnap.specs.declared.Decision.TheVariants.{U}
use Rattle.operators.specs.Operators.{one, two}
use Rattle.kinds.specs.declared.RowKind.TheVariants.{Always, DenyIf, GrantIf, One, Two}
use Rattle.kinds.specs.declared.Kind.{Kind}
use Rattle.kinds.specs.declared.Kind.TheVariants.{Row, Question, Constraint, Supplier}
use Rattle.entries.specs.declared.Entry.{Entry}
use Rattle.entries.specs.Entries.{blank, equal_numbers}
use Rattle.entries.specs.Renaming.{names_row, renamed}
use Rattle.entries.proofs.Numbers.{by_equal}
use Rattle.decide.specs.Rows.{values, value_at}
use Rattle.decide.specs.Meaning.{decide_by, decides, decision}
use Rattle.decide.proofs.RowByRow.{by_rows, before_there}

-- with every row under its own number, an entry is the same
pub same_entry : (e : Entry) → renamed (λ x. x) e ≡ e
same_entry e = ap₂ (λ (a b : ℕ). record { kind = e.kind; a = a; b = b }) (either (names_row 0 e) e.a) (either (names_row 1 e) e.b)
  where
    either : (b : Bool) (x : ℕ) → cond b x x ≡ x
    either true x = refl
    either false x = refl

-- a value that comes from those of the rows named, from whether they are one row, and from an entry's own numbers only where they name no row
abbrev pub Comes : {A : Type 0} → (Entry → A → A → A) → Type 0
Comes {A} f =
    (new : ℕ → ℕ) (e : Entry) (x y u v : A) → (names_row 0 e ≡ true → x ≡ u) → (names_row 1 e ≡ true → y ≡ v) →
    (names_row 0 e ≡ true → names_row 1 e ≡ true → equal_numbers (renamed new e) ≡ equal_numbers e) → f (renamed new e) x y ≡ f e u v

pub decisions_come : (m : ℕ) → Comes (decides m)
unfolding decide_by
decisions_come m new e x y u v p q same = go e.kind e.a e.b p q
  where
    go : (k : Kind) (a b : ℕ) →
        let e : Entry = record { kind = k; a = a; b = b } in
        (names_row 0 e ≡ true → x ≡ u) →
        (names_row 1 e ≡ true → y ≡ v) →
        decides m (renamed new e) x y ≡ decides m e u v
    go (Row (Always w)) a b p q = refl
    go (Row DenyIf) a b p q = refl
    go (Row GrantIf) a b p q = refl
    go (Row (One op)) a b p q = ap (one op) (p refl)
    go (Row (Two op)) a b p q = ap₂ (two op) (p refl) (q refl)
    go (Question k) a b p q = refl
    go (Constraint k) a b p q = refl
    go Supplier a b p q = refl

-- a row named by row i: it is kept, it is lower, and so it is under the new numbers
pub record Named (new : ℕ → ℕ) (Kept : ℕ → Type 0) (i x : ℕ) : Type 0 where
  pub kept : Kept x
  pub lower : x < i
  pub still : new x < new i

-- row i stands under its new number, with the rows that it names under theirs
pub record Stands (new : ℕ → ℕ) (Kept : ℕ → Type 0) (rows fresh : List Entry) (i : ℕ) : Type 0 where
  pub there : get_or fresh (new i) blank ≡ renamed new (get_or rows i blank)
  pub first : names_row 0 (get_or rows i blank) ≡ true → Named new Kept i (get_or rows i blank).a
  pub second : names_row 1 (get_or rows i blank) ≡ true → Named new Kept i (get_or rows i blank).b

-- no two rows that are kept get one number
abbrev pub OneToOne : (ℕ → ℕ) → (ℕ → Type 0) → Type 0
OneToOne new Kept = (x y : ℕ) → Kept x → Kept y → new x ≡ new y → x ≡ y

-- so two numbers are equal afterwards exactly if they were before
pub same_number : {new : ℕ → ℕ} {Kept : ℕ → Type 0} → OneToOne new Kept → (x y : ℕ) → Kept x → Kept y → eqb (new x) (new y) ≡ eqb x y
same_number {new} apart x y k l =
    by_equal x y
    (λ s. eq-eqb (new x) (new y) (ap new s) ∙ sym (eq-eqb x y s))
    (λ d. ne_eqb (new x) (new y) (λ s. d (apart x y k l s)) ∙ sym (ne_eqb x y d))

pub equal_still : {new : ℕ → ℕ} {Kept : ℕ → Type 0} → OneToOne new Kept → (e : Entry) → names_row 0 e ≡ true → names_row 1 e ≡ true →
    Kept e.a → Kept e.b → equal_numbers (renamed new e) ≡ equal_numbers e
equal_still apart e p q a b = rw (p, q) (same_number apart e.a e.b a b)

-- rows under new numbers: each that is kept stands under its own
pub record Renames (new : ℕ → ℕ) (Kept : ℕ → Type 0) (rows fresh : List Entry) : Type 0 where
  pub stands : (i : ℕ) → Kept i → Stands new Kept rows fresh i
  pub apart : OneToOne new Kept

module _ {new : ℕ → ℕ} {Kept : ℕ → Type 0} {rows fresh : List Entry} where
  -- a row that stands has the value it had, if the lower rows that are kept have theirs; so a converter may replace single rows, and prove those by themselves
  pub value_stands : {A : Type 0} (f : Entry → A → A → A) (z : A) → Comes f → OneToOne new Kept → (i : ℕ) → Stands new Kept rows fresh i →
      ((x : ℕ) → x < i → Kept x → value_at f z fresh (new x) ≡ value_at f z rows x) → value_at f z fresh (new i) ≡ value_at f z rows i
  unfolding value_at
  value_stands {A} f z comes apart i s ih =
      let e = get_or rows i blank in
      let same : (x : ℕ) (b : Bool) → b ≡ true → Named new Kept i x →
      get_or (values f z fresh (new i)) (cond b (new x) x) z ≡ get_or (values f z rows i) x z =
      λ x b t n.
      ap (λ (b : Bool). get_or (values f z fresh (new i)) (cond b (new x) x) z) t
      ∙ before_there f z fresh (new i) (new x) n.still ∙ ih x n.lower n.kept ∙ sym (before_there f z rows i x n.lower) in
      ap (λ (d : Entry). f d (get_or (values f z fresh (new i)) d.a z) (get_or (values f z fresh (new i)) d.b z)) s.there
      ∙ comes new e _ _ _ _
      (λ t. same e.a (names_row 0 e) t (s.first t))
      (λ t. same e.b (names_row 1 e) t (s.second t))
      (λ p q. equal_still apart e p q (s.first p).kept (s.second q).kept)

  pub value_kept : Renames new Kept rows fresh → {A : Type 0} (f : Entry → A → A → A) (z : A) → Comes f →
      (i : ℕ) → Kept i → value_at f z fresh (new i) ≡ value_at f z rows i
  value_kept r f z comes =
      by_rows (λ i. Kept i → value_at f z fresh (new i) ≡ value_at f z rows i) (λ i ih k. value_stands f z comes r.apart i (r.stands i k) ih)

  pub decision_kept : Renames new Kept rows fresh → (m i : ℕ) → Kept i → decision fresh m (new i) ≡ decision rows m i
  decision_kept r m = value_kept r (decides m) U (decisions_come m)

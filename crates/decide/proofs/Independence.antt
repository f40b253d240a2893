-- Data independence (002, as 01 condenses it): requests that agree on every predicate that a row reaches get the same decision from it.
-- Assumes nothing.
use mathlib.Core.Path.{◌≡◌, refl, sym, ap, ap₂}
use mathlib.Core.Bool.{true, cond}
use mathlib.Core.List.{List, [], ◌∷◌}
use Prim.Native.Nat.{ℕ, ◌<◌}
use native.Mathlib.Omega.{arith}
use lib.ListN.{get_or}
use lib.Dec.{eqb}
use borrow.Author.Tests.{eqb-true}
use Rattle.belnap.specs.declared.Decision.{Decision}
use Rattle.belnap.specs.declared.Decision.TheVariants.{U}
use Rattle.operators.specs.Operators.{one, two}
use Rattle.belnap.proofs.Finite.{never, or_right, or_part}
use Rattle.kinds.specs.declared.RowKind.TheVariants.{Always, DenyIf, GrantIf, One, Two}
use Rattle.kinds.specs.declared.Kind.{Kind}
use Rattle.kinds.specs.declared.Kind.TheVariants.{Row, Question, Constraint, Supplier}
use Rattle.kinds.specs.declared.Names.{Names}
use Rattle.kinds.specs.declared.Names.TheVariants.{Nothing, Predicates, Rows, Questions, Suppliers}
use Rattle.entries.specs.declared.Entry.{Entry}
use Rattle.entries.specs.Refusals.{is_among}
use Rattle.entries.specs.Entries.{names_of, numbers_in, blank, highest_of, uses}
use Rattle.entries.proofs.Numbers.{by_order}
use Rattle.table.specs.Contents.{Covers}
use Rattle.decide.specs.Rows.{values, value_at}
use Rattle.decide.specs.Meaning.{bit, decide_by, decides, decision}
use Rattle.decide.specs.Requests.{Agree}
use Rattle.decide.specs.Reach.{rows_named, predicate_numbers, predicates_named, rows_reached, reaches_row, reaches}
use Rattle.decide.proofs.RowByRow.{by_rows, before_there, before_past}
use Rattle.decide.proofs.Among.{at_front, some_in, found_in, passing_in, passing_of}
use Rattle.decide.proofs.Reaching.{reaches_itself, first_step}

-- one row, from its own predicate and the rows that it names
row_agrees : (k : Kind) (a b m o : ℕ) (x y u v : Decision) →
    let e : Entry = record { kind = k; a = a; b = b } in
    ((p : ℕ) → is_among (predicates_named e) p ≡ true → bit m p ≡ bit o p) → (is_among (rows_named e) a ≡ true → x ≡ u) →
    (is_among (rows_named e) b ≡ true → y ≡ v) → decides m e x y ≡ decides o e u v
unfolding decide_by
row_agrees (Row (Always w)) a b m o x y u v h p q = refl
row_agrees (Row DenyIf) a b m o x y u v h p q = rw (h a (at_front a []))
row_agrees (Row GrantIf) a b m o x y u v h p q = rw (h a (at_front a []))
row_agrees (Row (One op)) a b m o x y u v h p q = ap (one op) (p (at_front a []))
row_agrees (Row (Two op)) a b m o x y u v h p q =
    ap₂ (two op) (p (at_front a (b ∷ []))) (q (or_right (eqb b a) _ (at_front b [])))
row_agrees (Question k) a b m o x y u v h p q = refl
row_agrees (Constraint k) a b m o x y u v h p q = refl
row_agrees Supplier a b m o x y u v h p q = refl

-- a row reaches what it names, and what each lower row that it names reaches
own_predicate : (rows : List Entry) (r p : ℕ) → is_among (predicates_named (get_or rows r blank)) p ≡ true → reaches rows r p ≡ true
own_predicate rows r p e = some_in _ (rows_reached rows r) r (passing_in _ (reaches_row rows r) r (omega arith) (reaches_itself r rows r)) e

named_reaches : (rows : List Entry) (r a p : ℕ) → is_among (rows_named (get_or rows r blank)) a ≡ true → a < r → reaches rows a p ≡ true →
    reaches rows r p ≡ true
named_reaches rows r a p n h e =
    found_in _ (rows_reached rows a) e (λ i l k.
    let from = passing_of _ (reaches_row rows a) i l in
    some_in _ (rows_reached rows r) i (passing_in _ (reaches_row rows r) i (omega (arith, from.0)) (first_step rows r a i n h from.1)) k)

pub independent : (rows : List Entry) (m o r : ℕ) → Agree (reaches rows r) m o → decision rows m r ≡ decision rows o r
unfolding value_at
independent rows m o = by_rows (λ r. Agree (reaches rows r) m o → decision rows m r ≡ decision rows o r) (λ r ih agree.
    let e = get_or rows r blank in
    let at : (x : ℕ) → is_among (rows_named e) x ≡ true → get_or (values (decides m) U rows r) x U ≡ get_or (values (decides o) U rows r) x U =
    λ x n. by_order x r
    (λ h. rw (before_there (decides m) U rows r x h, before_there (decides o) U rows r x h) (ih x h (λ p k. agree p (named_reaches rows r x p n h k))))
    (λ h. rw (before_past (decides m) U rows r x h, before_past (decides o) U rows r x h)) in
    row_agrees e.kind e.a e.b m o _ _ _ _ (λ p k. agree p (own_predicate rows r p k)) (at e.a) (at e.b))

-- a row reaches only predicates below an n that covers them
below_highest : (l : List ℕ) (p : ℕ) → is_among l p ≡ true → p < highest_of Predicates l
below_highest [] p e = never (sym e)
below_highest (x ∷ l) p e =
    or_part (eqb p x) (is_among l p) e (λ q. omega (arith, eqb-true p x q)) (λ q. omega (arith, below_highest l p q))

below_uses : (e : Entry) (p : ℕ) → is_among (predicates_named e) p ≡ true → p < uses e
below_uses e p = go (names_of e) (numbers_in e)
  where
    go : (names : Names) (l : List ℕ) → is_among (cond (predicate_numbers names) l []) p ≡ true → p < highest_of names l
    go Nothing l e = never (sym e)
    go Predicates l e = below_highest l p e
    go Rows l e = never (sym e)
    go Questions l e = never (sym e)
    go Suppliers l e = never (sym e)

pub reach_below : (rows : List Entry) (n : ℕ) → Covers n rows → (p r : ℕ) → reaches rows r p ≡ true → p < n
reach_below rows n covers p r e =
    found_in _ (rows_reached rows r) e (λ i l k. omega (arith, below_uses (get_or rows i blank) p k, covers i))

-- "Predicates from n up may be given and change nothing."
pub beyond_n : (rows : List Entry) (n : ℕ) → Covers n rows → (m o r : ℕ) → ((p : ℕ) → p < n → bit m p ≡ bit o p) →
    decision rows m r ≡ decision rows o r
beyond_n rows n covers m o r h = independent rows m o r (λ p e. h p (reach_below rows n covers p r e))

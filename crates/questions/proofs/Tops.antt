-- How many rows a question looks at, and that it looks at no others.
-- Assumes nothing.
use mathlib.Core.Path.{◌≡◌, ap, ap₂, ◌∙◌}
use mathlib.Core.Bool.{Bool, true}
use mathlib.Core.List.{List}
use Prim.Native.Nat.{ℕ, ◌≤◌, ◌<◌, min}
use native.Mathlib.Omega.{arith}
use lib.ListN.{length, get_or}
use Rattle.belnap.specs.Orders.{at_or_below}
use Rattle.kinds.specs.declared.QuestionKind.{QuestionKind}
use Rattle.kinds.specs.declared.QuestionKind.TheVariants.{Compare, Not, Both}
use Rattle.entries.specs.declared.Entry.{Entry}
use Rattle.kinds.specs.Kinds.{as_question}
use Rattle.entries.specs.Entries.{number_limit, blank, equal_numbers}
use Rattle.table.specs.Reading.{padded}
use Rattle.entries.proofs.Numbers.{by_order}
use Rattle.table.proofs.Padding.{padded_at}
use Rattle.decide.specs.Rows.{values, value_at}
use Rattle.decide.proofs.RowByRow.{by_rows, before_there, before_past}
use Rattle.possible.specs.Sets.{decisions, truths, Set, single, image_two}
use Rattle.questions.specs.Questions.{truth_set_by, asks_set}
use Rattle.questions.specs.Inner.{top_by, top_of, top, top_in}

-- a question looks at no more rows than a byte can number
pub top_small : (k : QuestionKind) (a b x y v : ℕ) → v ≡ top_by k a b x y → a < number_limit → b < number_limit →
    x ≤ number_limit → y ≤ number_limit →
    v ≤ number_limit
top_small (Compare o) a b x y v e p q r s = omega arith
top_small Not a b x y v e p q r s = omega arith
top_small Both a b x y v e p q r s = omega arith

-- the same of as many questions as a byte can number
pub top_in_lem : (qs : List Entry) (j : ℕ) → j < min (length qs) number_limit → top_in qs j ≡ top qs j
top_in_lem qs j h = before_there top_of 0 qs (min (length qs) number_limit) j h

pub top_there : (qs : List Entry) (j : ℕ) (tops : List ℕ) → tops ≡ padded 0 number_limit (values top_of 0 qs (min (length qs) number_limit)) →
    get_or tops j 0 ≡ top_in qs j
top_there qs j tops q =
    ap (λ (l : List ℕ). get_or l j 0) q ∙ padded_at 0 number_limit (values top_of 0 qs (min (length qs) number_limit)) j

-- and that it looks at no others
same_seen : (k : QuestionKind) (equal : Bool) (a b rows m n : ℕ) (f g : ℕ → Set decisions) (x y u v : Set truths) →
    ((r : ℕ) → r < rows → f r ≡ g r) → top_by k a b m n ≤ rows → (m ≤ rows → x ≡ u) → (n ≤ rows → y ≡ v) →
    truth_set_by k equal (f a) (f b) x y ≡ truth_set_by k equal (g a) (g b) u v
unfolding truth_set_by
same_seen (Compare o) equal a b rows m n f g x y u v h t p q = ap₂ (image_two (at_or_below o) equal) (h a (omega arith)) (h b (omega arith))
same_seen Not equal a b rows m n f g x y u v h t p q = rw (p t)
same_seen Both equal a b rows m n f g x y u v h t p q = rw (p (omega arith), q (omega arith))

pub only_top : (qs : List Entry) (rows : ℕ) (f g : ℕ → Set decisions) → ((r : ℕ) → r < rows → f r ≡ g r) → (j : ℕ) → top qs j ≤ rows →
    value_at (asks_set f) (single true) qs j ≡ value_at (asks_set g) (single true) qs j
unfolding value_at
only_top qs rows f g h = by_rows (λ j. top qs j ≤ rows → value_at (asks_set f) (single true) qs j ≡ value_at (asks_set g) (single true) qs j) (λ j ih t.
    let e = get_or qs j blank in
    let z : Set truths = single true in
    let at : (x : ℕ) → get_or (values top_of 0 qs j) x 0 ≤ rows → get_or (values (asks_set f) z qs j) x z ≡ get_or (values (asks_set g) z qs j) x z =
    λ x l. by_order x j
    (λ k. rw (before_there (asks_set f) z qs j x k, before_there (asks_set g) z qs j x k) (ih x k (rw (before_there top_of 0 qs j x k) at l)))
    (λ k. rw (before_past (asks_set f) z qs j x k, before_past (asks_set g) z qs j x k)) in
    same_seen (as_question e.kind) (equal_numbers e) e.a e.b rows _ _ f g _ _ _ _ h t (at e.a) (at e.b))

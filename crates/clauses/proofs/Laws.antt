-- The clauses of a question's negation, of an accepted table (02, L7): every satisfying assignment, cut to the first n variables, is a request within the
-- constraints that breaks the question; and every such request is one so cut. And each literal is a variable of the table, or its negation.
-- Assumes nothing.
use mathlib.Core.Path.{◌≡◌, sym, ap, ap₂, ◌∙◌}
use mathlib.Core.Bool.{Bool, true, false, cond}
use mathlib.Core.List.{List}
use Prim.Native.Nat.{ℕ, ◌+◌, ◌*◌, ◌-◌, ◌/◌, ◌%◌, ◌^◌, ◌<◌}
use native.Mathlib.Omega.{arith}
use native.Mathlib.Numerals.{add-one}
use lib.ListN.{length}
use lib.Dec.{leb, eqb}
use borrow.Author.Tests.{le-leb, lt-leb}
use Rattle.belnap.specs.Decisions.{grants, denies, claiming}
use Rattle.belnap.proofs.Finite.{claims_of}
use Rattle.entries.specs.Said.{answered}
use Rattle.table.specs.Contents.{Contents, predicates}
use Rattle.table.specs.Reading.{reading}
use Rattle.decide.specs.Meaning.{bit, decision}
use Rattle.questions.specs.Questions.{truth}
use Rattle.constraints.specs.Constraints.{within}
use Rattle.clauses.specs.Clauses.{satisfies, cut}
use Rattle.clauses.specs.Variables.{negation_of}
use Rattle.clauses.proofs.Cutting.{cut_below, cut_bit, cut_is}
use Rattle.clauses.proofs.Meaning.{satisfied_means, agreeing_satisfies}

-- what a request makes of each variable: of a predicate, of a row's claim and of a question, by the number behind the variables before
module _ (c : Contents) (m : ℕ) where
  abbrev n : ℕ
  n = predicates c

  abbrev rows : ℕ
  rows = length c.rows

  abbrev claim : ℕ → Bool
  claim k = let v = decision c.rows m (k / 2) in cond (eqb (k % 2) 0) (grants v) (denies v)

  unfoldable assigned : ℕ → Bool
  assigned v = cond (leb v n) (bit m (v - 1)) (cond (leb v (n + 2 * rows)) (claim (v - (n + 1))) (truth c.rows c.questions m (v - (n + 2 * rows + 1))))

  at_predicate : (p : ℕ) → p < n → assigned (p + 1) ≡ bit m p
  unfolding assigned
  at_predicate p h = let q : p + 1 - 1 ≡ p = omega arith in rw (le-leb (p + 1) n (omega arith), q)

  at_claim : (r k : ℕ) → r < rows → k < 2 → assigned (n + 2 * r + (k + 1)) ≡ cond (eqb k 0) (grants (decision c.rows m r)) (denies (decision c.rows m r))
  unfolding assigned
  at_claim r k h l =
      let v = n + 2 * r + (k + 1) in
      let number : (v - (n + 1)) / 2 ≡ r = omega arith in
      let which : (v - (n + 1)) % 2 ≡ k = omega arith in
      rw (lt-leb v n (omega arith), le-leb v (n + 2 * rows) (omega arith), number, which)

  at_row : (r : ℕ) → r < rows → claiming (assigned (n + 2 * r + 1)) (assigned (n + 2 * r + 2)) ≡ decision c.rows m r
  at_row r h = ap₂ claiming (at_claim r 0 h (omega arith)) (at_claim r 1 h (omega arith)) ∙ claims_of (decision c.rows m r)

  at_question : (j : ℕ) → assigned (n + 2 * rows + j + 1) ≡ truth c.rows c.questions m j
  unfolding assigned
  at_question j =
      let v = n + 2 * rows + j + 1 in
      let number : v - (n + 2 * rows + 1) ≡ j = omega arith in
      rw (lt-leb v n (omega arith), lt-leb v (n + 2 * rows) (omega arith), number)

module _ (s : List ℕ) (c : Contents) (is : reading s ≡ answered c) (q : ℕ) (asked : q < length c.questions) where
  -- a request that breaks the question, within the constraints
  abbrev pub Broken : ℕ → Type 0
  Broken m = (within c.constraints m ≡ true) × (truth c.rows c.questions m q ≡ false)

  pub satisfying_breaks : (A : ℕ → Bool) → satisfies A (negation_of c q) ≡ true → (cut (predicates c) A < 2 ^ predicates c) × Broken (cut (predicates c) A)
  satisfying_breaks A h =
      let m = cut (predicates c) A in
      (cut_below A (predicates c), satisfied_means s c is A m (λ p l. ap A (add-one p) ∙ sym (cut_bit A (predicates c) p l)) q asked h)

  pub breaking_satisfies : (m : ℕ) → m < 2 ^ predicates c → Broken m →
      (A : ℕ → Bool) × (satisfies A (negation_of c q) ≡ true) × (cut (predicates c) A ≡ m)
  breaking_satisfies m h broken =
      let A = assigned c m in (
        A,
        agreeing_satisfies s c is A m (at_predicate c m) q asked (at_row c m, λ j l. at_question c m j) broken.0 broken.1,
        cut_is A (predicates c) m h (λ p l. ap A (sym (add-one p)) ∙ at_predicate c m p l),
      )

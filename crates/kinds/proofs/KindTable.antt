-- The table of kinds goes both ways: a byte announces a kind exactly if it is that kind's byte. A test that antt computes at all kinds holds at each.
-- Assumes nothing.
use mathlib.Core.Path.{◌≡◌, refl, sym}
use mathlib.Core.Bool.{Bool, true, false, cond, ◌&&◌}
use mathlib.Core.List.{List, [], ◌∷◌}
use Prim.Native.Nat.{ℕ}
use lib.Dec.{eqb}
use borrow.Author.Tests.{eqb-true}
use Rattle.belnap.proofs.Finite.{both_parts, never}
use Rattle.belnap.specs.declared.Decision.TheVariants.{U, D, G, C}
use Rattle.operators.specs.declared.OneRow.TheVariants.{Negation, Conflation, ClosedDefault, OpenDefault}
use Rattle.operators.specs.declared.TwoRow.TheVariants.{TruthMeet, TruthJoin, KnowledgeMeet, KnowledgeJoin, Implication}
use Rattle.operators.specs.declared.TwoRow.TheVariants.{Guard, OverrideU, OverrideD, OverrideG, OverrideC}
use Rattle.belnap.specs.declared.orders.Order.TheVariants.{Truth, Knowledge}
use Rattle.kinds.specs.declared.Kind.{Kind}
use Rattle.kinds.specs.declared.Kind.TheVariants.{Row, Question, Constraint, Supplier}
use Rattle.kinds.specs.declared.RowKind.TheVariants.{Always, DenyIf, GrantIf, One, Two}
use Rattle.kinds.specs.declared.QuestionKind.TheVariants.{Compare, Not, Both}
use Rattle.kinds.specs.declared.ConstraintKind.TheVariants.{NeverBoth, OnlyIf}
use Rattle.std.specs.Prelude.{Some}
use Rattle.kinds.specs.Kinds.{form_of, kinds, among, kind_of, is_row, is_question, is_constraint, as_row, as_question, as_constraint}

-- the kind among some that passes a test, passes it; and one that is found there has what all of these have
pub among_passes : (passes : Kind → Bool) (l : List Kind) (kind : Kind) → among passes l ≡ Some kind → passes kind ≡ true
among_passes passes [] kind e = never cc
among_passes passes (x ∷ l) kind e = go (passes x) refl e (among_passes passes l kind)
  where
    go : (b : Bool) → passes x ≡ b → cond b (Some x) (among passes l) ≡ Some kind → (among passes l ≡ Some kind → passes kind ≡ true) →
        passes kind ≡ true
    go true q h rest = let same : x ≡ kind = cc in rw same at q
    go false q h rest = rest h

abbrev pub all : (Kind → Bool) → List Kind → Bool
all has [] = true
all has (kind ∷ more) = has kind && all has more

among_has : (passes has : Kind → Bool) (l : List Kind) (kind : Kind) → all has l ≡ true → among passes l ≡ Some kind → has kind ≡ true
among_has passes has [] kind h e = never cc
among_has passes has (x ∷ l) kind h e =
    let parts = both_parts (has x) (all has l) h in
    go (passes x) e parts.0 (among_has passes has l kind parts.1)
  where
    go : (b : Bool) → cond b (Some x) (among passes l) ≡ Some kind → has x ≡ true → (among passes l ≡ Some kind → has kind ≡ true) →
        has kind ≡ true
    go true e h rest = let same : x ≡ kind = cc in rw same at h
    go false e h rest = rest e

pub byte_of_kind : (k : ℕ) (kind : Kind) → kind_of k ≡ Some kind → (form_of kind).byte ≡ k
unfolding kind_of
byte_of_kind k kind e = sym (eqb-true k (form_of kind).byte (among_passes (λ kind. eqb k (form_of kind).byte) kinds kind e))

-- a kind's byte announces that kind
pub kind_of_byte : (kind : Kind) → kind_of (form_of kind).byte ≡ Some kind
unfolding kind_of
kind_of_byte (Row (Always U)) = refl
kind_of_byte (Row (Always D)) = refl
kind_of_byte (Row (Always G)) = refl
kind_of_byte (Row (Always C)) = refl
kind_of_byte (Row DenyIf) = refl
kind_of_byte (Row GrantIf) = refl
kind_of_byte (Row (One Negation)) = refl
kind_of_byte (Row (One Conflation)) = refl
kind_of_byte (Row (One ClosedDefault)) = refl
kind_of_byte (Row (One OpenDefault)) = refl
kind_of_byte (Row (Two TruthMeet)) = refl
kind_of_byte (Row (Two TruthJoin)) = refl
kind_of_byte (Row (Two KnowledgeMeet)) = refl
kind_of_byte (Row (Two KnowledgeJoin)) = refl
kind_of_byte (Row (Two Implication)) = refl
kind_of_byte (Row (Two Guard)) = refl
kind_of_byte (Row (Two OverrideU)) = refl
kind_of_byte (Row (Two OverrideD)) = refl
kind_of_byte (Row (Two OverrideG)) = refl
kind_of_byte (Row (Two OverrideC)) = refl
kind_of_byte (Question (Compare Truth)) = refl
kind_of_byte (Question (Compare Knowledge)) = refl
kind_of_byte (Question Not) = refl
kind_of_byte (Question Both) = refl
kind_of_byte (Constraint NeverBoth) = refl
kind_of_byte (Constraint OnlyIf) = refl
kind_of_byte Supplier = refl

-- what all kinds have, each has: so a law of the kinds is one computation
pub each_kind : (has : Kind → Bool) → all has kinds ≡ true → (kind : Kind) → has kind ≡ true
unfolding kind_of
each_kind has h kind = among_has (λ other. eqb (form_of kind).byte (form_of other).byte) has kinds kind h (kind_of_byte kind)

-- a row's kind, a question's, and a constraint's
pub is_row_lem : (kind : Kind) → is_row kind ≡ true → kind ≡ Row (as_row kind)
is_row_lem (Row k) h = refl
is_row_lem (Question k) h = never (sym h)
is_row_lem (Constraint k) h = never (sym h)
is_row_lem Supplier h = never (sym h)

pub is_question_lem : (kind : Kind) → is_question kind ≡ true → kind ≡ Question (as_question kind)
is_question_lem (Row k) h = never (sym h)
is_question_lem (Question k) h = refl
is_question_lem (Constraint k) h = never (sym h)
is_question_lem Supplier h = never (sym h)

pub is_constraint_lem : (kind : Kind) → is_constraint kind ≡ true → kind ≡ Constraint (as_constraint kind)
is_constraint_lem (Row k) h = never (sym h)
is_constraint_lem (Question k) h = never (sym h)
is_constraint_lem (Constraint k) h = refl
is_constraint_lem Supplier h = never (sym h)

-- A row against itself, and a question (02, L3): a comparison of a row with itself is true whatever is known, and "both" of a question and itself has that
-- question's set.
-- Assumes nothing.
use mathlib.Core.Path.{◌≡◌, refl, ◌∙◌}
use mathlib.Core.Bool.{Bool, true, false, ◌&&◌}
use mathlib.Core.List.{List}
use Prim.Native.Nat.{ℕ, ◌<◌}
use lib.ListN.{get_or}
use borrow.Author.Tests.{eq-eqb}
use Rattle.belnap.specs.declared.orders.Order.{Order}
use Rattle.belnap.specs.Orders.{at_or_below}
use Rattle.belnap.proofs.Bilattice.{reflexive}
use Rattle.kinds.specs.declared.QuestionKind.TheVariants.{Compare, Both}
use Rattle.kinds.specs.Kinds.{as_question}
use Rattle.entries.specs.declared.Entry.{Entry}
use Rattle.entries.specs.Entries.{blank}
use Rattle.decide.specs.Rows.{value_at}
use Rattle.decide.specs.Meaning.{decision}
use Rattle.decide.proofs.RowByRow.{before_there}
use Rattle.possible.specs.Sets.{truths, single}
use Rattle.possible.specs.Possible.{possible}
use Rattle.possible.proofs.Images.{two_itself, one_result, own_result}
use Rattle.possible.proofs.Filling.{member_there}
use Rattle.questions.specs.Questions.{truth_set_by, asks_set, truth_set}

module _ (rows questions : List Entry) (known request j : ℕ) where
  abbrev e : Entry
  e = get_or questions j blank

  pub itself_true : (o : Order) → as_question e.kind ≡ Compare o → e.a ≡ e.b → truth_set rows questions known request j ≡ single true
  unfolding value_at truth_set_by
  itself_true o k q =
      rw (k, eq-eqb e.a e.b q) (two_itself truths (at_or_below o) _ (possible rows known request e.b)
      ∙ one_result truths (λ x. at_or_below o x x) true (reflexive o) (possible rows known request e.b) (decision rows request e.b)
      (member_there rows known request e.b))

  pub both_itself : as_question e.kind ≡ Both → e.a ≡ e.b → e.b < j →
      truth_set rows questions known request j ≡ truth_set rows questions known request e.b
  unfolding value_at truth_set_by
  both_itself k q lower =
      rw (k, eq-eqb e.a e.b q) (two_itself truths ◌&&◌ _ _ ∙ own_result truths (λ x. x && x) own _
      ∙ before_there (asks_set (possible rows known request)) (single true) questions j e.b lower)
    where
      own : (x : Bool) → (x && x) ≡ x
      own true = refl
      own false = refl

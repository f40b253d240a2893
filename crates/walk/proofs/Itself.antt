-- A row against itself, and a question (02, L3): a comparison of a row with itself holds after one visit, and "both" of a question and itself is walked as that
-- question is.
-- Assumes nothing.
use mathlib.Core.Path.{◌≡◌, refl, sym, ap, fun_ext, ◌∙◌}
use mathlib.Core.List.{List}
use Prim.Native.Nat.{ℕ, ◌-◌, ◌<◌}
use native.Mathlib.Omega.{arith}
use lib.ListN.{get_or}
use Rattle.belnap.specs.declared.orders.Order.{Order}
use Rattle.kinds.specs.declared.QuestionKind.TheVariants.{Compare, Both}
use Rattle.kinds.specs.Kinds.{as_question}
use Rattle.entries.specs.declared.Entry.{Entry}
use Rattle.entries.specs.Entries.{blank}
use Rattle.questions.proofs.Itself.{itself_true, both_itself}
use Rattle.walk.specs.declared.Look.{Look}
use Rattle.walk.specs.declared.Look.TheVariants.{Nothing}
use Rattle.walk.specs.declared.Reply.TheVariants.{Holds}
use Rattle.possible.specs.Sets.{truths, Set}
use Rattle.constraints.specs.declared.Standing.{Standing}
use Rattle.constraints.specs.declared.Standing.TheVariants.{Broken, Waiting, Kept}
use Rattle.constraints.specs.Constraints.{standing}
use Rattle.walk.specs.Walk.{look, heeding, walk_by, sees, walk, reply_of}
use Rattle.walk.proofs.Replies.{ends_here}

module _ (constraints rows questions : List Entry) (n j : ℕ) where
  abbrev e : Entry
  e = get_or questions j blank

  -- where nothing breaks the question, nothing is seen, however the facts stand
  nothing_seen : (s : Standing) → heeding s Nothing ≡ Nothing
  nothing_seen Broken = refl
  nothing_seen Waiting = refl
  nothing_seen Kept = refl

  pub itself_holds : (o : Order) → as_question e.kind ≡ Compare o → e.a ≡ e.b → (budget : ℕ) → 0 < budget →
      reply_of budget (walk constraints rows questions n j) ≡ Holds 1
  itself_holds o k q budget enough =
      let stands = standing constraints 0 0 in
      let root = ap (λ (t : Set truths). heeding stands (look t)) (itself_true rows questions 0 0 j o k q) ∙ nothing_seen stands in
      let whole : n - 0 ≡ n = omega arith in
      sym (rw whole at (ends_here (sees constraints rows questions j) n 0 0 budget Nothing root refl enough))

  pub both_walked : as_question e.kind ≡ Both → e.a ≡ e.b → e.b < j →
      walk constraints rows questions n j ≡ walk constraints rows questions n e.b
  both_walked k q lower =
      ap (λ (see : ℕ → ℕ → Look). walk_by see n)
      (fun_ext (λ known. fun_ext (λ facts.
      ap (λ (t : Set truths). heeding (standing constraints known facts) (look t)) (both_itself rows questions known facts j k q lower))))

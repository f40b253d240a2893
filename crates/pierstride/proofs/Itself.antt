-- A row against itself (02, L3), of the services' answers: "Where both numbers in a body are equal, one choice must serve both, in rows and in questions alike.
-- Sets may shrink and walks get shorter".
-- Assumes nothing.
use mathlib.Core.Path.{◌≡◌, sym, ap, subst, ◌∙◌}
use mathlib.Core.Bool.{true}
use mathlib.Core.List.{List}
use Prim.Native.Nat.{ℕ, ◌≤◌, ◌<◌}
use native.Mathlib.Omega.{arith}
use lib.Dec.{ltb}
use lib.ListN.{length, get_or}
use borrow.Author.Tests.{ltb-true, eq-eqb}
use Rattle.belnap.specs.declared.Decision.{Decision}
use Rattle.belnap.specs.declared.orders.Order.{Order}
use Rattle.belnap.specs.Decisions.{code}
use Rattle.belnap.proofs.Finite.{both_parts}
use Rattle.operators.specs.declared.TwoRow.{TwoRow}
use Rattle.operators.specs.Operators.{two}
use Rattle.kinds.specs.declared.RowKind.TheVariants.{Two}
use Rattle.kinds.specs.declared.QuestionKind.TheVariants.{Compare, Both}
use Rattle.kinds.specs.declared.Kind.{Kind}
use Rattle.kinds.specs.declared.Kind.TheVariants.{Question}
use Rattle.kinds.specs.Kinds.{as_row, as_question}
use Rattle.kinds.proofs.KindTable.{is_question_lem}
use Rattle.entries.specs.declared.Entry.{Entry}
use Rattle.entries.specs.Said.{answered}
use Rattle.entries.specs.Entries.{blank}
use Rattle.table.specs.Contents.{Contents, predicates}
use Rattle.table.specs.Steps.{tally}
use Rattle.table.specs.Whole.{named}
use Rattle.table.specs.Reading.{reading}
use Rattle.table.proofs.Laws.{question_sound}
use Rattle.decide.specs.Meaning.{bit}
use Rattle.possible.specs.Sets.{decisions, image_one, mask, of_mask}
use Rattle.possible.specs.Twice.{possible_twice}
use Rattle.possible.specs.Possible.{set_by}
use Rattle.possible.proofs.Images.{two_itself}
use Rattle.possible.proofs.Twice.{within_twice}
use Rattle.walk.specs.declared.Reply.TheVariants.{Holds}
use Rattle.walk.specs.Walk.{Visit, reply_of}
use Rattle.walk.proofs.Itself.{itself_holds as itself_walked, both_walked}
use Rattle.walk.proofs.Twice.{no_longer}
use Rattle.pierstride.specs.Services.{unfinished, replied_of, possible_answer, verdict_answer}
use Rattle.pierstride.specs.Demands.{needed, needed_twice}
use Rattle.pierstride.proofs.Answered.{accepted_bounded, replies}
use Rattle.pierstride.proofs.ThirdDemand.{unfinished_means, verdict_counts, possible_by_rule, set_has}

module _ (s : List ℕ) (c : Contents) (is : reading s ≡ answered c) where
  abbrev row : ℕ → Entry
  row r = get_or c.rows r blank

  abbrev question : ℕ → Entry
  question q = get_or c.questions q blank

  -- a row that names one row twice: what each decision in the set of that row gives with itself, and nothing else
  pub possible_itself : (r known request : ℕ) (op : TwoRow) → as_row (row r).kind ≡ Two op → (row r).a ≡ (row r).b →
      (possible_answer s r known request).refusal ≡ 0 →
      (possible_answer s r known request).set ≡
      mask decisions (image_one (λ x. two op x x) (of_mask decisions (possible_answer s (row r).b known request).set))
  unfolding set_by
  possible_itself r known request op k same told =
      possible_by_rule s c is r known request told
      ∙ ap (mask decisions) (rw (k, eq-eqb (row r).a (row r).b same) (two_itself decisions (two op) _ _))

  -- "The survey desk asked whether row 7 is at or below row 7": it holds, after the visit at the root
  pub itself_holds : (q b : ℕ) (o : Order) → as_question (question q).kind ≡ Compare o → (question q).a ≡ (question q).b →
      q < length c.questions → 0 < b → verdict_answer s q b ≡ replied_of (Holds 1)
  itself_holds q b o k same there enough =
      replies s c is q b there ∙ ap replied_of (itself_walked c.constraints c.rows c.questions (predicates c) q o k same b enough)

  -- both of a question and itself gets that question's verdict, request and count
  pub both_itself : (q b : ℕ) → as_question (question q).kind ≡ Both → (question q).a ≡ (question q).b → q < length c.questions →
      verdict_answer s q b ≡ verdict_answer s (question q).b b
  both_itself q b k same there =
      let sound = question_sound s c is q there in
      let before = tally (length c.constraints) (length c.rows) q in
      let names = subst (λ (kind : Kind). named (record { kind = kind; a = (question q).a; b = (question q).b }) before ≡ true)
      (is_question_lem (question q).kind sound.in_part ∙ ap Question k) sound.names in
      let lower = ltb-true (question q).b q (both_parts (ltb (question q).a q) (ltb (question q).b q) names).1 in
      replies s c is q b there
      ∙ ap (λ (vs : List Visit). replied_of (reply_of b vs)) (both_walked c.constraints c.rows c.questions (predicates c) q k same lower)
      ∙ sym (replies s c is (question q).b b (omega arith))

  -- "Sets may shrink": each decision that is shown was shown by 01's own choice
  pub possible_within : (r known request : ℕ) (told : (possible_answer s r known request).refusal ≡ 0) (v : Decision) →
      bit (possible_answer s r known request).set (code v) ≡ true → (possible_twice c.rows known request r).has v ≡ true
  possible_within r known request told v e =
      within_twice c.rows known request r v (sym (set_has s r known request told c is v) ∙ e)

  -- "and walks get shorter": no verdict takes more visits than it did, and a budget that was enough still is
  module _ (q b : ℕ) (there : q < length c.questions) where
    fewer : needed c q ≤ needed_twice c q
    fewer = no_longer c.constraints c.rows c.questions (predicates c) (accepted_bounded s c is) q

    pub count_no_larger : ((verdict_answer s q b).reply ≡ unfinished → ⊥) → (verdict_answer s q b).visits ≤ needed_twice c q
    count_no_larger enough = omega (arith, verdict_counts s c is q b there enough, fewer)

    pub still_enough : needed_twice c q ≤ b → (verdict_answer s q b).reply ≡ unfinished → ⊥
    still_enough l e = omega (arith, (unfinished_means s c is q b there e).0, fewer)

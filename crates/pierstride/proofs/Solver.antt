-- The solver's file and the judge of requests (02, L7), of the services' answers: what is written, what its clauses mean, and what the judge and the walk say
-- of each other.
-- Assumes nothing.
use mathlib.Core.Path.{◌≡◌, refl, sym, ap, ◌∙◌}
use mathlib.Core.Bool.{Bool, true, false, cond, not}
use mathlib.Core.List.{List}
use Prim.Native.Nat.{ℕ, ◌^◌, ◌≤◌, ◌<◌}
use native.Mathlib.Omega.{arith}
use lib.ListN.{length}
use borrow.Author.Tests.{lt-leb, le-leb, lt-ltb, not-true}
use Rattle.belnap.proofs.Finite.{both_parts}
use Rattle.entries.specs.Refusals.{not_there, bad_mask, output_too_short}
use Rattle.entries.specs.Said.{answered, refusing, refusal}
use Rattle.entries.specs.Output.{sent}
use Rattle.entries.proofs.Numbers.{by_order}
use Rattle.table.specs.Contents.{Contents, predicates}
use Rattle.table.specs.Reading.{reading}
use Rattle.constraints.specs.Constraints.{within}
use Rattle.questions.specs.Questions.{truth}
use Rattle.walk.proofs.Answers.{breaking_first}
use Rattle.clauses.specs.Clauses.{satisfies, Satisfiable, in_range, cut}
use Rattle.clauses.specs.Variables.{variables_of, negation_of}
use Rattle.clauses.proofs.Laws.{satisfying_breaks, breaking_satisfies}
use Rattle.clauses.proofs.Ranges.{literals_in_range}
use Rattle.dimacs.specs.Dimacs.{file_text, file_of}
use Rattle.pierstride.specs.declared.Judged.{Judged}
use Rattle.pierstride.specs.Services.{holding, failing, unfinished, walk_of, verdict_answer, written_of, says_file, dimacs_answer, dimacs_output}
use Rattle.pierstride.specs.Services.{breaking, judged_of, says_breaks, breaks_answer}
use Rattle.pierstride.specs.Demands.{Breaks, Within, Wrote}
use Rattle.pierstride.proofs.Answered.{accepted_bounded, replies}
use Rattle.pierstride.proofs.SecondDemand.{by_reply, holds_means, fails_means}
use Rattle.pierstride.proofs.WrittenTables.{wrote}

-- of an accepted table: 8 where the question is not there
module _ (s : List ℕ) (c : Contents) (is : reading s ≡ answered c) (q : ℕ) where
  pub file_missing : (out : List ℕ) → length c.questions ≤ q → dimacs_answer s q out ≡ written_of (refusing (refusal not_there 0))
  unfolding file_of sent
  file_missing out h = rw (is, le-leb (length c.questions) q h)

  pub judge_missing : (m : ℕ) → length c.questions ≤ q → breaks_answer s q m ≡ judged_of (refusing (refusal not_there 0))
  unfolding says_breaks
  judge_missing m h = rw (is, le-leb (length c.questions) q h)

  module _ (there : q < length c.questions) where
    abbrev n : ℕ
    n = predicates c

    -- the file, its variables and its clauses
    abbrev pub file : List ℕ
    file = file_text (variables_of c) (negation_of c q)

    says_file_lem : says_file s q ≡ answered file
    unfolding file_of
    says_file_lem = rw (is, lt-leb (length c.questions) q there)

    -- "the bytes written are the text of those clauses", where there is room for them; else 11
    pub file_written : (out : List ℕ) → length file ≤ length out → Wrote file out (dimacs_answer s q out) (dimacs_output s q out)
    file_written out l = wrote (says_file s q) out file says_file_lem l

    pub file_too_short : (out : List ℕ) → length out < length file → dimacs_answer s q out ≡ written_of (refusing (refusal output_too_short 0))
    unfolding sent
    file_too_short out l = rw (says_file_lem, lt-ltb (length out) (length file) l)

    -- "every literal between -V and V and not 0"
    pub file_literals : in_range (variables_of c) (negation_of c q) ≡ true
    file_literals = literals_in_range s c is q there

    -- the judge: 10 for a mask with a bit from n up; else yes exactly if the request is within the constraints and breaks the question
    pub judge_beyond : (m : ℕ) → 2 ^ n ≤ m → breaks_answer s q m ≡ judged_of (refusing (refusal bad_mask 0))
    unfolding says_breaks
    judge_beyond m h = rw (is, lt-leb (length c.questions) q there, le-leb (2 ^ n) m h)

    judges : (m : ℕ) → m < 2 ^ n → breaks_answer s q m ≡ judged_of (answered (breaking c q m))
    unfolding says_breaks
    judges m h = rw (is, lt-leb (length c.questions) q there, lt-leb (2 ^ n) m h)

    pub judge_means : (m : ℕ) → (breaks_answer s q m).breaks ≡ 1 → (m < 2 ^ n) × Within c m × Breaks c q m
    judge_means m e =
        by_order m (2 ^ n)
        (λ h. let parts = go (breaking c q m) refl (sym (ap (λ (j : Judged). j.breaks) (judges m h)) ∙ e) in (h, parts.0, parts.1))
        (λ h. absurd (omega (arith, sym (ap (λ (j : Judged). j.breaks) (judge_beyond m h)) ∙ e)))
      where
        go : (broken : Bool) → breaking c q m ≡ broken → ◌≡◌ {A = ℕ} (cond broken 1 0) 1 → Within c m × Breaks c q m
        go true p e =
            let parts = both_parts (within c.constraints m) (not (truth c.rows c.questions m q)) p in
            (parts.0, not-true (truth c.rows c.questions m q) parts.1)
        go false p e = absurd (omega (arith, e))

    pub judge_if : (m : ℕ) → m < 2 ^ n → Within c m → Breaks c q m → (breaks_answer s q m).breaks ≡ 1
    judge_if m h inside broken =
        let says : breaking c q m ≡ true = rw (inside, broken) in
        ap (λ (j : Judged). j.breaks) (judges m h) ∙ ap (λ (b : Bool). (judged_of (answered b)).breaks) says

    -- "Every assignment that satisfies the clauses, cut to the first n variables, is a request within L5's entries that breaks the question": the judge says
    -- yes
    pub solver_request : (A : ℕ → Bool) → satisfies A (negation_of c q) ≡ true → (breaks_answer s q (cut n A)).breaks ≡ 1
    solver_request A h = let b = satisfying_breaks s c is q there A h in judge_if (cut n A) b.0 b.1.0 b.1.1

    -- "Every request (below 2^n) that is within them and breaks the question extends to a satisfying assignment": each that the judge says yes to
    pub request_extends : (m : ℕ) → (breaks_answer s q m).breaks ≡ 1 → (A : ℕ → Bool) × (satisfies A (negation_of c q) ≡ true) × (cut n A ≡ m)
    request_extends m e = let b = judge_means m e in breaking_satisfies s c is q there m b.0 (b.1, b.2)

    module _ (budget : ℕ) where
      -- where the judge says yes of any request, the verdict is not "holds"; and it says yes of the request that a failing verdict gives
      pub judge_denies_holding : (m : ℕ) → (breaks_answer s q m).breaks ≡ 1 → (verdict_answer s q budget).reply ≡ holding → ⊥
      judge_denies_holding m e h = let b = judge_means m e in holds_means s c is q budget there h m b.1 b.2

      pub judge_confirms_failing : (verdict_answer s q budget).reply ≡ failing → (breaks_answer s q (verdict_answer s q budget).request).breaks ≡ 1
      judge_confirms_failing e =
          let f = fails_means s c is q budget there e in judge_if (verdict_answer s q budget).request f.2 f.0 f.1

      -- "satisfiable exactly if the question does not hold, and exactly if the walk with budget enough does not say 'holds'"
      pub satisfiable_denies_holding : Satisfiable (negation_of c q) → (verdict_answer s q budget).reply ≡ holding → ⊥
      satisfiable_denies_holding sat = judge_denies_holding (cut n sat.0) (solver_request sat.0 sat.1)

      pub not_holding_satisfiable : ((verdict_answer s q budget).reply ≡ unfinished → ⊥) → ((verdict_answer s q budget).reply ≡ holding → ⊥) →
          Satisfiable (negation_of c q)
      not_holding_satisfiable enough not-held =
          by_reply budget (walk_of c q) (verdict_answer s q budget) (replies s c is q budget there)
          (λ w l v. absurd (not-held (ap (λ v. v.reply) v)))
          (λ m w l v.
          let f = breaking_first c.constraints c.rows c.questions n (accepted_bounded s c is) q m w in
          let sat = breaking_satisfies s c is q there m f.2 (f.0, f.1) in (sat.0, sat.1))
          (λ l v. absurd (enough (ap (λ v. v.reply) v)))

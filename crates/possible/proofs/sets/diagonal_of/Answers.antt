-- That `sets::diagonal_of` (src/sets.rt) keeps its promise.
use Rattle.std.proofs.Common.{ℕ, ◌≡◌, ◌%◌, inl, inr, arith}
use Rattle.decide.specs.Meaning.{bit}
use Rattle.operators.specs.declared.TwoRow.{TwoRow}
use Rattle.operators.specs.declared.TwoRow.TheVariants.{TruthMeet, TruthJoin, KnowledgeMeet, KnowledgeJoin, Implication}
use Rattle.operators.specs.declared.TwoRow.TheVariants.{Guard, OverrideU, OverrideD, OverrideG, OverrideC}
use Rattle.operators.specs.Operators.{two}
use Rattle.possible.specs.Sets.{decisions, mask, of_mask, choosing, image_one}
use Rattle.possible.proofs.Words.{digit, word, in_word}
use Rattle.possible.proofs.sets.diagonal_of.Goals as goal

-- an image is a digit of the word that is computed from the definition; each arm gives this word
image : (op : TwoRow) (n : ℕ) → digit (word {F = decisions} {G = decisions} (image_one (λ x. two op x x))) (n % 16) ≡ mask decisions
    (image_one (λ x. two op x x) (of_mask decisions n))
image op = in_word decisions decisions (omega arith) (image_one (λ x. two op x x))

pub returns-in-Implication : goal.returns-in-Implication
unfolding mask of_mask bit choosing image_one
returns-in-Implication c = rw c.in-Implication.is (image Implication)

pub returns-in-Guard : goal.returns-in-Guard
unfolding mask of_mask bit choosing image_one
returns-in-Guard c = rw c.in-Guard.is (image Guard)

pub returns-in-TruthMeet : goal.returns-in-TruthMeet
unfolding mask of_mask bit choosing image_one
returns-in-TruthMeet c =
    elim c.in-TruthMeet.is [
      | inl e ↦ rw e (image TruthMeet)
      | inr e ↦ elim e [
        | inl e ↦ rw e (image TruthJoin)
        | inr e ↦ elim e [
          | inl e ↦ rw e (image KnowledgeMeet)
          | inr e ↦ elim e [
            | inl e ↦ rw e (image KnowledgeJoin)
            | inr e ↦ elim e [
              | inl e ↦ rw e (image OverrideU)
              | inr e ↦ elim e [
                | inl e ↦ rw e (image OverrideD)
                | inr e ↦ elim e [
                  | inl e ↦ rw e (image OverrideG)
                  | inr e ↦ rw e (image OverrideC)
                ]
              ]
            ]
          ]
        ]
      ]
    ]

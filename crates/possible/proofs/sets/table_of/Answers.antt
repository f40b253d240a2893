-- That `sets::table_of` (src/sets.rt) keeps its promise.
use Rattle.std.proofs.Common.{ℕ, ◌≡◌, ◌%◌, get_or, false, arith}
use Rattle.decide.specs.Meaning.{bit}
use Rattle.operators.specs.declared.TwoRow.{TwoRow}
use Rattle.operators.specs.declared.TwoRow.TheVariants.{TruthMeet, TruthJoin, KnowledgeMeet, KnowledgeJoin, Implication}
use Rattle.operators.specs.declared.TwoRow.TheVariants.{Guard, OverrideU, OverrideD, OverrideG, OverrideC}
use Rattle.operators.specs.Operators.{two}
use Rattle.possible.specs.Sets.{decisions, mask, of_mask, choosing, image_one, image_two}
use Rattle.possible.proofs.Words.{digit, words, in_words}
use Rattle.possible.proofs.sets.table_of.Goals as goal

-- an image is a digit of the words that are computed from the definition; each arm's table lists these
image : (op : TwoRow) (m n : ℕ) → digit (get_or (words {F = decisions} {G = decisions} (image_two (two op) false)) (m % 16) 0) (n % 16) ≡ mask decisions
    (image_two (two op) false (of_mask decisions m) (of_mask decisions n))
image op = in_words decisions decisions (omega arith) (image_two (two op) false)

pub returns-in-TruthMeet : goal.returns-in-TruthMeet
unfolding mask of_mask bit choosing image_one image_two
returns-in-TruthMeet c = rw c.in-TruthMeet.is (image TruthMeet)

pub returns-in-TruthJoin : goal.returns-in-TruthJoin
unfolding mask of_mask bit choosing image_one image_two
returns-in-TruthJoin c = rw c.in-TruthJoin.is (image TruthJoin)

pub returns-in-KnowledgeMeet : goal.returns-in-KnowledgeMeet
unfolding mask of_mask bit choosing image_one image_two
returns-in-KnowledgeMeet c = rw c.in-KnowledgeMeet.is (image KnowledgeMeet)

pub returns-in-KnowledgeJoin : goal.returns-in-KnowledgeJoin
unfolding mask of_mask bit choosing image_one image_two
returns-in-KnowledgeJoin c = rw c.in-KnowledgeJoin.is (image KnowledgeJoin)

pub returns-in-Implication : goal.returns-in-Implication
unfolding mask of_mask bit choosing image_one image_two
returns-in-Implication c = rw c.in-Implication.is (image Implication)

pub returns-in-Guard : goal.returns-in-Guard
unfolding mask of_mask bit choosing image_one image_two
returns-in-Guard c = rw c.in-Guard.is (image Guard)

pub returns-in-OverrideU : goal.returns-in-OverrideU
unfolding mask of_mask bit choosing image_one image_two
returns-in-OverrideU c = rw c.in-OverrideU.is (image OverrideU)

pub returns-in-OverrideD : goal.returns-in-OverrideD
unfolding mask of_mask bit choosing image_one image_two
returns-in-OverrideD c = rw c.in-OverrideD.is (image OverrideD)

pub returns-in-OverrideG : goal.returns-in-OverrideG
unfolding mask of_mask bit choosing image_one image_two
returns-in-OverrideG c = rw c.in-OverrideG.is (image OverrideG)

pub returns-in-OverrideC : goal.returns-in-OverrideC
unfolding mask of_mask bit choosing image_one image_two
returns-in-OverrideC c = rw c.in-OverrideC.is (image OverrideC)

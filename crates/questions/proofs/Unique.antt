-- Each public call's promise leaves one answer, or one content for the output (belnap/specs/One.antt).
-- Stated of the promises themselves, so that one that says less is refused here.
-- Assumes nothing.
use mathlib.Core.Path.{refl}
use Rattle.belnap.specs.One.{One, OneOutput}
use Rattle.belnap.proofs.Unique.{by_definition}
use Rattle.questions.proofs.fill_truths.Reads as fill_truths
use Rattle.questions.proofs.top_of.Reads as top_of
use Rattle.questions.proofs.QuestionRuleRuleU8.read.Reads as question_read
use Rattle.questions.proofs.QuestionRuleRuleU8.value.Reads as question_value
use Rattle.questions.proofs.TopRuleRuleU16.read.Reads as top_read
use Rattle.questions.proofs.TopRuleRuleU16.value.Reads as top_value

-- it answers nothing beside the output
pub one_filling : OneOutput fill_truths.Post (λ κs exit. exit.1.1.0)
one_filling κs args e f a b p q = (refl, by_definition _ _ p q)

pub one_top : One top_of.Post
one_top κs args exit a b p q = by_definition a b p.0 q.0

pub one_question_read : One question_read.Post
one_question_read κs args exit = by_definition

pub one_question_value : One question_value.Post
one_question_value κs args exit = by_definition

pub one_top_read : One top_read.Post
one_top_read κs args exit = by_definition

pub one_top_value : One top_value.Post
one_top_value κs args exit a b p q = by_definition a b p.0 q.0

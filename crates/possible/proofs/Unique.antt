-- Each public call's promise leaves one answer, and one content for the output (belnap/specs/One.antt).
-- Stated of the promises themselves, so that one that says less is refused here.
-- Assumes nothing.
use mathlib.Core.Path.{refl}
use Rattle.belnap.specs.One.{One, OneOutput}
use Rattle.belnap.proofs.Unique.{by_definition}
use Rattle.possible.proofs.sets.digit.Reads as digit
use Rattle.possible.proofs.mask_at.Reads as mask_at
use Rattle.possible.proofs.fill_sets.Reads as fill_sets
use Rattle.possible.proofs.possible.Reads as possible
use Rattle.possible.proofs.RowRuleRuleU8.read.Reads as row_read
use Rattle.possible.proofs.RowRuleRuleU8.value.Reads as row_value

pub one_digit : One digit.Post
one_digit κs args exit = by_definition

pub one_mask : One mask_at.Post
one_mask κs args exit = by_definition

-- it answers nothing beside the output
pub one_filling : OneOutput fill_sets.Post (λ κs exit. exit.1.1.0)
one_filling κs args e f a b p q = (refl, by_definition _ _ p q)

pub one_set : One possible.Post
one_set κs args exit = by_definition

pub one_row_read : One row_read.Post
one_row_read κs args exit = by_definition

pub one_row_value : One row_value.Post
one_row_value κs args exit = by_definition

-- Each public call's promise leaves one answer, and one content for the output (belnap/specs/One.antt).
-- Stated of the promises themselves, so that one that says less is refused here.
-- Assumes nothing.
use mathlib.Core.Path.{sym, ◌∙◌}
use Rattle.belnap.specs.One.{One, OneOutput}
use Rattle.belnap.proofs.Unique.{by_definition}
use Rattle.entries.proofs.Saying.{same_refusal}
use Rattle.entries.proofs.refusals.Refusal.of.Reads as refusal
use Rattle.entries.proofs.refusals.Reason.number.Reads as number
use Rattle.entries.proofs.index.Reads as index
use Rattle.entries.proofs.body_size.Reads as body_size
use Rattle.entries.proofs.size_of.Reads as size_of
use Rattle.entries.proofs.uses_of.Reads as uses_of
use Rattle.entries.proofs.names_row.Reads as names_row
use Rattle.entries.proofs.put.Reads as put

pub one_own : One refusal.Post
one_own κs args exit a b p q = same_refusal a b (p ∙ sym q)

pub one_number : One number.Post
one_number κs args exit = by_definition

pub one_index : One index.Post
one_index κs args exit a b p q = by_definition a b p.0 q.0

pub one_body : One body_size.Post
one_body κs args exit a b p q = by_definition a b p.0 q.0

pub one_size : One size_of.Post
one_size κs args exit a b p q = by_definition a b p.0 q.0

pub one_use : One uses_of.Post
one_use κs args exit a b p q = by_definition a b p.0 q.0

pub one_named : One names_row.Post
one_named κs args exit = by_definition

pub one_put : OneOutput put.Post (λ κs exit. exit.0)
one_put κs args e f a b p q = (by_definition a b p.0 q.0, by_definition _ _ p.1 q.1)

-- Each public call's promise leaves one answer (specs/One.antt). Stated of the promises themselves, so that one that says less is refused here.
-- Assumes nothing.
use mathlib.Core.Path.{◌≡◌, sym, ◌∙◌}
use Rattle.belnap.specs.One.{One}
use Rattle.belnap.proofs.grants.Reads as grants
use Rattle.belnap.proofs.denies.Reads as denies
use Rattle.belnap.proofs.claiming.Reads as claiming
use Rattle.belnap.proofs.code_of.Reads as code_of
use Rattle.belnap.proofs.decision_of.Reads as decision_of
use Rattle.belnap.proofs.lattice.negation.Reads as negation
use Rattle.belnap.proofs.lattice.conflation.Reads as conflation
use Rattle.belnap.proofs.lattice.truth_meet.Reads as truth_meet
use Rattle.belnap.proofs.lattice.truth_join.Reads as truth_join
use Rattle.belnap.proofs.lattice.knowledge_meet.Reads as knowledge_meet
use Rattle.belnap.proofs.lattice.knowledge_join.Reads as knowledge_join

-- two that equal a third: the answers of any promise of the form `answer ≡ definition`
pub by_definition : {A : Type 0} {x : A} → (a b : A) → a ≡ x → b ≡ x → a ≡ b
by_definition a b p q = p ∙ sym q

pub one_grants : One grants.Post
one_grants κs args exit = by_definition

pub one_denies : One denies.Post
one_denies κs args exit = by_definition

pub one_claiming : One claiming.Post
one_claiming κs args exit = by_definition

pub one_code : One code_of.Post
one_code κs args exit = by_definition

pub one_coded : One decision_of.Post
one_coded κs args exit = by_definition

pub one_negation : One negation.Post
one_negation κs args exit = by_definition

pub one_conflation : One conflation.Post
one_conflation κs args exit = by_definition

pub one_truth_meet : One truth_meet.Post
one_truth_meet κs args exit = by_definition

pub one_truth_join : One truth_join.Post
one_truth_join κs args exit = by_definition

pub one_knowledge_meet : One knowledge_meet.Post
one_knowledge_meet κs args exit = by_definition

pub one_knowledge_join : One knowledge_join.Post
one_knowledge_join κs args exit = by_definition

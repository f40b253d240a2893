-- Each public call's promise leaves one answer (belnap/specs/One.antt).
-- Stated of the promises themselves, so that one that says less is refused here.
-- Assumes nothing.
use Rattle.belnap.specs.One.{One}
use Rattle.belnap.proofs.Unique.{by_definition}
use Rattle.clauses.proofs.LiteralNot.not.Reads as negated
use Rattle.clauses.proofs.truth_at.Reads as truth_at
use Rattle.clauses.proofs.rules_of.Reads as rules_of
use Rattle.clauses.proofs.clause_count.Reads as clause_count
use Rattle.clauses.proofs.clause_of.Reads as clause_of

pub one_negation : One negated.Post
one_negation κs args exit = by_definition

pub one_truth : One truth_at.Post
one_truth κs args exit = by_definition

pub one_rules : One rules_of.Post
one_rules κs args exit = by_definition

pub one_count : One clause_count.Post
one_count κs args exit a b p q = by_definition a b p.0 q.0

pub one_clause : One clause_of.Post
one_clause κs args exit = by_definition

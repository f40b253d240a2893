-- Each exported call's promise leaves one answer, and one content for the output (belnap/specs/One.antt).
-- Stated of the promises themselves, so that one that says less is refused here.
-- Assumes nothing.
use Rattle.belnap.specs.One.{One, OneOutput}
use Rattle.belnap.proofs.Unique.{by_definition}
use Rattle.pierstride_c.proofs.pier_read.Reads as pier_read
use Rattle.pierstride_c.proofs.pier_decide.Reads as pier_decide
use Rattle.pierstride_c.proofs.pier_possible.Reads as pier_possible
use Rattle.pierstride_c.proofs.pier_verdict.Reads as pier_verdict
use Rattle.pierstride_c.proofs.pier_breaks.Reads as pier_breaks
use Rattle.pierstride_c.proofs.pier_entry.Reads as pier_entry
use Rattle.pierstride_c.proofs.pier_strike.Reads as pier_strike
use Rattle.pierstride_c.proofs.pier_suppliers.Reads as pier_suppliers
use Rattle.pierstride_c.proofs.pier_dimacs.Reads as pier_dimacs
use Rattle.pierstride_c.proofs.pier_to_text.Reads as pier_to_text
use Rattle.pierstride_c.proofs.pier_from_text.Reads as pier_from_text

pub one_read : One pier_read.Post
one_read κs args exit = by_definition

pub one_decide : One pier_decide.Post
one_decide κs args exit = by_definition

pub one_possible : One pier_possible.Post
one_possible κs args exit = by_definition

pub one_verdict : One pier_verdict.Post
one_verdict κs args exit = by_definition

pub one_breaks : One pier_breaks.Post
one_breaks κs args exit = by_definition

pub one_entry : One pier_entry.Post
one_entry κs args exit = by_definition

pub one_strike : OneOutput pier_strike.Post (λ κs exit. exit.1.1.0)
one_strike κs args e f a b p q = (by_definition a b p.0 q.0, by_definition _ _ p.1 q.1)

pub one_suppliers : OneOutput pier_suppliers.Post (λ κs exit. exit.1.1.0)
one_suppliers κs args e f a b p q = (by_definition a b p.0 q.0, by_definition _ _ p.1 q.1)

pub one_dimacs : OneOutput pier_dimacs.Post (λ κs exit. exit.1.1.0)
one_dimacs κs args e f a b p q = (by_definition a b p.0 q.0, by_definition _ _ p.1 q.1)

pub one_to_text : OneOutput pier_to_text.Post (λ κs exit. exit.1.0)
one_to_text κs args e f a b p q = (by_definition a b p.0 q.0, by_definition _ _ p.1 q.1)

pub one_from_text : OneOutput pier_from_text.Post (λ κs exit. exit.1.0)
one_from_text κs args e f a b p q = (by_definition a b p.0 q.0, by_definition _ _ p.1 q.1)

-- Each public call's promise leaves one answer, and one content for the output (belnap/specs/One.antt).
-- Stated of the promises themselves, so that one that says less is refused here.
-- Assumes nothing.
use Rattle.belnap.specs.One.{OneOutput}
use Rattle.belnap.proofs.Unique.{by_definition}
use Rattle.entries.proofs.Saying.{by_saying}
use Rattle.strike.proofs.strike.Reads as strike

pub one_striking : OneOutput strike.Post (λ κs exit. exit.1.1.0)
one_striking κs args e f a b p q = (by_saying a b p.0 q.0, by_definition _ _ p.1 q.1)

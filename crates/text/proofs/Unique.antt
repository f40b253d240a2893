-- Each public call's promise leaves one answer, and one content for the output (belnap/specs/One.antt).
-- Stated of the promises themselves, so that one that says less is refused here.
-- Assumes nothing.
use Rattle.belnap.specs.One.{OneOutput}
use Rattle.belnap.proofs.Unique.{by_definition}
use Rattle.entries.proofs.Saying.{by_saying}
use Rattle.text.proofs.to_text.Reads as to_text
use Rattle.text.proofs.from_text.Reads as from_text

pub one_writing : OneOutput to_text.Post (λ κs exit. exit.1.0)
one_writing κs args e f a b p q = (by_saying a b p.0 q.0, by_definition _ _ p.1 q.1)

pub one_reading : OneOutput from_text.Post (λ κs exit. exit.1.0)
one_reading κs args e f a b p q = (by_saying a b p.0 q.0, by_definition _ _ p.1 q.1)

-- Each public call's promise leaves one answer (belnap/specs/One.antt).
-- Stated of the promises themselves, so that one that says less is refused here.
-- Assumes nothing.
use Rattle.belnap.specs.One.{One}
use Rattle.belnap.proofs.Unique.{by_definition}
use Rattle.walk.proofs.verdict.Reads as verdict
use Rattle.walk.proofs.breaks.Reads as breaks

pub one_reply : One verdict.Post
one_reply κs args exit = by_definition

pub one_judgement : One breaks.Post
one_judgement κs args exit = by_definition

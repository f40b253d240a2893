-- Each public call's promise leaves one answer (belnap/specs/One.antt). Stated of the promises themselves, so that one that says less is refused here.
-- Assumes nothing.
use Rattle.belnap.specs.One.{One}
use Rattle.belnap.proofs.Unique.{by_definition}
use Rattle.constraints.proofs.met.Reads as met

pub one_standing : One met.Post
one_standing κs args exit = by_definition

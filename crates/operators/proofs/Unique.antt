-- Each public call's promise leaves one answer (belnap/specs/One.antt). Stated of the promises themselves, so that one that says less is refused here.
-- Assumes nothing.
use Rattle.belnap.specs.One.{One}
use Rattle.belnap.proofs.Unique.{by_definition}
use Rattle.operators.proofs.apply_one.Reads as apply_one
use Rattle.operators.proofs.apply_two.Reads as apply_two

pub one_row : One apply_one.Post
one_row κs args exit = by_definition

pub two_rows : One apply_two.Post
two_rows κs args exit = by_definition

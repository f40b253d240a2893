-- Each public call's promise leaves one answer, and one content for the output (belnap/specs/One.antt).
-- Stated of the promises themselves, so that one that says less is refused here.
-- Assumes nothing.
use Rattle.belnap.specs.One.{One, OneOutput}
use Rattle.belnap.proofs.Unique.{by_definition}
use Rattle.decimal.proofs.put_byte.Reads as put_byte
use Rattle.decimal.proofs.put_decimal.Reads as put_decimal
use Rattle.decimal.proofs.decimal_size.Reads as decimal_size
use Rattle.decimal.proofs.number_of.Reads as number_of

pub one_byte : OneOutput put_byte.Post (λ κs exit. exit.0)
one_byte κs args e f a b p q = (by_definition a b p.reached q.reached, by_definition _ _ p.stored q.stored)

pub one_decimal : OneOutput put_decimal.Post (λ κs exit. exit.0)
one_decimal κs args e f a b p q = (by_definition a b p.reached q.reached, by_definition _ _ p.stored q.stored)

pub one_size : One decimal_size.Post
one_size κs args exit a b p q = by_definition a b p.0 q.0

pub one_number : One number_of.Post
one_number κs args exit = by_definition

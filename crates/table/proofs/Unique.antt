-- Each public call's promise leaves one answer, and one content for the output (belnap/specs/One.antt).
-- Stated of the promises themselves, so that one that says less is refused here.
-- Assumes nothing.
use mathlib.Core.Path.{ap₂}
use Rattle.std.specs.Prelude.{Result}
use Rattle.entries.specs.declared.refusals.Refusal.{Refusal}
use Rattle.entries.proofs.Saying.{by_saying}
use Rattle.table.specs.declared.Table.{Table}
use Rattle.table.proofs.accept.Reads as accept
use Rattle.belnap.specs.One.{One, OneOutput}
use Rattle.belnap.proofs.Unique.{by_definition}
use Rattle.table.proofs.Table.empty.Reads as empty
use Rattle.table.proofs.read.Reads as read
use Rattle.table.proofs.steps.enter.Reads as enter
use Rattle.table.proofs.suppliers.supplying.Reads as supplying
use Rattle.table.proofs.suppliers.behind.Reads as behind
use Rattle.table.proofs.suppliers.change_size.Reads as change_size
use Rattle.table.proofs.suppliers.put.Reads as put

pub one_empty : One empty.Post
one_empty κs args exit = by_definition

pub one_reading : One read.Post
one_reading κs args exit a b p q =
    ap₂ (λ (t : Table) (o : Result Unit Refusal). record { table = t; outcome = o }) (by_definition _ _ p.0 q.0) (by_saying _ _ p.1 q.1)

pub one_accepted : One accept.Post
one_accepted κs args exit = by_saying

pub one_entered : One enter.Post
one_entered κs args exit = by_saying

pub one_supplying : One supplying.Post
one_supplying κs args exit = by_definition

pub one_behind : One behind.Post
one_behind κs args exit = by_definition

pub one_change : One change_size.Post
one_change κs args exit a b p q = by_definition a b p.0 q.0

pub one_put : OneOutput put.Post (λ κs exit. exit.0)
one_put κs args e f a b p q = (by_definition a b p.0 q.0, by_definition _ _ p.1 q.1)

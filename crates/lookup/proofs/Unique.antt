-- Each public call's promise leaves one answer, and one place for a returned part (belnap/specs/One.antt).
-- Stated of the promises themselves, so that one that says less is refused here.
-- Assumes nothing.
use mathlib.Core.Path.{ap₂, sym, ◌∙◌}
use Prim.Native.Nat.{ℕ}
use Rattle.belnap.specs.One.{One, OnePart}
use Rattle.belnap.proofs.Unique.{by_definition}
use Rattle.entries.proofs.Saying.{by_saying, same_told}
use Rattle.lookup.proofs.find.Reads as find
use Rattle.lookup.proofs.entry.Reads as entry
use Rattle.lookup.proofs.entry_refusal.Reads as entry_refusal

pub one_place : One find.Post
one_place κs args exit = by_saying

pub one_part : OnePart entry.Post
one_part κs args exit a b p q =
    let place = p.1 in
    let other = q.1 in
    (by_definition _ _ p.0 q.0, ap₂ {A = ℕ} {B = ℕ} (λ block offset. (block, offset)) (place.0 ∙ sym other.0) (place.1 ∙ sym other.1))

pub one_refusal : One entry_refusal.Post
one_refusal κs args exit a b p q = same_told a b (p ∙ sym q)

-- That `steps::step_at` (src/steps.rt) keeps its promise.
use Rattle.std.proofs.Common.{◌≡◌, ◌∙◌, ◌+◌, ℕ, zero, suc, refl, ap, arith}
use lib.Seq.{drop-drop}
use Rattle.table.specs.Steps.{no_room, step_of, judged}
use Rattle.entries.specs.Refusals.{cut_short}
use Rattle.entries.specs.Entries.{numbers_of}
use Rattle.entries.specs.declared.Entry.{Entry}
use Rattle.entries.specs.Said.{Said, refusing, refusal, unless, or_else}
use Rattle.entries.proofs.OneEntry.{size}
use Rattle.table.proofs.steps.step_at.Goals as goal

pub returns-in-Unknown : goal.returns-in-Unknown
unfolding step_of judged
returns-in-Unknown c = rw (← c.in-Unknown.ensures) (ap refusing c.of.ensures)

-- why an entry that is cut short is refused
cut_said : (n : ℕ) → ◌≡◌ {A = Said Entry} (refusing (refusal (or_else n cut_short) 0)) (unless n (refusing (refusal cut_short 0)))
cut_said zero = refl
cut_said (suc n) = refl

pub returns-in-Cut : goal.returns-in-Cut
unfolding step_of judged
returns-in-Cut c = rw (← c.in-Cut.ensures) (ap refusing c.cut_short.ensures ∙ cut_said (no_room c.in-Cut.kind c.args.before))

pub returns-in-Full : goal.returns-in-Full
unfolding step_of judged
returns-in-Full c =
    let e = c.in-Full.e in
    let next : c.args.at + c.size_of.result ≡ c.args.at + 1 + numbers_of e = omega (arith, c.size_of.ensures.0, size e) in
    rw (← c.in-Full.ensures, drop-drop (numbers_of e) (c.args.at + 1) c.args.s.now, ← next, ← c.placed_at.ensures) c.permit.ensures

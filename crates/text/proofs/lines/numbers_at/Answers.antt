-- That `numbers_at` (src/lines.rt) keeps its promise.
use Rattle.std.proofs.Common.{◌≡◌, ℕ, Bool, true, false, eqb, refl, sym, ap, ◌∙◌, arith}
use Rattle.std.specs.Prelude.{Result, Ok, Err}
use Rattle.std.specs.Result.{result_eq}
use Rattle.decimal.specs.declared.Misread.{Misread}
use Rattle.decimal.specs.declared.Misread.TheVariants.{Large, Misspelt}
use Rattle.decimal.specs.contracts.MisreadPartialEq.TheImpl.{eq-value as the_eq}
use Rattle.entries.specs.Said.{refusing}
use Rattle.text.proofs.Scanning.{scan_all, next_within, turn_large, turn_other, turn_end}
use Rattle.text.proofs.lines.numbers_at.Goals as goal

pub slice_bounds-piece-end : goal.slice_bounds-piece-end
slice_bounds-piece-end c = next_within _ _ _ _ c.loop-at-test.true c.next_of-to.ensures

-- what the comparison with a number that is too large tells
abbrev told : Result ℕ Misread → Bool
told r = result_eq eqb the_eq.it r (Err Large)

large : (r : Result ℕ Misread) → told r ≡ true → r ≡ Err Large
large (Ok x) h = cc
large (Err Large) h = refl
large (Err Misspelt) h = cc

other : (r : Result ℕ Misread) → told r ≡ false → r ≡ Err Large → ⊥
other (Ok x) h q = cc
other (Err Large) h q = cc h
other (Err Misspelt) h q = cc

pub returns-then-eq : goal.returns-then-eq
returns-then-eq c =
    let l = c.loop-at in
    let turn = turn_large c.args.kind l.count l.good l.a l.b _ _ _ _ c.loop-at-test.true c.next_of-to.ensures c.number_of-number.ensures
    (large _ (sym c.eq.ensures ∙ c.if-eq.true)) in
    ap refusing c.of.ensures ∙ (sym turn ∙ l.invariant.says ∙ scan_all c.args.kind _)

pub loop-at-preserved : goal.loop-at-preserved
loop-at-preserved c =
    let l = c.loop-at in
    let turn = turn_other c.args.kind l.count l.good l.a l.b _ _ _ _ c.loop-at-test.true c.next_of-to.ensures c.number_of-number.ensures
    (other _ (sym c.eq.ensures ∙ c.if-eq.false)) in record {
      within = next_within _ _ _ _ c.loop-at-test.true c.next_of-to.ensures;
      few = omega (arith, c.next_of-to.ensures);
      says = rw (c.is_ok-good.ensures.value, c.pick-a.ensures, c.pick-b.ensures, c.unwrap_or-value.ensures) (sym turn ∙ l.invariant.says);
    }

pub returns-then-count-body_size : goal.returns-then-count-body_size
returns-then-count-body_size c =
    let l = c.loop-at in
    let end = turn_end c.args.kind l.count l.good l.a l.b _ _ c.loop-at-test.false in
    sym (sym (scan_all c.args.kind _) ∙ sym l.invariant.says ∙ end ∙ rw (← c.body_size.ensures.0, c.if-count-body_size.true))

pub returns : goal.returns
returns c =
    let l = c.loop-at in
    let end = turn_end c.args.kind l.count l.good l.a l.b _ _ c.loop-at-test.false in
    ap refusing c.of-2.ensures ∙ sym (sym (scan_all c.args.kind _) ∙ sym l.invariant.says ∙ end
    ∙ rw (← c.body_size.ensures.0, c.if-count-body_size.false))

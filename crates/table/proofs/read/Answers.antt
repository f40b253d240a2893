-- That `read` (src/lib.rt) keeps its promise.
use Rattle.std.proofs.Common.{arith, ◌≡◌, ◌∙◌, ◌+◌, refl, sym, ap, max}
use Rattle.kinds.specs.declared.Kind.{Kind}
use Rattle.kinds.specs.declared.Kind.TheVariants.{Row, Question, Constraint, Supplier}
use Rattle.entries.specs.Entries.{size_of, uses}
use Rattle.entries.specs.Said.{told}
use Rattle.entries.proofs.OneEntry.{size}
use Rattle.table.specs.Suppliers.{force_behind}
use Rattle.table.proofs.Turns.{At, start, room_for, room_here, inside_of, stored, counting, grown, taken, bad, bad_inside, done}
use Rattle.table.proofs.read.Goals as goal
use Rattle.table.proofs.read.Goals.{in-Row, in-Question, in-Constraint, in-Supplier}

pub loop-at-init : goal.loop-at-init
loop-at-init c = start c.args.s.now c.empty-t.result c.empty-t.ensures

-- an entry that was read: there is room for it, by its kind
pub offset_bounds-t-before : goal.offset_bounds-t-before
offset_bounds-t-before c =
    record { fits = omega (arith, (room_for c.loop-at.invariant c.loop-at-test.true c.in-Ok.e _ (sym c.in-Ok.ensures) c.in-Row.is).0) }

pub bounds-t-before : goal.bounds-t-before
bounds-t-before c = (room_for c.loop-at.invariant c.loop-at-test.true c.in-Ok.e _ (sym c.in-Ok.ensures) c.in-Row.is).0

pub bounds-t-before-in-Row : goal.bounds-t-before-in-Row
bounds-t-before-in-Row c = (room_for c.loop-at.invariant c.loop-at-test.true c.in-Ok.e _ (sym c.in-Ok.ensures) c.in-Row.is).0

pub offset_bounds-t-before-in-Question : goal.offset_bounds-t-before-in-Question
offset_bounds-t-before-in-Question c =
    record { fits = omega (arith, room_for c.loop-at.invariant c.loop-at-test.true c.in-Ok.e _ (sym c.in-Ok.ensures) c.in-Question.is) }

pub bounds-t-before-in-Question : goal.bounds-t-before-in-Question
bounds-t-before-in-Question c = room_for c.loop-at.invariant c.loop-at-test.true c.in-Ok.e _ (sym c.in-Ok.ensures) c.in-Question.is

pub offset_bounds-t-before-in-Constraint : goal.offset_bounds-t-before-in-Constraint
offset_bounds-t-before-in-Constraint c =
    record { fits = omega (arith, (room_for c.loop-at.invariant c.loop-at-test.true c.in-Ok.e _ (sym c.in-Ok.ensures) c.in-Constraint.is).0) }

pub bounds-t-before-in-Constraint : goal.bounds-t-before-in-Constraint
bounds-t-before-in-Constraint c = (room_for c.loop-at.invariant c.loop-at-test.true c.in-Ok.e _ (sym c.in-Ok.ensures) c.in-Constraint.is).0

pub one_more-t-requires : goal.one_more-t-requires
one_more-t-requires c = room_here c.loop-at.invariant c.loop-at-test.true c.in-Ok.e (sym c.in-Ok.ensures)

pub loop-at-smaller : goal.loop-at-smaller
loop-at-smaller c =
    let inside = inside_of c.loop-at.invariant c.loop-at-test.true c.in-Ok.e (sym c.in-Ok.ensures) in
    omega (arith, inside, c.size_of-at.ensures.0, size c.in-Ok.e)

pub loop-at-preserved : goal.loop-at-preserved
loop-at-preserved c =
    let e = c.in-Ok.e in
    let now = c.loop-at in
    let came = c.match-e in
    let read = sym c.in-Ok.ensures in
    let larger : c.max.result ≡ max came.t.predicates (uses e) = c.max.ensures ∙ ap (max came.t.predicates) c.uses_of.ensures.0 in
    let next : (kind : Kind) → e.kind ≡ kind → came.t ≡ stored kind now.force e now.t → came.force ≡ force_behind kind now.force e.a →
    At c.args.s.now (counting came.t c.one_more-t.result c.max.result) came.force (now.at + size_of e) =
    λ kind p q r. taken now.invariant c.loop-at-test.true e _ came.force read
    (grown now.invariant c.loop-at-test.true kind e came.t c.max.result c.one_more-t.result read p q larger c.one_more-t.ensures)
    (r ∙ ap (λ (k : Kind). force_behind k now.force e.a) (sym p)) in
    rw c.size_of-at.ensures.0
    (elim came.branch [
      | in-Row w ↦ next (Row w.in-Row.field-0) w.in-Row.is w.t-is w.force-is
      | in-Question w ↦ next (Question w.in-Question.field-0) w.in-Question.is w.t-is w.force-is
      | in-Constraint w ↦ next (Constraint w.in-Constraint.field-0) w.in-Constraint.is w.t-is w.force-is
      | in-Supplier w ↦ next Supplier w.in-Supplier.is w.t-is w.force-is
    ])

-- an entry that was refused
pub overflow_add-at-in-Err : goal.overflow_add-at-in-Err
overflow_add-at-in-Err c =
    record { fits = omega (arith, bad_inside c.loop-at.invariant c.loop-at-test.true (told c.in-Err.why) (sym c.in-Err.ensures)) }

pub returns-in-Err-clause-table : goal.returns-in-Err-clause-table
returns-in-Err-clause-table c =
    rw (bad c.loop-at.invariant c.loop-at-test.true (told c.in-Err.why) (sym c.in-Err.ensures)) c.refused.ensures.table

pub returns-in-Err-clause-outcome : goal.returns-in-Err-clause-outcome
returns-in-Err-clause-outcome c =
    rw (bad c.loop-at.invariant c.loop-at-test.true (told c.in-Err.why) (sym c.in-Err.ensures), c.refused.ensures.outcome) refl

-- all bytes read
pub returns-clause-table : goal.returns-clause-table
returns-clause-table c = c.loop-at.invariant.stands ∙ rw (done c.loop-at.invariant c.loop-at-test.false) refl

pub returns-clause-outcome : goal.returns-clause-outcome
returns-clause-outcome c = rw (done c.loop-at.invariant c.loop-at-test.false) refl

-- That `steps::one_more` (src/steps.rt) keeps its promise: there is room for one more.
use Rattle.std.proofs.Common.{arith}
use Rattle.kinds.specs.declared.Kind.TheVariants.{Row, Question, Constraint}
use Rattle.table.proofs.Permission.{room_of}
use Rattle.table.proofs.steps.one_more.Goals as goal

pub overflow_add-more : goal.overflow_add-more
overflow_add-more c = record { fits = omega (arith, (room_of (Row c.in-Row.field-0) c.args.before (rw c.in-Row.is at c.requires)).0) }

pub overflow_add-more-in-Question : goal.overflow_add-more-in-Question
overflow_add-more-in-Question c =
    record { fits = omega (arith, room_of (Question c.in-Question.field-0) c.args.before (rw c.in-Question.is at c.requires)) }

pub overflow_add-more-in-Constraint : goal.overflow_add-more-in-Constraint
overflow_add-more-in-Constraint c =
    record { fits = omega (arith, (room_of (Constraint c.in-Constraint.field-0) c.args.before (rw c.in-Constraint.is at c.requires)).0) }

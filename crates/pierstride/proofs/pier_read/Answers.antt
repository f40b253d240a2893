-- That `pier_read` (src/lib.rt) keeps its promise.
use Rattle.std.proofs.Common.{arith}
use Rattle.table.proofs.Opening.{opened}
use Rattle.pierstride.proofs.Serving.{used_is, asked_is, few, counts_answer}
use Rattle.pierstride.proofs.pier_read.Goals as goal

pub overflow_cast-result : goal.overflow_cast-result
overflow_cast-result c =
    let o = opened _ _ c.in-Ok.t c.accept.ensures c.in-Ok.is in
    record { fits = omega (arith, used_is o, o.whole.rows_fit) }

pub overflow_cast-result-in-Ok : goal.overflow_cast-result-in-Ok
overflow_cast-result-in-Ok c =
    let o = opened _ _ c.in-Ok.t c.accept.ensures c.in-Ok.is in
    record { fits = omega (arith, asked_is o, o.whole.questions_fit) }

pub overflow_cast-result-in-Ok-2 : goal.overflow_cast-result-in-Ok-2
overflow_cast-result-in-Ok-2 c = record { fits = omega (arith, few (opened _ _ c.in-Ok.t c.accept.ensures c.in-Ok.is)) }

pub returns-in-Ok : goal.returns-in-Ok
returns-in-Ok c = counts_answer (opened _ _ c.in-Ok.t c.accept.ensures c.in-Ok.is)

-- That `strike` (src/lib.rt) keeps its promise.
use Rattle.std.proofs.Common.{sym}
use Rattle.strike.proofs.Answering.{writes_none}
use Rattle.strike.proofs.strike.Goals as goal

pub returns-in_err-t-clause-output : goal.returns-in_err-t-clause-output
returns-in_err-t-clause-output c = sym (writes_none _ c.args.row c.args.out.now _ c.in_err-t.field-0.0 c.accept.ensures c.in_err-t.was)

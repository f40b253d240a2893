-- That `possible` (src/lib.rt) keeps its promise.
use Rattle.std.proofs.Common.{◌∙◌, arith}
use Rattle.std.proofs.Math.ListN.{replicate}
use Rattle.table.specs.Steps.{row_limit}
use borrow.Author.Tests.{lt-ltb}
use Rattle.possible.proofs.SetLoop.{row_set}
use Rattle.possible.proofs.possible.Goals as goal

pub returns : goal.returns
returns c =
    let a = c.args in
    row_set a.t.rows a.facts.known a.facts.yes a.row c.fill_sets.new.sets (replicate row_limit 0) (omega arith) c.if-row-ge-ROWS.false c.fill_sets.ensures
    ∙ simp (lt-ltb _ _ c.if-row-ge-ROWS.false)

-- That `suppliers::change_size` (src/suppliers.rt) keeps its promise.
use Rattle.std.proofs.Common.{arith, ◌∙◌, ap}
use borrow.Author.Tests.{eq-eqb, ne_eqb}
use Rattle.entries.specs.Entries.{size_of}
use Rattle.entries.proofs.OneEntry.{size}
use Rattle.table.specs.Suppliers.{supplying}
use Rattle.table.proofs.Laws.{change_bytes}
use Rattle.table.proofs.suppliers.change_size.Goals as goal

pub returns-then-s-force : goal.returns-then-s-force
returns-then-s-force c = (rw (change_bytes c.args.force c.args.s, eq-eqb c.args.s c.args.force c.if-s-force.true), omega arith)

pub returns : goal.returns
returns c =
    let long = c.size_of.ensures.0 ∙ ap size_of c.supplying.ensures ∙ size (supplying c.args.s) in
    (rw (change_bytes c.args.force c.args.s, ne_eqb c.args.s c.args.force c.if-s-force.false) long, omega (arith, long))

use Rattle.std.proofs.lemmas.List.Concat.{flat_map-append}
use Rattle.decimal.proofs.Stores.{put_then}
use Rattle.clauses.specs.Rules.{clauses_of}
use Rattle.dimacs.specs.Dimacs.{clause_text}
use Rattle.dimacs.proofs.put_rules.Goals as goal

pub returns-in-Two : goal.returns-in-Two
returns-in-Two c =
    rw (c.in-Two.is, flat_map-append clause_text (clauses_of c.in-Two.first)) (put_then _ _ c.put_rule-next.ensures c.put_rule-in-Two.ensures)

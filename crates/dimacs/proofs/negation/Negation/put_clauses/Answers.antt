use Rattle.std.proofs.Common.{append-nil}
use Rattle.std.proofs.lemmas.List.Concat.{flat_map-append}
use Rattle.decimal.proofs.Stores.{put_then}
use Rattle.dimacs.specs.Dimacs.{clause_text}
use Rattle.dimacs.proofs.negation.Negation.put_clauses.Goals as goal

pub returns : goal.returns
returns c =
    let last = rw c.last_clause.ensures at c.put_clause.ensures in
    simp (flat_map-append clause_text, append-nil)
    (put_then _ _ c.put_entries-first.ensures (put_then _ _ c.put_entries-second.ensures (put_then _ _ c.put_entries-third.ensures last)))

-- The clauses of a question's negation, from the parts of a table that are lent.
use Rattle.std.specs.Prelude.{List, [], ◌∷◌, ◌++◌}
use Rattle.clauses.specs.declared.Literal.{Literal}
use Rattle.clauses.specs.Variables.{false_clause}
use Rattle.dimacs.specs.declared.negation.Negation.{Negation}
use Rattle.dimacs.specs.Dimacs.{clauses_in}

abbrev pub clauses_over : Negation → List (List Literal)
clauses_over n =
    clauses_in n.layout n.constraints.now
    ++ (clauses_in n.layout n.rows.now ++ (clauses_in n.layout n.questions.now ++ (false_clause n.layout n.question ∷ [])))

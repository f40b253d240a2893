use Rattle.std.proofs.Common.{ℕ, List, ◌≡◌, ◌+◌, ◌≤◌, arith, length, length-append, refl, ◌∙◌}
use native.Mathlib.Nat.{zero-add}
use Rattle.entries.specs.Said.{answered}
use Rattle.entries.specs.Output.{Sends}
use Rattle.std.specs.Prelude.{Ok}
use Rattle.entries.proofs.Sending.{sends_short, sends_all}
use Rattle.decimal.specs.Put.{Put}
use Rattle.decimal.proofs.Stores.{sets_front, put_then}
use Rattle.clauses.specs.declared.Literal.{Literal}
use Rattle.dimacs.specs.Dimacs.{text_of, header_text, file_text}
use Rattle.dimacs.specs.Negations.{clauses_over}
use Rattle.dimacs.proofs.negation.Negation.compose.Goals as goal

file_long : (variables count : ℕ) (clauses : List (List Literal)) → count ≡ length clauses →
    length (file_text variables clauses) ≡ length (header_text variables count) + length (text_of clauses)
unfolding file_text
file_long variables count clauses q = rw q (length-append (header_text variables (length clauses)) (text_of clauses))

sends_put : (text : List ℕ) {out left : List ℕ} {next : ℕ} → Put out 0 text next left → length text ≤ length out →
    Sends (answered text) out (Ok next) left
sends_put text {out} p fits =
    let sends = sends_all (answered text) out text refl fits in
    (rw (p.behind ∙ zero-add (length text)) sends.0, p.holds ∙ sets_front text out fits ∙ sends.1)

pub returns-then-out-size : goal.returns-then-out-size
returns-then-out-size c =
    let text = file_text c.args.variables (clauses_over c.args.self.now) in
    let long = file_long c.args.variables c.measure-extent.result.clauses (clauses_over c.args.self.now) c.measure-extent.ensures.0.0 in
    sends_short (answered text) c.args.out.now text c.of.result c.of.ensures refl (omega arith)

pub returns : goal.returns
unfolding file_text
returns c =
    let long = file_long c.args.variables c.measure-extent.result.clauses (clauses_over c.args.self.now) c.measure-extent.ensures.0.0 in
    let header = rw c.measure-extent.ensures.0.0 at c.put_header-first.ensures in
    sends_put (file_text c.args.variables (clauses_over c.args.self.now)) (put_then _ _ header c.put_clauses.ensures) (omega arith)

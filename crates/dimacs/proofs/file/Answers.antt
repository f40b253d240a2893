-- That `file` (src/lib.rt) keeps its promise.
use Rattle.std.proofs.Common.{List, ℕ, ◌<◌, ◌≡◌, ◌≤◌, ◌∙◌, length, ap, sym}
use Rattle.std.specs.Prelude.{Result, Ok, Err}
use borrow.Author.Tests.{lt-leb, le-leb}
use Rattle.entries.specs.declared.refusals.Refusal.{Refusal}
use Rattle.entries.specs.Said.{answered, refusing, refusal, told, said}
use Rattle.entries.specs.Refusals.{not_there}
use Rattle.entries.specs.Output.{Sends}
use Rattle.entries.proofs.Saying.{passed_on}
use Rattle.entries.proofs.Sending.{sends_none}
use Rattle.table.specs.declared.Table.{Table}
use Rattle.table.specs.Reading.{reading, tabled}
use Rattle.table.proofs.Opening.{opened, turned}
use Rattle.dimacs.specs.Dimacs.{file_of}
use Rattle.dimacs.proofs.Parts.{holds, lent_file, lent_is}
use Rattle.dimacs.proofs.file.Goals as goal

-- what is said where the table was refused, where the question is not there, and where it is
module _ (s out : List ℕ) (q : ℕ) (r : Result Table Refusal) (e : said r ≡ tabled (reading s)) where
  none_read : (why : Refusal) → r ≡ Err why → Sends (file_of (reading s) q) out (Err why) out
  unfolding file_of
  none_read why refused = sends_none (file_of (reading s) q) out why (rw (turned s r why e refused))

  module _ (t : Table) (read : r ≡ Ok t) where
    none_there : (why : Refusal) → told why ≡ refusal not_there 0 → t.tally.questions ≤ q → Sends (file_of (reading s) q) out (Err why) out
    unfolding file_of
    none_there why w h =
        let o = opened s r t e read in
        sends_none (file_of (reading s) q) out why
        (rw (o.is, le-leb (length o.contents.questions) q (rw (holds s r t e read).asked at h)) (ap refusing (sym w)))

    says : q < t.tally.questions → answered (lent_file t q) ≡ file_of (reading s) q
    unfolding file_of
    says h =
        let o = opened s r t e read in
        rw (o.is, lt-leb (length o.contents.questions) q (rw (holds s r t e read).asked at h)) (ap answered (lent_is (holds s r t e read) q))

pub returns-in_err-t : goal.returns-in_err-t
returns-in_err-t c =
    let says = none_read c.args.table.now c.args.out.now c.args.question c.accept.result c.accept.ensures c.in_err-t.field-0.0 c.in_err-t.was in
    record { answer = passed_on c.from_residual.result c.in_err-t.field-0.0 c.from_residual.ensures.1 ∙ says.0; output = says.1 }

pub returns-then-questions-question : goal.returns-then-questions-question
returns-then-questions-question c =
    let says = none_there c.args.table.now c.args.out.now c.args.question c.accept.result c.accept.ensures c.in_ok-t.t c.in_ok-t.was c.of.result
    c.of.ensures c.if-questions-question.true in
    record { answer = says.0; output = says.1 }

pub returns : goal.returns
returns c =
    let same = says c.args.table.now c.args.out.now c.args.question c.accept.result c.accept.ensures c.in_ok-t.t c.in_ok-t.was
    c.if-questions-question.false in
    let sends = rw same at c.compose.ensures in
    record { answer = sends.0; output = sends.1 }

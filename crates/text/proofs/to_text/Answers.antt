-- That `to_text` (src/lib.rt) keeps its promise.
use Rattle.std.proofs.Common.{◌≡◌, ℕ, List, sym, ap, ◌∙◌}
use Rattle.std.specs.Prelude.{Result, Ok, Err}
use Rattle.entries.specs.declared.refusals.Refusal.{Refusal}
use Rattle.entries.specs.Said.{answered, refusing, told, said}
use Rattle.entries.proofs.Saying.{passed_on}
use Rattle.entries.proofs.Sending.{sends_none, sends_short, sends_all}
use Rattle.table.specs.declared.Table.{Table}
use Rattle.table.specs.Contents.{Contents, entries}
use Rattle.table.specs.Reading.{reading, tabled, contents_in, Full, held}
use Rattle.table.proofs.Opening.{opened, turned}
use Rattle.table.proofs.Held.{table_full, contents_back}
use Rattle.text.specs.Lines.{text_of}
use Rattle.text.specs.Calls.{to_text}
use Rattle.text.proofs.to_text.Goals as goal

-- of a table that was refused there is no text; of one that was read, that of what its struct holds
module _ (s : List ℕ) (r : Result Table Refusal) (q : said r ≡ tabled (reading s)) where
  refused : (why : Refusal) → r ≡ Err why → to_text s ≡ refusing (told why)
  unfolding to_text
  refused why e = rw (turned s r why q e)

  full : (t : Table) → r ≡ Ok t → Full t
  full t e = let o = opened s r t q e in rw o.table (table_full o.contents o.whole)

  text_is : (t : Table) → r ≡ Ok t → to_text s ≡ answered (text_of (held t))
  unfolding to_text
  text_is t e =
      let o = opened s r t q e in
      rw o.is (ap (λ (c : Contents). answered (text_of (entries c))) (sym (ap contents_in o.table ∙ contents_back o.contents o.whole)))

pub returns-in_err-t : goal.returns-in_err-t
returns-in_err-t c =
    let none = sends_none _ c.args.out.now c.in_err-t.field-0.0 (refused _ _ c.accept.ensures c.in_err-t.field-0.0 c.in_err-t.was) in
    record { answer = passed_on c.from_residual.result c.in_err-t.field-0.0 c.from_residual.ensures.1 ∙ none.0; output = none.1 }

pub text_size-requires : goal.text_size-requires
text_size-requires c = full _ _ c.accept.ensures c.in_ok-t.t c.in_ok-t.was

pub returns-then-out-text_size : goal.returns-then-out-text_size
returns-then-out-text_size c =
    let is = text_is _ _ c.accept.ensures c.in_ok-t.t c.in_ok-t.was in
    let short = sends_short _ c.args.out.now _ c.of.result c.of.ensures is (rw c.text_size.ensures at c.if-out-text_size.true) in
    record { answer = short.0; output = short.1 }

pub write-requires : goal.write-requires
write-requires c =
    let f = full _ _ c.accept.ensures c.in_ok-t.t c.in_ok-t.was in
    (f, rw c.text_size.ensures at c.if-out-text_size.false)

pub returns : goal.returns
returns c =
    let is = text_is _ _ c.accept.ensures c.in_ok-t.t c.in_ok-t.was in
    let all = sends_all _ c.args.out.now _ is (rw c.text_size.ensures at c.if-out-text_size.false) in
    record { answer = rw c.write.ensures.length all.0; output = c.write.ensures.output ∙ rw c.write.ensures.length all.1 }

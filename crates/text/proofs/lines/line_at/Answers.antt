-- That `line_at` (src/lines.rt) keeps its promise.
use Rattle.std.proofs.Common.{◌≡◌, ◌∙◌, ◌+◌, ◌≤◌, ◌<◌, ℕ, List, drop, length, refl, sym, ap, arith}
use Rattle.std.specs.Prelude.{Result, Err}
use Rattle.entries.specs.declared.Entry.{Entry}
use Rattle.entries.specs.declared.refusals.Refusal.{Refusal}
use Rattle.entries.specs.Refusals.{misspelt}
use Rattle.entries.specs.Said.{Said, refusing, refusal, said, and_then}
use Rattle.decimal.specs.Decimal.{line_feed}
use Rattle.text.specs.Texts.{split, line_says}
use Rattle.text.specs.Inner.{line_from, line_found}
use Rattle.text.proofs.Scanning.{piece_between, end_within, line_whole, line_last}
use Rattle.text.proofs.lines.line_at.Goals as goal

pub slice_bounds-line_of-end : goal.slice_bounds-line_of-end
slice_bounds-line_of-end c = end_within c.args.text.now c.args.at c.next_of-end.result c.next_of-end.ensures (omega (arith, c.requires))

-- what is said of the line itself, and of one that misses its line feed
module _ (text : List ℕ) (at end : ℕ) (q : end ≡ at + length (split line_feed (drop at text)).first) (r : Result Entry Refusal)
    (says : said r ≡ line_says (split line_feed (drop at text)).first) where
  whole : end < length text → line_found (record { said = r; next = end + 1 }) ≡ line_from at (split line_feed (drop at text))
  whole l = ap (λ (s : Said Entry). record { said = s; next = end + 1 }) says ∙ sym (line_whole text at end q l)

  abbrev missing : Said Entry → Said Entry
  missing x = and_then x (λ e. refusing (refusal misspelt 0))

  last : length text ≤ end → (x : Result Entry Refusal) → said x ≡ missing (said r) →
      line_found (record { said = x; next = end }) ≡ line_from at (split line_feed (drop at text))
  last l x m = ap (λ (s : Said Entry). record { said = s; next = end }) (m ∙ ap missing says) ∙ sym (line_last text at end q l)

pub returns-then-end-text : goal.returns-then-end-text
returns-then-end-text c =
    let a = c.args in
    whole a.text.now a.at c.next_of-end.result c.next_of-end.ensures c.line_of-said.result
    (c.line_of-said.ensures ∙ ap line_says (piece_between line_feed a.text.now a.at c.next_of-end.result c.next_of-end.ensures)) c.if-end-text.true

pub returns-in-Ok : goal.returns-in-Ok
returns-in-Ok c =
    let a = c.args in
    last a.text.now a.at c.next_of-end.result c.next_of-end.ensures c.line_of-said.result
    (c.line_of-said.ensures ∙ ap line_says (piece_between line_feed a.text.now a.at c.next_of-end.result c.next_of-end.ensures)) c.if-end-text.false
    (Err c.of.result) (ap refusing c.of.ensures ∙ rw c.in-Ok.is refl)

pub returns-in-Err : goal.returns-in-Err
returns-in-Err c =
    let a = c.args in
    last a.text.now a.at c.next_of-end.result c.next_of-end.ensures c.line_of-said.result
    (c.line_of-said.ensures ∙ ap line_says (piece_between line_feed a.text.now a.at c.next_of-end.result c.next_of-end.ensures)) c.if-end-text.false
    c.line_of-said.result (rw c.in-Err.is refl)

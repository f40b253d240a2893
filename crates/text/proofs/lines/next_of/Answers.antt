-- That `next_of` (src/lines.rt) keeps its promise.
use Rattle.std.proofs.Common.{◌≡◌, length, take, drop, eqb, ap, ◌∙◌, ◌+◌, ◌-◌, length-drop, arith, rules, tests}
use Rattle.std.proofs.lemmas.List.{take_all}
use Rattle.std.proofs.lemmas.Iterator.{YieldsList-from_slice}
use Rattle.std.proofs.lemmas.Iterator.Search.{position_from_yields_List}
use Rattle.text.proofs.Splitting.{first_found}
use Rattle.text.proofs.lines.next_of.Goals as goal

pub returns : goal.returns
returns c =
    let s = c.args.s.now in
    let from = c.args.from in
    let all : take (length s - from) (drop from s) ≡ drop from s = take_all _ _ (omega (arith, length-drop from s)) in
    let found = position_from_yields_List (λ x. eqb x c.args.separator) _ _ c.position.result c.position.ensures.ran
    (YieldsList-from_slice (take (length s - from) (drop from s)) c.iter.ensures.rest) (λ x b q k. search (rules, tests)) in
    ap (λ n. from + n) (c.unwrap_or.ensures ∙ rw all (first_found c.args.separator (drop from s) c.position.result (rw all at found)))

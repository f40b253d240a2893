-- That `lines::put_word` (src/lines.rt) keeps its promise: over the front of the output from a place on, the word stands at that place.
use Rattle.std.proofs.Common.{◌≡◌, ◌+◌, ◌-◌, ◌≤◌, length, take, drop, refl, sym, ap, ◌∙◌, arith}
use mathlib.Core.List.{append_assoc}
use lib.ListN.{length-drop}
use lib.Seq.{drop-drop, sets, sets-eq}
use Rattle.std.proofs.lemmas.List.{length-take}
use Rattle.kinds.specs.Words.{word_of}
use Rattle.entries.specs.Entries.{onto}
use Rattle.entries.proofs.Putting.{onto_fits, put_behind}
use Rattle.decimal.proofs.Stores.{sets_front}
use Rattle.text.proofs.lines.put_word.Goals as goal

pub returns : goal.returns
returns c =
    let out = c.args.out.now in
    let at = c.args.at in
    let word = word_of c.args.kind in
    let rest = take (length out - at) (drop at out) in
    let room : length word ≤ length rest = omega (arith, c.requires, length-take (length out - at) (drop at out), length-drop at out) in
    let front : sets rest 0 word ≡ onto word rest = sets_front word rest room ∙ sym (onto_fits word rest room) in (
      ap (λ n. at + n) c.put_word.ensures.0,
      put_behind out word at _ _ c.requires refl (c.put_word.ensures.1 ∙ front) ∙ rw (drop-drop (length word) at out)
          (sym (sets-eq word out at c.requires ∙ append_assoc (take at out) word (drop (at + length word) out))),
    )

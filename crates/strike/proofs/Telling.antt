-- What the answer of striking tells (01, "Taking one entry, and striking a row" and "When we say no").
-- Assumes nothing.
use mathlib.Core.Path.{◌≡◌, refl, sym, ap, ◌∙◌}
use mathlib.Core.Bool.{Bool, true, false}
use mathlib.Core.List.{List, ◌++◌}
use Prim.Native.Nat.{ℕ, ◌≤◌, ◌<◌}
use native.Mathlib.Omega.{arith}
use lib.ListN.{length, take, drop}
use lib.Seq.{take_at, drop_at}
use borrow.Author.Tests.{leb-false, ltb-false}
use Rattle.entries.specs.Said.{Refusal}
use Rattle.entries.specs.Refusals.{if_missing}
use Rattle.entries.specs.Said.{Said, answered, refusing, unless}
use Rattle.table.specs.Contents.{Contents}
use Rattle.table.specs.Reading.{reading}
use Rattle.entries.proofs.Saying.{not_both, unless_answered}
use Rattle.strike.specs.Strike.{struck, struck_bytes, missing, in_use, too_short, strike_refusal, struck_answer, struck_output}
use Rattle.strike.proofs.Laws.{struck_accepted, output_of}

-- what a length that comes back tells
pub record Done (x : Said Contents) (r room n : ℕ) : Type 0 where
  pub contents : Contents
  pub is : x ≡ answered contents
  pub there : r < length contents.rows
  pub unnamed : in_use r contents ≡ false
  pub count : n ≡ length (struck_bytes r contents)
  pub fits : n ≤ room

-- neither refusal is due
pub unstopped : (named short : Bool) → strike_refusal named short ≡ 0 → (named ≡ false) × (short ≡ false)
unstopped true short e = absurd (omega arith)
unstopped false true e = absurd (omega arith)
unstopped false false e = (refl, refl)

not_missing : (absent : Bool) → if_missing absent ≡ 0 → absent ≡ false
not_missing true e = absurd (omega arith)
not_missing false e = refl

pub done_of : (x : Said Contents) (r room n : ℕ) → struck_answer x r room ≡ answered n → Done x r room n
unfolding struck_answer
done_of (answered c) r room n q =
    let size = length (struck_bytes r c) in
    let why = strike_refusal (in_use r c) (too_short room r c) in
    let there = unless_answered (if_missing (missing r c)) (unless why (answered size)) n q in
    let due = unless_answered why (answered size) n there.1 in
    let neither = unstopped (in_use r c) (too_short room r c) due.0 in
    let m : n ≡ size = cc due.1 in
    record {
      contents = c;
      is = refl;
      there = leb-false (length c.rows) r (not_missing (missing r c) there.0);
      unnamed = neither.0;
      count = m;
      fits = omega (arith, ltb-false room size neither.1, m);
    }
done_of (refusing why) r room n q = not_both (sym q)

-- "a refusal changes no lent byte"
pub refused_keeps : (x : Said Contents) (r : ℕ) (out : List ℕ) (why : Refusal) → struck_answer x r (length out) ≡ refusing why →
    struck_output x r out ≡ out
unfolding struck_output
refused_keeps (answered c) r out why q = output_of c r out (refusing why) q
refused_keeps (refusing other) r out why q = refl

-- the bytes of the length that comes back are read as the struck table, and "bytes behind the last stay"
pub struck_read : (s : List ℕ) (r : ℕ) (out : List ℕ) (n : ℕ) (a : struck_answer (reading s) r (length out) ≡ answered n) →
    (reading (take n (struck_output (reading s) r out)) ≡ answered (struck r (done_of (reading s) r (length out) n a).contents))
    × (drop n (struck_output (reading s) r out) ≡ drop n out)
struck_read s r out n a =
    let d = done_of (reading s) r (length out) n a in
    let c = d.contents in
    let bytes = struck_bytes r c in
    let o : struck_output (reading s) r out ≡ bytes ++ drop n out =
    ap (λ (x : Said Contents). struck_output x r out) d.is
    ∙ output_of c r out (answered n) (sym (ap (λ (x : Said Contents). struck_answer x r (length out)) d.is) ∙ a) in (
      ap (λ (u : List ℕ). reading (take n u)) o ∙ ap reading (take_at bytes (drop n out) n (sym d.count)) ∙ struck_accepted s r c d.is d.there
          d.unnamed,
      ap (drop n) o ∙ drop_at bytes (drop n out) n (sym d.count),
    )

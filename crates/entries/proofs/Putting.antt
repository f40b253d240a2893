-- Bytes put into the part of an output from a place on.
-- Assumes nothing.
use mathlib.Core.Path.{◌≡◌, sym, ap, ap₂, ◌∙◌}
use mathlib.Core.List.{List, [], ◌++◌, append_assoc, append-nil}
use Prim.Native.Nat.{ℕ, ◌+◌, ◌-◌, ◌≤◌, ◌<◌}
use native.Mathlib.Omega.{arith}
use lib.ListN.{length, take, drop, length-append, length-drop}
use lib.Seq.{take-length, drop-length, take_at, drop_at, drop-drop}
use borrow.Author.Tests.{lt-leb, le-leb}
use borrow.Rule.Slice.PartMut.{put_mid, mid_of}
use Rattle.entries.specs.Entries.{onto}

-- where they do not fit, nothing is written
pub onto_short : (bytes out : List ℕ) → length out < length bytes → out ≡ onto bytes out
unfolding onto
onto_short bytes out h = simp (lt-leb _ _ h)

-- where they fit, they stand over the front, and the rest stays
pub onto_fits : (bytes out : List ℕ) → length bytes ≤ length out → onto bytes out ≡ bytes ++ drop (length bytes) out
unfolding onto
onto_fits bytes out h = simp (le-leb _ _ h)

pub put_behind : (out bytes : List ℕ) (at k : ℕ) (ys : List ℕ) → at + length bytes ≤ length out → k ≡ length out - at →
    ys ≡ onto bytes (mid_of at k out) → put_mid at k out ys ≡ take at out ++ (bytes ++ drop (length bytes) (drop at out))
put_behind out bytes at k ys room ke ye =
    let rest = drop at out in
    let q : k ≡ length rest = omega (arith, ke, length-drop at out) in
    let mid : mid_of at k out ≡ rest = ap (λ (k : ℕ). take k rest) q ∙ take-length rest in
    let post : drop k rest ≡ [] = ap (λ (k : ℕ). drop k rest) q ∙ drop-length rest in
    let long : length bytes ≤ length rest = omega (arith, length-drop at out) in
    ap₂ (λ (ys post : List ℕ). take at out ++ (ys ++ post)) (ye ∙ ap (onto bytes) mid ∙ onto_fits bytes rest long) post
    ∙ ap (λ (l : List ℕ). take at out ++ l) (append-nil (bytes ++ drop (length bytes) rest))

-- and some behind others
pub put_both : (out first second : List ℕ) (n k : ℕ) (one ys : List ℕ) → length first + length second ≤ length out → n ≡ length first →
    one ≡ onto first out → k ≡ length one - n → ys ≡ onto second (mid_of n k one) → put_mid n k one ys ≡ onto (first ++ second) out
put_both out first second n k one ys room ne oe ke ye =
    let was : one ≡ first ++ drop n out = oe ∙ onto_fits first out (omega arith) ∙ ap (λ (n : ℕ). first ++ drop n out) (sym ne) in
    let long : length one ≡ length out = ap length was ∙ length-append first (drop n out) ∙ omega (arith, length-drop n out) in
    let rest : drop n one ≡ drop n out = ap (drop n) was ∙ drop_at first (drop n out) n (sym ne) in
    let front : take n one ≡ first = ap (take n) was ∙ take_at first (drop n out) n (sym ne) in
    let both : n + length second ≡ length (first ++ second) = omega (arith, length-append first second) in
    put_behind one second n k ys (omega (arith, long)) ke ye
    ∙ rw (front, rest, drop-drop (length second) n out, both)
    (sym (onto_fits (first ++ second) out (omega (arith, both)) ∙ append_assoc first second (drop (length (first ++ second)) out)))

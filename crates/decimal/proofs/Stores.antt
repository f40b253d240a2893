-- Bytes stored one after the other into an output.
-- Assumes nothing.
use mathlib.Core.Path.{◌≡◌, refl, sym, ap, ap₂, ◌∙◌}
use mathlib.Core.List.{List, [], ◌∷◌, ◌++◌}
use Prim.Native.Nat.{ℕ, suc, ◌+◌, ◌≤◌, max}
use native.Mathlib.Omega.{arith}
use lib.ListN.{length, drop, length-append}
pub use Rattle.kinds.proofs.Storing.{sets_append}
use Rattle.entries.proofs.Numbers.{by_order}
use Rattle.decimal.specs.Put.{Stores, Put}
use lib.Seq.{set_out, sets, sets-eq, length-sets}

-- from the front on
pub sets_front : (xs l : List ℕ) → length xs ≤ length l → sets l 0 xs ≡ xs ++ drop (length xs) l
sets_front xs l h = let q : 0 + length xs ≡ length xs = omega arith in sets-eq xs l 0 (omega arith) ∙ rw q

-- past its end an output stays as it is
sets_past : (xs l : List ℕ) (i : ℕ) → length l ≤ i → sets l i xs ≡ l
sets_past [] l i h = refl
sets_past (x ∷ xs) l i h = ap (λ (l : List ℕ). sets l (suc i) xs) (set_out l i x h) ∙ sets_past xs l (suc i) (omega arith)

-- one text stored behind another, as much as there are places for
pub stores_then : {out mid left : List ℕ} {at next last : ℕ} (xs ys : List ℕ) → Stores out at xs next mid → Stores mid next ys last left →
    Stores out at (xs ++ ys) last left
stores_then {out} {mid} {left} {at} {next} {last} xs ys p q =
    let long = length-append xs ys in
    let kept : length mid ≡ length out = ap length p.stored ∙ length-sets out at xs in
    by_order (length out) (at + length xs)
    (λ l.
    let full : next ≡ max at (length out) = omega (arith, p.reached) in
    let end : last ≡ max at (length out) = omega (arith, q.reached, full, kept) in record {
      reached = omega (arith, end, long);
      stored = q.stored ∙ sets_past ys mid next (omega (arith, full, kept)) ∙ p.stored
          ∙ sym (sets_append xs ys out at ∙ sets_past ys (sets out at xs) (at + length xs) (omega (arith, length-sets out at xs)));
    })
    (λ l.
    let some : next ≡ at + length xs = omega (arith, p.reached) in record {
      reached = omega (arith, q.reached, some, kept, long);
      stored = q.stored ∙ ap₂ (λ (l : List ℕ) (i : ℕ). sets l i ys) p.stored some ∙ sym (sets_append xs ys out at);
    })

-- where there is room, all of it is stored
pub put_fits : {out left : List ℕ} {at next : ℕ} (text : List ℕ) → Stores out at text next left → at + length text ≤ length out →
    Put out at text next left
put_fits text s room = record { behind = omega (arith, room, s.reached); holds = s.stored }

-- nothing put, and one text behind another
pub put_none : (out : List ℕ) (at : ℕ) → Put out at [] at out
put_none out at = record { behind = omega arith; holds = refl }

module _ {out mid left : List ℕ} {at next last : ℕ} (xs ys : List ℕ) where
  pub put_then : Put out at xs next mid → Put mid next ys last left → Put out at (xs ++ ys) last left
  put_then p q = record {
    behind = omega (arith, p.behind, q.behind, length-append xs ys);
    holds = q.holds ∙ ap₂ (λ (l : List ℕ) (i : ℕ). sets l i ys) p.holds p.behind ∙ sym (sets_append xs ys out at);
  }

-- where there is room for both, there is for the first, and then for the second
pub room_first : (at room : ℕ) (xs ys : List ℕ) → at + length (xs ++ ys) ≤ room → at + length xs ≤ room
room_first at room xs ys h = omega (arith, h, length-append xs ys)

pub room_then : {out mid : List ℕ} {at next : ℕ} (xs ys : List ℕ) → Put out at xs next mid → at + length (xs ++ ys) ≤ length out →
    next + length ys ≤ length mid
room_then {out} {mid} {at} {next} xs ys p h = omega (arith, h, p.behind, length-append xs ys, ap length p.holds, length-sets out at xs)

-- an output keeps its length
pub put_length : {out left : List ℕ} {at next : ℕ} {text : List ℕ} → Put out at text next left → length left ≡ length out
put_length {out} {left} {at} {next} {text} p = ap length p.holds ∙ length-sets out at text

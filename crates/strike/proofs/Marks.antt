-- How many bytes the 60s of a table have, and of one without a row (02, L6).
-- Assumes nothing.
use mathlib.Core.Path.{◌≡◌, refl, ap}
use mathlib.Core.Bool.{Bool, cond}
use mathlib.Core.List.{List, [], ◌∷◌, ◌++◌}
use Prim.Native.Nat.{ℕ, zero, suc, ◌+◌, ◌-◌, ◌≤◌, ◌<◌}
use native.Mathlib.Omega.{arith}
use lib.ListN.{length, get_or, take, drop, length-append, drop_of_length-le}
use native.Mathlib.Numerals.{add-one}
use lib.Seq.{drop-cons}
use borrow.Author.Tests.{ne_eqb}
use Rattle.entries.specs.declared.Entry.{Entry}
use Rattle.entries.specs.Entries.{supplier_size, bytes_of}
use Rattle.table.specs.Suppliers.{no_supplier, change, marked, last_of}
use Rattle.table.specs.Contents.{written}
use Rattle.entries.proofs.Numbers.{by_equal}
use Rattle.table.proofs.Writing.{written_append}
use Rattle.table.proofs.Marking.{force_more}
use Rattle.table.proofs.Laws.{change_bytes, change_short}
use Rattle.strike.specs.Strike.{without, mark_bytes}

-- the bytes of rows with their 60s
pub marked_length : (force : ℕ) (ss : List ℕ) (es : List Entry) → length ss ≡ length es →
    length (written (marked force ss es)) ≡ length (written es) + mark_bytes force ss
unfolding marked written
marked_length force [] [] q = omega arith
marked_length force [] (e ∷ es) q = absurd (omega arith)
marked_length force (s ∷ ss) [] q = absurd (omega arith)
marked_length force (s ∷ ss) (e ∷ es) q =
    let rest = marked s ss es in
    omega (
      arith,
      marked_length s ss es (omega arith),
      ap length (written_append (change force s) (e ∷ rest)),
      length-append (written (change force s)) (bytes_of e ++ written rest),
      length-append (bytes_of e) (written rest),
      length-append (bytes_of e) (written es),
    )

-- those of the 60 before the first of rows with these suppliers
abbrev pub first_mark : ℕ → List ℕ → ℕ
first_mark force [] = 0
first_mark force (s ∷ ss) = length (written (change force s))

first_apart : (force other : ℕ) (ss : List ℕ) → mark_bytes force ss + first_mark other ss ≡ mark_bytes other ss + first_mark force ss
first_apart force other [] = refl
first_apart force other (s ∷ ss) = omega arith

-- without row r, its own 60 goes, and that of the row behind it is another's
pub without_marks : (force r : ℕ) (ss : List ℕ) → r < length ss → let before = last_of force (take r ss) in let own = get_or ss r no_supplier in
    mark_bytes force ss + first_mark before (drop (suc r) ss)
    ≡ mark_bytes force (without r ss) + (length (written (change before own)) + first_mark own (drop (suc r) ss))
unfolding without last_of
without_marks force r [] h = absurd (omega arith)
without_marks force zero (s ∷ ss) h = omega (arith, first_apart force s ss)
without_marks force (suc r) (s ∷ ss) h = omega (arith, without_marks s r ss (omega arith))

-- a 60 that the row behind needs is one of the two that stood there
pub no_more_marks : (before own next : ℕ) →
    length (written (change before next)) ≤ length (written (change before own)) + length (written (change own next))
no_more_marks before own next =
    by_equal own before
    (λ q. rw q (omega arith))
    (λ q. omega (arith, change_bytes before own, ap (λ (b : Bool). cond b 0 supplier_size) (ne_eqb own before q), change_short before next))

-- the supplier in force behind a row is its own
pub in_force_behind : (ss : List ℕ) (r : ℕ) → 0 < r → r ≤ length ss → get_or ss (r - 1) no_supplier ≡ last_of no_supplier (take r ss)
in_force_behind ss r some h =
    let back : r - 1 + 1 ≡ r = omega arith in
    rw back at (force_more ss (r - 1) _ (omega arith) refl)

-- so the 60s that go with row r are its own, and that of the row behind it, but for one that this needs then
module _ (ss : List ℕ) (r prior : ℕ) (h : r < length ss) (is : prior ≡ last_of no_supplier (take r ss)) where
  abbrev own : ℕ
  own = get_or ss r no_supplier

  abbrev behind : ℕ
  behind = get_or ss (r + 1) no_supplier

  gone : mark_bytes no_supplier ss + first_mark prior (drop (suc r) ss)
      ≡ mark_bytes no_supplier (without r ss) + (length (written (change prior own)) + first_mark own (drop (suc r) ss))
  gone = rw is (without_marks no_supplier r ss h)

  pub last_gone : length ss ≤ r + 1 → length (written (change prior own)) + mark_bytes no_supplier (without r ss) ≡ mark_bytes no_supplier ss
  last_gone end =
      let past : length ss ≤ suc r = omega arith in
      let none : drop (suc r) ss ≡ [] = drop_of_length-le ss past in
      omega (arith, rw none at gone)

  pub next_gone : r + 1 < length ss → (first second third : ℕ) → first ≡ length (written (change prior own)) →
      second ≡ length (written (change own behind)) → third ≡ length (written (change prior behind)) →
      (third ≤ first + second) × (first + second - third + mark_bytes no_supplier (without r ss) ≡ mark_bytes no_supplier ss)
  next_gone more first second third p q k =
      let one : drop (suc r) ss ≡ behind ∷ drop (suc (suc r)) ss = rw (add-one r) (drop-cons ss (suc r) no_supplier (omega arith)) in
      let all = rw one at gone in
      let fewer = no_more_marks prior own behind in
      (omega (arith, p, q, k, fewer), omega (arith, p, q, k, fewer, all))

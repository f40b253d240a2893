-- A table's struct by the fronts of its arrays, as the code lends them.
-- Assumes nothing.
use mathlib.Core.Path.{◌≡◌, refl, sym, ap, ◌∙◌}
use mathlib.Core.Bool.{◌||◌}
use mathlib.Core.List.{List, [], ◌∷◌, ◌++◌, map, append-nil}
use Prim.Native.Nat.{ℕ, zero, suc, ◌≤◌}
use native.Mathlib.Omega.{arith}
use lib.ListN.{length, get_or, take}
use lib.Seq.{take-suc, length-take-le}
use Rattle.entries.specs.declared.Entry.{Entry}
use Rattle.entries.specs.Entries.{blank}
use Rattle.table.proofs.Marking.{unchanged}
use Rattle.entries.specs.Lists.{some}
use Rattle.entries.proofs.Lists.{some_append}
use Rattle.table.specs.declared.Table.{Table}
use Rattle.table.specs.Suppliers.{no_supplier, last_of}
use Rattle.table.specs.Contents.{Contents, written}
use Rattle.table.specs.Reading.{first_of, contents_in, Full}
use Rattle.strike.specs.Strike.{lowered, without, struck_bytes, names, in_use}
use Rattle.strike.specs.Inner.{left_rows}

-- the first n elements of a list that has so many
first_taken : {A : Type 0} (z : A) (l : List A) (n : ℕ) → n ≤ length l → first_of z l n ≡ take n l
unfolding first_of
first_taken z l zero h = refl
first_taken z l (suc n) h =
    ap (λ (m : List _). m ++ (get_or l n z ∷ [])) (first_taken z l n (omega arith)) ∙ sym (take-suc l n z (omega arith))

module _ (t : Table) where
  abbrev pub taken : Contents
  taken = record {
    constraints = take t.tally.constraints t.constraints;
    rows = take t.tally.rows t.rows;
    suppliers = take t.tally.rows t.suppliers;
    questions = take t.tally.questions t.questions;
    supplier = last_of no_supplier (take t.tally.rows t.suppliers);
  }

  pub contents_taken : Full t → contents_in t ≡ taken
  contents_taken f =
      let c = first_taken blank t.constraints t.tally.constraints (omega (arith, f.constraints_long, f.fits.bound_fit)) in
      let e = first_taken blank t.rows t.tally.rows (omega (arith, f.rows_long, f.fits.used_fit)) in
      let s = first_taken no_supplier t.suppliers t.tally.rows (omega (arith, f.suppliers_long, f.fits.used_fit)) in
      let q = first_taken blank t.questions t.tally.questions (omega (arith, f.questions_long, f.fits.asked_fit)) in
      rw (c, e, s, q)

  pub in_use_taken : (r : ℕ) → Full t →
      in_use r (contents_in t) ≡ (some (names r) (take t.tally.rows t.rows) || some (names r) (take t.tally.questions t.questions))
  unfolding in_use
  in_use_taken r f = ap (in_use r) (contents_taken f) ∙ some_append (names r) (take t.tally.rows t.rows) (take t.tally.questions t.questions)

  -- the table to write, part by part
  abbrev pub left_of : ℕ → List Entry
  left_of r = left_rows r (take t.tally.rows t.suppliers) (take t.tally.rows t.rows)

  abbrev pub asked_of : ℕ → List Entry
  asked_of r = map (lowered r) (take t.tally.questions t.questions)

  abbrev pub parts_of : ℕ → List Entry
  parts_of r = taken.constraints ++ (left_of r ++ asked_of r)

  pub struck_taken : (r : ℕ) → Full t → struck_bytes r (contents_in t) ≡ written (parts_of r)
  struck_taken r f =
      let last = last_of no_supplier (without r taken.suppliers) in
      ap (struck_bytes r) (contents_taken f)
      ∙ rw (unchanged last last refl, append-nil (left_of r))

  pub as_many : Full t → length (take t.tally.rows t.suppliers) ≡ length (take t.tally.rows t.rows)
  as_many f =
      length-take-le t.tally.rows t.suppliers (omega (arith, f.suppliers_long, f.fits.used_fit))
      ∙ sym (length-take-le t.tally.rows t.rows (omega (arith, f.rows_long, f.fits.used_fit)))

-- A table's struct: what it holds, that this is the table that it stands for, and that all its places are there.
-- Assumes nothing.
use mathlib.Core.Path.{◌≡◌, refl, sym, ap, ◌∙◌}
use mathlib.Core.List.{List, [], ◌∷◌}
use Prim.Native.Nat.{ℕ, zero, suc, ◌<◌}
use native.Mathlib.Omega.{arith}
use lib.ListN.{length, get_or, length-append, get_or-append}
use lib.Seq.{get_or_at, ext_get_or}
use Rattle.table.specs.declared.Table.{Table}
use Rattle.entries.specs.Entries.{blank}
use Rattle.table.specs.Steps.{row_limit, question_limit, constraint_limit}
use Rattle.table.specs.Suppliers.{no_supplier}
use Rattle.table.specs.Contents.{Contents}
use Rattle.table.specs.Reading.{padded, table_of, first_of, suppliers_in, contents_in, Fits, Full}
use Rattle.table.specs.Whole.{Whole}
use Rattle.entries.proofs.Numbers.{by_order}
use Rattle.table.proofs.Padding.{padded_at, padded_length}

-- the first n elements of a list
module _ {A : Type 0} (z : A) where
  pub first_length : (l : List A) (n : ℕ) → length (first_of z l n) ≡ n
  unfolding first_of
  first_length l zero = refl
  first_length l (suc n) = let h = first_length l n in length-append (first_of z l n) (get_or l n z ∷ []) ∙ omega (arith, h)

  pub first_at : (l : List A) (n i : ℕ) → i < n → get_or (first_of z l n) i z ≡ get_or l i z
  unfolding first_of
  first_at l zero i h = absurd (omega arith)
  first_at l (suc n) i h =
      let m = first_length l n in
      let ih = first_at l n i in
      by_order i n
      (λ k. get_or-append (first_of z l n) (get_or l n z ∷ []) z i (rw m k) ∙ ih k)
      (λ k. let q : i ≡ n = omega arith in rw q (get_or_at (first_of z l n) (get_or l n z) [] z n m))

  -- a list in a longer array, taken back
  pub first_padded : (limit : ℕ) (l : List A) → first_of z (padded z limit l) (length l) ≡ l
  first_padded limit l =
      let long = first_length (padded z limit l) (length l) in
      ext_get_or z (first_of z (padded z limit l) (length l)) l long
      (λ i k. first_at (padded z limit l) (length l) i (rw long at k) ∙ padded_at z limit l i)

-- the struct of a table holds that table
pub contents_back : (c : Contents) → Whole c → contents_in (table_of c) ≡ c
unfolding table_of
contents_back c w =
    let owned : first_of no_supplier (padded no_supplier row_limit c.suppliers) (length c.rows) ≡ c.suppliers =
    ap (first_of no_supplier (padded no_supplier row_limit c.suppliers)) (sym w.suppliers_fit) ∙ first_padded no_supplier row_limit c.suppliers in
    rw (
      first_padded blank constraint_limit c.constraints,
      first_padded blank row_limit c.rows,
      first_padded blank question_limit c.questions,
      owned,
      w.settles,
    )

pub table_fits : (c : Contents) → Whole c → Fits (table_of c)
unfolding table_of
table_fits c w = record { bound_fit = w.constraints_fit; used_fit = w.rows_fit; asked_fit = w.questions_fit }

pub table_full : (c : Contents) → Whole c → Full (table_of c)
unfolding table_of
table_full c w = record {
  fits = table_fits c w;
  constraints_long = padded_length blank constraint_limit c.constraints w.constraints_fit;
  rows_long = padded_length blank row_limit c.rows w.rows_fit;
  suppliers_long = padded_length no_supplier row_limit c.suppliers (omega (arith, w.suppliers_fit, w.rows_fit));
  questions_long = padded_length blank question_limit c.questions w.questions_fit;
}

-- how many rows a struct holds, and a supplier for each
module _ (t : Table) where
  pub rows_count : length (contents_in t).rows ≡ t.tally.rows
  rows_count = first_length blank t.rows t.tally.rows

  pub one_each : length (suppliers_in t) ≡ length (contents_in t).rows
  one_each = first_length no_supplier t.suppliers t.tally.rows ∙ sym rows_count

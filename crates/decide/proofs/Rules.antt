-- Each row of an accepted table has its value by its kind, from the values of the rows that it names: what it decides, and its set of decisions where facts
-- are missing (01, "The table, byte by byte", "The four decisions" and "Missing facts").
-- Assumes nothing.
use mathlib.Core.Path.{◌≡◌, sym, ap, ◌∙◌}
use mathlib.Core.List.{List}
use Prim.Native.Nat.{ℕ, ◌<◌}
use native.Mathlib.Omega.{arith}
use lib.ListN.{length, get_or}
use Rattle.entries.specs.declared.Entry.{Entry}
use Rattle.entries.specs.Said.{answered}
use Rattle.entries.specs.Entries.{blank, equal_numbers}
use Rattle.table.specs.Contents.{Contents}
use Rattle.table.specs.Reading.{reading}
use Rattle.table.proofs.Laws.{row_sound}
use Rattle.table.proofs.Renaming.{first_below, second_below}
use Rattle.decide.specs.Rows.{value_at}
use Rattle.decide.proofs.RowByRow.{before_there}
use Rattle.decide.proofs.Renaming.{same_entry, Comes}

module _ (s : List ℕ) (c : Contents) (is : reading s ≡ answered c) (r : ℕ) (there : r < length c.rows) {A : Type 0} (f : Entry → A → A → A)
    (comes : Comes f) where
  abbrev row : Entry
  row = get_or c.rows r blank

  -- a row's value hangs on those of the rows that it names, which are lower
  pub by_named : (x y u v : A) → (row.a < r → x ≡ u) → (row.b < r → y ≡ v) → f row x y ≡ f row u v
  by_named x y u v p q =
      let sound = row_sound s c is r there in
      ap (λ (e : Entry). f e x y) (sym (same_entry row))
      ∙ comes (λ x. x) row x y u v (λ t. p (first_below row sound t)) (λ t. q (second_below row sound t)) (λ t k. ap equal_numbers (same_entry row))

  -- its value by its kind
  pub by_rule : (z : A) → value_at f z c.rows r ≡ f row (value_at f z c.rows row.a) (value_at f z c.rows row.b)
  unfolding value_at
  by_rule z = by_named _ _ _ _ (before_there f z c.rows r row.a) (before_there f z c.rows r row.b)

  -- what a call answers for a row, by what the same call answers for the rows named, where it answers a number that shows the value
  pub by_answers : (z : A) (shown : A → ℕ) (read : ℕ → A) → ((v : A) → read (shown v) ≡ v) → (answer : ℕ → ℕ) →
      ((x : ℕ) → x < length c.rows → answer x ≡ shown (value_at f z c.rows x)) →
      answer r ≡ shown (f row (read (answer row.a)) (read (answer row.b)))
  by_answers z shown read back answer is-shown =
      let lower : (x : ℕ) → x < r → value_at f z c.rows x ≡ read (answer x) =
      λ x h. sym (ap read (is-shown x (omega arith)) ∙ back (value_at f z c.rows x)) in
      is-shown r there ∙ ap shown (by_rule z ∙ by_named _ _ _ _ (lower row.a) (lower row.b))

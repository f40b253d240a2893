-- Sets filled in from entries, of rows and of questions alike: that the masks are those of the sets, and what stands at a number.
-- Then the set of a row of a table.
-- Assumes nothing.
use mathlib.Core.Path.{◌≡◌, refl, ap, ◌∙◌}
use mathlib.Core.List.{List, ◌++◌, map}
use Prim.Native.Nat.{ℕ, ◌+◌, ◌<◌, min}
use native.Mathlib.Omega.{arith}
use lib.ListN.{length, get_or, take, drop, length-append, length-map, length-drop}
use lib.Seq.{length-take-le}
use Rattle.std.proofs.lemmas.List.{get_or-take}
use Rattle.belnap.specs.declared.Decision.TheVariants.{U}
use Rattle.entries.specs.declared.Entry.{Entry}
use Rattle.entries.specs.Entries.{blank}
use Rattle.decide.specs.Rows.{values, value_at, FilledBy}
use Rattle.decide.proofs.RowByRow.{values_length, same_value, values_coded, coded_get}
use Rattle.decide.proofs.Filled.{filled_values}
use Rattle.possible.specs.Sets.{Finite, decisions, Set, single, mask, of_mask}
use Rattle.possible.specs.Possible.{set_of, possible}
use Rattle.possible.specs.Filled.{filled}
use Rattle.possible.proofs.Masks.{of_mask_lem}

module _ (F : Finite) (f : Entry → Set F → Set F → Set F) (z : Set F) (es : List Entry) where
  -- the masks that a rule on masks fills in are those of the sets
  pub sets_filled : {answers : Entry → ℕ → ℕ → ℕ → Type 0} {old new : List ℕ} →
      FilledBy answers (mask F z) es (min (length es) (length old)) old new →
      ((e : Entry) (s t v : ℕ) → answers e s t v → v ≡ mask F (f e (of_mask F s) (of_mask F t))) → new ≡ filled F f z es old
  sets_filled {old = old} h is =
      let end = min (length es) (length old) in
      let masks = λ (e : Entry) (s t : ℕ). mask F (f e (of_mask F s) (of_mask F t)) in
      filled_values h (omega arith) masks is
      ∙ ap (λ (l : List ℕ). l ++ drop end old) (values_coded f z (mask F) masks (λ e s t. rw (of_mask_lem F s, of_mask_lem F t) refl) es end)

  -- the set at a number, where the masks of the first i entries stand in front of what was there
  pub filled_set : (i : ℕ) (out₀ out : List ℕ) → out ≡ map (mask F) (values f z es i) ++ drop i out₀ →
      (j : ℕ) → j < i → of_mask F (get_or out j 0) ≡ value_at f z es j
  filled_set i out₀ out is j h = ap (of_mask F) (coded_get f z (mask F) es i out₀ out is j h) ∙ of_mask_lem F (value_at f z es j)

-- filling keeps the length
pub filled_length : (F : Finite) (f : Entry → Set F → Set F → Set F) (z : Set F) (es : List Entry) (out₀ out : List ℕ) →
    out ≡ filled F f z es out₀ →
    length out ≡ length out₀
filled_length F f z es out₀ out e =
    let end = min (length es) (length out₀) in
    ap length e ∙ length-append (map (mask F) (values f z es end)) (drop end out₀)
    ∙ omega (arith, length-map (values f z es end) (mask F), values_length f z es end, length-drop end out₀)

-- the set of a row, from the rows up to it
pub row_set : (rows : List Entry) (known request r : ℕ) (out sets₀ : List ℕ) → r < length rows → r < length sets₀ →
    out ≡ filled decisions (set_of known request) (single U) (take (r + 1) rows) sets₀ →
    get_or out r 0 ≡ mask decisions (possible rows known request r)
row_set rows known request r out sets₀ h l p =
    let f = set_of known request in
    let part = take (r + 1) rows in
    let all : min (length part) (length sets₀) ≡ r + 1 = omega (arith, length-take-le (r + 1) rows (omega arith)) in
    coded_get f (single U) (mask decisions) part (r + 1) sets₀ out (rw all at p) r (omega arith)
    ∙ ap (mask decisions) (same_value f (single U) part rows r (λ j l. get_or-take (r + 1) rows j blank (omega arith)))

-- Entries closed up over one of them: their numbers, sizes and predicates, and which of them name a row.
-- Assumes nothing.
use mathlib.Core.Path.{◌≡◌, refl, sym, ap, ap₂, ◌∙◌}
use mathlib.Core.Bool.{Bool, true, false, ◌&&◌, ◌||◌}
use mathlib.Core.List.{List, [], ◌∷◌, map}
use Prim.Native.Nat.{ℕ, zero, suc, ◌+◌, ◌≤◌, ◌<◌, max}
use native.Mathlib.Omega.{arith}
use lib.ListN.{length, get_or, length-append, length-map, get_or-map}
use lib.Dec.{eqb}
use borrow.Author.Tests.{eqb-false, ne_eqb}
use Rattle.belnap.proofs.Finite.{never, neither}
use Rattle.kinds.specs.declared.Kind.{Kind}
use Rattle.std.specs.List.{list_any}
use Rattle.std.proofs.lemmas.List.Recursion.{same_from_clauses}
use Rattle.entries.specs.Lists.{some}
use Rattle.entries.specs.declared.Entry.{Entry}
use Rattle.table.specs.declared.steps.Tally.{Tally}
use Rattle.entries.specs.Entries.{blank, size_of, bytes_of}
use Rattle.table.specs.Steps.{tally}
use Rattle.table.specs.Contents.{highest, written}
use Rattle.entries.specs.Renaming.{names_row}
use Rattle.table.proofs.Writing.{Sound}
use Rattle.table.proofs.Renaming.{renamed_size, renamed_uses, renamed_sound, first_below, second_below}
use Rattle.strike.specs.Strike.{lower, old, lowered, without, closed_up, names}
use Rattle.strike.proofs.Renumbering.{without_at, length_without}

-- an entry that does not name r names other rows
module _ (r : ℕ) (e : Entry) (n : names r e ≡ false) where
  other_by : (there same : Bool) → (there && same) ≡ false → there ≡ true → same ≡ false
  other_by true same h t = h
  other_by false same h t = never (sym t)

  abbrev parts : ((names_row 0 e && eqb e.a r) ≡ false) × ((names_row 1 e && eqb e.b r) ≡ false)
  parts = neither (names_row 0 e && eqb e.a r) (names_row 1 e && eqb e.b r) n

  pub first_other : names_row 0 e ≡ true → e.a ≡ r → ⊥
  first_other t = eqb-false e.a r (other_by (names_row 0 e) (eqb e.a r) parts.0 t)

  pub second_other : names_row 1 e ≡ true → e.b ≡ r → ⊥
  second_other t = eqb-false e.b r (other_by (names_row 1 e) (eqb e.b r) parts.1 t)

  -- it keeps the rules where those rows do under their new numbers
  pub lowered_sound : (part : Kind → Bool) (constraints rows fewer questions : ℕ) →
      ((x : ℕ) → x < rows → (x ≡ r → ⊥) → lower r x < fewer) →
      Sound part (tally constraints rows questions) e → Sound part (tally constraints fewer questions) (lowered r e)
  lowered_sound part constraints rows fewer questions below =
      renamed_sound (lower r) part (tally constraints rows questions) (tally constraints fewer questions) refl e
      (λ t l. below e.a l (first_other t))
      (λ t l. below e.b l (second_other t))

-- entry j of the entries closed up, and of the questions
pub closed_at : (r : ℕ) (es : List Entry) (j : ℕ) → get_or (closed_up r es) j blank ≡ lowered r (get_or es (old r j) blank)
closed_at r es j = get_or-map (lowered r) (without r es) j blank ∙ ap (lowered r) (without_at r es j blank)

pub lowered_at : (r : ℕ) (es : List Entry) (j : ℕ) → get_or (map (lowered r) es) j blank ≡ lowered r (get_or es j blank)
lowered_at r es j = get_or-map (lowered r) es j blank

pub length_closed : (r : ℕ) (es : List Entry) → r < length es → suc (length (closed_up r es)) ≡ length es
length_closed r es h = ap suc (length-map (without r es) (lowered r)) ∙ length_without r es h

-- they take the bytes of the others
pub lowered_bytes : (r : ℕ) (es : List Entry) → length (written (map (lowered r) es)) ≡ length (written es)
unfolding written
lowered_bytes r [] = refl
lowered_bytes r (e ∷ es) =
    length-append (bytes_of (lowered r e)) (written (map (lowered r) es))
    ∙ ap₂ ◌+◌ (renamed_size (lower r) e) (lowered_bytes r es)
    ∙ sym (length-append (bytes_of e) (written es))

without_bytes : (r : ℕ) (es : List Entry) → r < length es → length (written (without r es)) + size_of (get_or es r blank) ≡ length (written es)
unfolding written without
without_bytes r [] h = absurd (omega arith)
without_bytes zero (e ∷ es) h = omega (arith, length-append (bytes_of e) (written es))
without_bytes (suc r) (e ∷ es) h =
    omega (arith, length-append (bytes_of e) (written es), length-append (bytes_of e) (written (without r es)), without_bytes r es (omega arith))

pub closed_bytes : (r : ℕ) (es : List Entry) → r < length es → length (written (closed_up r es)) + size_of (get_or es r blank) ≡ length (written es)
closed_bytes r es h = omega (arith, lowered_bytes r (without r es), without_bytes r es h)

-- and use no more predicates
lowered_highest : (r : ℕ) (es : List Entry) → highest (map (lowered r) es) ≡ highest es
unfolding highest
lowered_highest r [] = refl
lowered_highest r (e ∷ es) = ap₂ max (renamed_uses (lower r) e) (lowered_highest r es)

without_highest : (r : ℕ) (es : List Entry) → highest (without r es) ≤ highest es
unfolding highest without
without_highest r [] = omega arith
without_highest zero (e ∷ es) = omega arith
without_highest (suc r) (e ∷ es) = let h = without_highest r es in omega arith

pub closed_highest : (r : ℕ) (es : List Entry) → highest (closed_up r es) ≤ highest es
closed_highest r es = omega (arith, lowered_highest r (without r es), without_highest r es)

-- an entry names no row from those on that it may not name
pub unnamed_above : {part : Kind → Bool} (before : Tally) (r : ℕ) → before.rows ≤ r → (e : Entry) → Sound part before e → names r e ≡ false
unnamed_above before r above e h = ap₂ ◌||◌ (at (names_row 0 e) e.a (first_below e h)) (at (names_row 1 e) e.b (second_below e h))
  where
    at : (there : Bool) (x : ℕ) → (there ≡ true → x < before.rows) → (there && eqb x r) ≡ false
    at true x below = ne_eqb x r (λ q. omega (arith, below refl))
    at false x below = refl

-- some one of a list, as a chain says it
pub some_any : {A : Type 0} (is : A → Bool) (l : List A) → some is l ≡ list_any is l
some_any is l = same_from_clauses (some is) (list_any is) (λ x b. is x || b) refl (λ _ _. refl) (λ _ _. refl) l

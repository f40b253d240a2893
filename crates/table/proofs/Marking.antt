-- Rows with the 60s that their suppliers need: part by part, and row by row as a loop writes them.
-- Assumes nothing.
use mathlib.Core.Path.{◌≡◌, refl, sym, ap, ap₂, ◌∙◌}
use mathlib.Core.List.{List, [], ◌∷◌, ◌++◌, append_assoc}
use Prim.Native.Nat.{ℕ, ◌+◌, ◌≤◌, ◌<◌}
use native.Mathlib.Omega.{arith}
use native.Mathlib.Numerals.{add-one}
use lib.ListN.{length, get_or, take, drop, take-append-drop}
use lib.Seq.{take-suc, length-take-le}
use borrow.Author.Tests.{eq-eqb, ne_eqb}
use Rattle.entries.specs.declared.Entry.{Entry}
use Rattle.entries.specs.Entries.{blank}
use Rattle.table.specs.Suppliers.{no_supplier, supplying, change, marked, last_of}

-- a 60 stands exactly where the supplier changes
pub unchanged : (force s : ℕ) → s ≡ force → change force s ≡ []
unchanged force s q = rw (eq-eqb s force q)

pub changed : (force s : ℕ) → (s ≡ force → ⊥) → change force s ≡ supplying s ∷ []
changed force s h = rw (ne_eqb s force h)

-- the supplier in force behind rows, part by part
pub last_append : (force : ℕ) (ss more : List ℕ) → last_of force (ss ++ more) ≡ last_of (last_of force ss) more
unfolding last_of
last_append force [] more = refl
last_append force (s ∷ ss) more = last_append s ss more

-- rows, part by part
pub marked_append : (force : ℕ) (ss more : List ℕ) (es fs : List Entry) → length ss ≡ length es →
    marked force (ss ++ more) (es ++ fs) ≡ marked force ss es ++ marked (last_of force ss) more fs
unfolding marked last_of
marked_append force [] more [] fs q = refl
marked_append force [] more (e ∷ es) fs q = absurd (omega arith)
marked_append force (s ∷ ss) more [] fs q = absurd (omega arith)
marked_append force (s ∷ ss) more (e ∷ es) fs q =
    ap (λ (l : List Entry). change force s ++ (e ∷ l)) (marked_append s ss more es fs (omega arith))
    ∙ sym (append_assoc (change force s) (e ∷ marked s ss es) (marked (last_of s ss) more fs))

-- the supplier in force before row i
abbrev pub force_at : List ℕ → ℕ → ℕ
force_at ss i = last_of no_supplier (take i ss)

pub force_more : (ss : List ℕ) (i s : ℕ) → i < length ss → s ≡ get_or ss i no_supplier → s ≡ force_at ss (i + 1)
unfolding last_of
force_more ss i s l p = p ∙ sym (rw (add-one i, take-suc ss i no_supplier l) (last_append no_supplier (take i ss) (get_or ss i no_supplier ∷ [])))

-- rows one by one, as a loop writes them: those before row i, it with its 60, and what is left
module _ (ss : List ℕ) (es : List Entry) (many : length ss ≡ length es) where
  abbrev pub marked_to : ℕ → List Entry
  marked_to i = marked no_supplier (take i ss) (take i es)

  abbrev pub marked_from : ℕ → List Entry
  marked_from i = marked (force_at ss i) (drop i ss) (drop i es)

  both_taken : (i : ℕ) → i ≤ length es → length (take i ss) ≡ length (take i es)
  both_taken i l = length-take-le i ss (omega arith) ∙ sym (length-take-le i es l)

  pub marked_more : (i s force : ℕ) (e : Entry) → i < length es → force ≡ force_at ss i →
      s ≡ get_or ss i no_supplier → e ≡ get_or es i blank →
      marked_to (i + 1) ≡ marked_to i ++ (change force s ++ (e ∷ []))
  unfolding marked
  marked_more i s force e l f p q =
      let first = take-suc ss i no_supplier (omega arith) in
      rw (f, p, q, add-one i, first, take-suc es i blank l)
      (marked_append no_supplier (take i ss) (get_or ss i no_supplier ∷ []) (take i es) (get_or es i blank ∷ []) (both_taken i (omega arith)))

  pub marked_parts : (i : ℕ) → i ≤ length es → marked no_supplier ss es ≡ marked_to i ++ marked_from i
  marked_parts i l =
      ap₂ (marked no_supplier) (sym (take-append-drop i ss)) (sym (take-append-drop i es))
      ∙ marked_append no_supplier (take i ss) (drop i ss) (take i es) (drop i es) (both_taken i l)

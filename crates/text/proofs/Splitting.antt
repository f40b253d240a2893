-- Laws of bytes cut at a separator: they are joined again, and joined pieces are cut again.
-- Assumes nothing.
use mathlib.Core.Path.{◌≡◌, refl, sym, ap, ◌∙◌}
use mathlib.Core.Bool.{Bool, true, false, cond, not}
use mathlib.Core.List.{List, [], ◌∷◌, ◌++◌, append-nil}
use Prim.Native.Nat.{ℕ, suc, ◌+◌, ◌≤◌, ◌<◌}
use native.Mathlib.Omega.{arith}
use lib.ListN.{length, take, drop}
use lib.Seq.{drop-cons}
use lib.Dec.{eqb, ltb}
use Rattle.std.specs.Prelude.{Option, Some, None, unwrap_or}
use Rattle.std.specs.List.{position_or_len}
use Rattle.std.proofs.lemmas.List.Recursion.{is_position_or_len}
use Rattle.entries.proofs.Numbers.{by_order}
use borrow.Author.Tests.{lt-ltb, le-ltb, eqb-true, eq-eqb, ne_eqb, not-true, ltb-true}
use Rattle.belnap.proofs.Finite.{both_parts, never}
use Rattle.kinds.proofs.Spelling.{above}
use Rattle.text.specs.Lines.{each}
use Rattle.entries.specs.Lists.{every}
use Rattle.text.specs.Texts.{Pieces, pieces, split}
use Rattle.text.specs.Inner.{pieces_behind}

-- at a separator, and at another byte
split_at : (sep x : ℕ) (s : List ℕ) → x ≡ sep → split sep (x ∷ s) ≡ pieces [] ((split sep s).first ∷ (split sep s).more)
unfolding split
split_at sep x s q = rw (eq-eqb x sep q)

split_past : (sep x : ℕ) (s : List ℕ) → (x ≡ sep → ⊥) → split sep (x ∷ s) ≡ pieces (x ∷ (split sep s).first) (split sep s).more
unfolding split
split_past sep x s h = rw (ne_eqb x sep h)

-- a law of bytes cut: of none, at a separator, and at another byte
split_law : (sep : ℕ) (P : List ℕ → Pieces → Type 0) → P [] (pieces [] []) →
    ((s : List ℕ) → P s (split sep s) → P (sep ∷ s) (pieces [] ((split sep s).first ∷ (split sep s).more))) →
    ((x : ℕ) (s : List ℕ) → P s (split sep s) → P (x ∷ s) (pieces (x ∷ (split sep s).first) (split sep s).more)) → (s : List ℕ) →
    P s (split sep s)
unfolding split
split_law sep P none at past [] = none
split_law sep P none at past (x ∷ s) = go (eqb x sep) refl (split_law sep P none at past s)
  where
    go : (b : Bool) → eqb x sep ≡ b → P s (split sep s) →
        P (x ∷ s) (cond b (pieces [] ((split sep s).first ∷ (split sep s).more)) (pieces (x ∷ (split sep s).first) (split sep s).more))
    go true q h = rw (eqb-true x sep q) (at s h)
    go false q h = past x s h

-- joined, the pieces are the bytes again
pub split_joined : (sep : ℕ) (s : List ℕ) → (split sep s).first ++ each sep (split sep s).more ≡ s
split_joined sep = split_law sep (λ s p. p.first ++ each sep p.more ≡ s) refl (λ s h. ap (λ (l : List ℕ). sep ∷ l) h) (λ x s h. ap (λ
    (l : List ℕ). x ∷ l) h)

-- the first piece is the front, and behind it a separator stands before each other piece
pub split_front : (sep : ℕ) (s : List ℕ) →
    ((split sep s).first ≡ take (length (split sep s).first) s) × ((split sep s).more ≡ pieces_behind sep (drop (length (split sep s).first) s))
split_front sep =
    split_law sep (λ s p. (p.first ≡ take (length p.first) s) × (p.more ≡ pieces_behind sep (drop (length p.first) s)))
    (refl, refl) (λ s h. (refl, refl)) (λ x s h. (ap (λ (l : List ℕ). x ∷ l) h.0, h.1))

pub first_within : (sep : ℕ) (s : List ℕ) → length (split sep s).first ≤ length s
first_within sep = split_law sep (λ s p. length p.first ≤ length s) (omega arith) (λ s h. omega arith) (λ x s h. omega arith)

-- the first piece ends where the first separator stands, or at the end
first_place : (sep : ℕ) (s : List ℕ) → length (split sep s).first ≡ position_or_len (λ x. eqb x sep) s
unfolding split
first_place sep = is_position_or_len (λ s. length (split sep s).first) (λ x. eqb x sep) refl (λ x s. go x s (eqb x sep))
  where
    go : (x : ℕ) (s : List ℕ) (b : Bool) →
        length (cond b (pieces [] ((split sep s).first ∷ (split sep s).more)) (pieces (x ∷ (split sep s).first) (split sep s).more)).first
        ≡ cond b 0 (1 + length (split sep s).first)
    go x s true = refl
    go x s false = omega arith

pub first_found : (sep : ℕ) (s : List ℕ) (r : Option ℕ) →
    r ≡ cond (ltb (position_or_len (λ x. eqb x sep) s) (length s)) (Some (position_or_len (λ x. eqb x sep) s)) None →
    unwrap_or r (length s) ≡ length (split sep s).first
first_found sep s r q =
    let place = first_place sep s in
    by_order (position_or_len (λ x. eqb x sep) s) (length s)
    (λ l. rw (q, lt-ltb _ _ l) (sym place))
    (λ l. rw (q, le-ltb _ _ l) (omega (arith, place, first_within sep s)))

-- behind a place where something stands, a piece begins
pub behind_some : (sep : ℕ) (s : List ℕ) (k : ℕ) → k < length s →
    pieces_behind sep (drop k s) ≡ (split sep (drop (suc k) s)).first ∷ (split sep (drop (suc k) s)).more
behind_some sep s k l = rw (drop-cons s k 0 l)

-- bytes without a separator
abbrev pub free : ℕ → List ℕ → Bool
free sep l = every (λ x. not (eqb x sep)) l

pub above_free : (sep low : ℕ) (l : List ℕ) → sep ≤ low → above low l ≡ true → free sep l ≡ true
above_free sep low [] h a = refl
above_free sep low (x ∷ l) h a =
    let parts = both_parts (ltb low x) (above low l) a in
    rw (ne_eqb x sep (λ q. omega (arith, ltb-true low x parts.0)), above_free sep low l h parts.1)

free_parts : (sep x : ℕ) (l : List ℕ) → free sep (x ∷ l) ≡ true → (x ≡ sep → ⊥) × (free sep l ≡ true)
free_parts sep x l h =
    let parts = both_parts (not (eqb x sep)) (free sep l) h in
    (λ q. never (sym (eq-eqb x sep q) ∙ not-true (eqb x sep) parts.0), parts.1)

-- joined pieces without a separator in them are cut again
split_free : (sep : ℕ) (l : List ℕ) → free sep l ≡ true → split sep l ≡ pieces l []
unfolding split
split_free sep [] h = refl
split_free sep (x ∷ l) h =
    let parts = free_parts sep x l h in
    split_past sep x l parts.0 ∙ ap (λ (p : Pieces). pieces (x ∷ p.first) p.more) (split_free sep l parts.1)

pub split_next : (sep : ℕ) (l s : List ℕ) → free sep l ≡ true → split sep (l ++ sep ∷ s) ≡ pieces l ((split sep s).first ∷ (split sep s).more)
split_next sep [] s h = split_at sep sep s refl
split_next sep (x ∷ l) s h =
    let parts = free_parts sep x l h in
    split_past sep x (l ++ sep ∷ s) parts.0 ∙ ap (λ (p : Pieces). pieces (x ∷ p.first) p.more) (split_next sep l s parts.1)

pub split_each : (sep : ℕ) (l : List ℕ) (more : List (List ℕ)) → free sep l ≡ true → every (free sep) more ≡ true →
    split sep (l ++ each sep more) ≡ pieces l more
split_each sep l [] h a = ap (split sep) (append-nil l) ∙ split_free sep l h
split_each sep l (p ∷ more) h a =
    let parts = both_parts (free sep p) (every (free sep) more) a in
    split_next sep l (p ++ each sep more) h
    ∙ ap (λ (q : Pieces). pieces l (q.first ∷ q.more)) (split_each sep p more parts.0 parts.1)

-- no piece has a separator
pub split_frees : (sep : ℕ) (s : List ℕ) → (free sep (split sep s).first ≡ true) × (every (free sep) (split sep s).more ≡ true)
unfolding split
split_frees sep [] = (refl, refl)
split_frees sep (x ∷ s) = go (eqb x sep) refl (split_frees sep s)
  where
    go : (b : Bool) → eqb x sep ≡ b → (free sep (split sep s).first ≡ true) × (every (free sep) (split sep s).more ≡ true) →
        let p = cond b (pieces [] ((split sep s).first ∷ (split sep s).more)) (pieces (x ∷ (split sep s).first) (split sep s).more) in
        (free sep p.first ≡ true) × (every (free sep) p.more ≡ true)
    go true q h = (refl, rw (h.0, h.1))
    go false q h = (rw (q, h.0), h.1)

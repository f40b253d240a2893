-- Each kind has a word of its own, and a word spells a kind exactly if it is that kind's.
-- Assumes nothing.
use mathlib.Core.Path.{◌≡◌, refl, sym, ap, ap₂, ◌∙◌}
use mathlib.Core.Bool.{Bool, true, false, ◌&&◌}
use mathlib.Core.List.{List, [], ◌∷◌, map}
use Prim.Native.Nat.{ℕ, zero, suc, ◌+◌, ◌-◌, ◌*◌, ◌%◌, ◌≤◌, ◌<◌}
use native.Mathlib.Omega.{arith}
use lib.ListN.{length, get_or}
use lib.Dec.{eqb, leb, ltb}
use borrow.Author.Tests.{eqb-true, eq-eqb, leb-true, ltb-true}
use lib.Pointwise.{pointwise}
use Rattle.std.specs.Prelude.{nat_eq}
use Rattle.belnap.proofs.Finite.{both_parts, never}
use Rattle.kinds.specs.declared.Kind.{Kind}
use Rattle.std.specs.Prelude.{Option, Some, None}
use Rattle.kinds.specs.Kinds.{form_of, kinds, among, kind_of}
use Rattle.kinds.specs.Words.{word_of, same, kind_spelled, longest, Guesses}
use Rattle.kinds.proofs.KindTable.{among_passes, kind_of_byte, each_kind}

-- the same byte strings are equal
pub same_is : (l m : List ℕ) → same l m ≡ true → l ≡ m
same_is [] [] h = refl
same_is [] (y ∷ m) h = never (sym h)
same_is (x ∷ l) [] h = never (sym h)
same_is (x ∷ l) (y ∷ m) h = let parts = both_parts (eqb x y) (same l m) h in ap₂ ◌∷◌ (eqb-true x y parts.0) (same_is l m parts.1)

pub same_self : (l : List ℕ) → same l l ≡ true
same_self [] = refl
same_self (x ∷ l) = rw (eq-eqb x x refl) (same_self l)

-- whether a kind with a given byte is announced
abbrev announces : Option Kind → ℕ → Bool
announces None k = false
announces (Some kind) k = eqb (form_of kind).byte k

announced_as : (a : Option Kind) (kind : Kind) → announces a (form_of kind).byte ≡ true → a ≡ Some kind
announced_as None kind h = never (sym h)
announced_as (Some other) kind h =
    sym (kind_of_byte other) ∙ ap kind_of (eqb-true (form_of other).byte (form_of kind).byte h) ∙ kind_of_byte kind

-- a kind's word spells that kind
pub kind_of_word : (kind : Kind) → kind_spelled (word_of kind) ≡ Some kind
unfolding kind_spelled word_of
kind_of_word kind = announced_as (kind_spelled (word_of kind)) kind (each_kind (λ kind. announces (kind_spelled (word_of kind)) (form_of kind).byte) refl kind)

pub word_of_kind : (w : List ℕ) (kind : Kind) → kind_spelled w ≡ Some kind → w ≡ word_of kind
unfolding kind_spelled
word_of_kind w kind e = same_is w (word_of kind) (among_passes (λ kind. same w (word_of kind)) kinds kind e)

pub no_word : (w : List ℕ) → ((kind : Kind) → w ≡ word_of kind → ⊥) → kind_spelled w ≡ None
no_word w h = go (kind_spelled w) refl
  where
    go : (a : Option Kind) → kind_spelled w ≡ a → a ≡ None
    go None e = refl
    go (Some kind) e = absurd (h kind (word_of_kind w kind e))

-- a word has some letters, but not too many, and no byte up to the space
pub word_some : (kind : Kind) → 0 < length (word_of kind)
unfolding word_of
word_some kind = ltb-true 0 (length (word_of kind)) (each_kind (λ kind. ltb 0 (length (word_of kind))) refl kind)

pub word_short : (kind : Kind) → length (word_of kind) ≤ longest
unfolding word_of
word_short kind = leb-true (length (word_of kind)) longest (each_kind (λ kind. leb (length (word_of kind)) longest) refl kind)

abbrev pub above : ℕ → List ℕ → Bool
above x [] = true
above x (y ∷ l) = ltb x y && above x l

pub word_plain : (kind : Kind) → above 32 (word_of kind) ≡ true
unfolding word_of
word_plain kind = each_kind (λ kind. above 32 (word_of kind)) refl kind

-- a number made of a word's ends and its length, and the byte of the kind that has it: the code's table
abbrev pub mixed : List ℕ → ℕ
mixed w = (5 * get_or w 0 0 + 2 * get_or w (length w - 1) 0 + 7 * length w) % 64

abbrev from : ℕ → ℕ → List ℕ
from i zero = []
from i (suc more) = i ∷ from (suc i) more

abbrev byte_at : Option Kind → ℕ
byte_at None = 0
byte_at (Some kind) = (form_of kind).byte

abbrev pub guesses : List ℕ
guesses = map (λ i. byte_at (among (λ kind. eqb i (mixed (word_of kind))) kinds)) (from 0 64)

pub guessed : (kind : Kind) → get_or guesses (mixed (word_of kind)) 0 ≡ (form_of kind).byte
unfolding word_of
guessed kind = eqb-true _ (form_of kind).byte (each_kind (λ kind. eqb (get_or guesses (mixed (word_of kind)) 0) (form_of kind).byte) refl kind)

-- what `==` on two slices says is whether they are the same
pub same_pointwise : (l m : List ℕ) → pointwise nat_eq l m ≡ same l m
same_pointwise [] [] = refl
same_pointwise [] (y ∷ m) = refl
same_pointwise (x ∷ l) [] = refl
same_pointwise (x ∷ l) (y ∷ m) = ap (◌&&◌ (eqb x y)) (same_pointwise l m)

-- a byte string with no letter, or with too many, spells no kind
pub empty_spells_none : (w : List ℕ) → length w ≡ 0 → kind_spelled w ≡ None
empty_spells_none w h = no_word w (λ kind q. omega (arith, ap length q, word_some kind))

pub long_spells_none : (w : List ℕ) → longest < length w → kind_spelled w ≡ None
long_spells_none w h = no_word w (λ kind q. omega (arith, ap length q, word_short kind))

-- one that is a kind's word spells it; one that is not the word of the kind guessed spells none, and where no kind was guessed it spells none
pub spells_guessed : (w : List ℕ) (kind : Kind) → same w (word_of kind) ≡ true → kind_spelled w ≡ Some kind
spells_guessed w kind h = ap kind_spelled (same_is w (word_of kind) h) ∙ kind_of_word kind

pub other_than_guessed : (w : List ℕ) (byte : ℕ) (kind : Kind) → Guesses w byte → kind_of byte ≡ Some kind → same w (word_of kind) ≡ false →
    kind_spelled w ≡ None
other_than_guessed w byte kind guess k h =
    no_word w (λ other q.
    let found : Some kind ≡ Some other = sym k ∙ ap kind_of (guess other q) ∙ kind_of_byte other in
    let one : kind ≡ other = cc in
    never (sym (same_self w) ∙ ap (same w) (q ∙ ap word_of (sym one)) ∙ h))

pub none_guessed : (w : List ℕ) (byte : ℕ) → Guesses w byte → kind_of byte ≡ None → kind_spelled w ≡ None
none_guessed w byte guess k =
    no_word w (λ other q. let found : None ≡ Some other = sym k ∙ ap kind_of (guess other q) ∙ kind_of_byte other in never cc)

-- what `kind_of_word` (src/words.rt) answers at each of its ends
pub ruleset guessing = (empty_spells_none, long_spells_none, spells_guessed, other_than_guessed, none_guessed)

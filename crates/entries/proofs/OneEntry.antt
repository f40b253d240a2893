-- Laws of one entry: its size, what it uses, and its bytes in an output.
-- Assumes nothing.
use mathlib.Core.Path.{◌≡◌, refl, sym, ap, ◌∙◌}
use mathlib.Core.Bool.{cond}
use mathlib.Core.List.{List, [], ◌∷◌, ◌++◌}
use Prim.Native.Nat.{ℕ, zero, suc, ◌≤◌, ◌<◌, max}
use native.Mathlib.Omega.{arith}
use lib.ListN.{length, take, drop, set}
use lib.Dec.{ltb}
use Rattle.kinds.specs.declared.RowKind.TheVariants.{Always, DenyIf, GrantIf, One, Two}
use Rattle.kinds.specs.declared.QuestionKind.TheVariants.{Compare, Not, Both}
use Rattle.kinds.specs.declared.Names.{Names}
use Rattle.kinds.specs.declared.Kind.{Kind}
use Rattle.kinds.specs.declared.ConstraintKind.TheVariants.{NeverBoth, OnlyIf}
use Rattle.kinds.specs.declared.Kind.TheVariants.{Row, Question, Constraint, Supplier}
use Rattle.entries.specs.declared.Entry.{Entry}
use Rattle.kinds.specs.Kinds.{form_of}
use Rattle.entries.specs.Entries.{numbers_of, used_by, highest_of, size_of, bytes_of, onto}
use Rattle.entries.proofs.Numbers.{by_order}
use Rattle.entries.proofs.Putting.{onto_short, onto_fits}

-- a body has at most two numbers, and an entry one byte more than its body
pub few : (k : Kind) → (form_of k).numbers < 3
few (Row (Always v)) = omega arith
few (Row DenyIf) = omega arith
few (Row GrantIf) = omega arith
few (Row (One op)) = omega arith
few (Row (Two op)) = omega arith
few (Question (Compare o)) = omega arith
few (Question Not) = omega arith
few (Question Both) = omega arith
few (Constraint NeverBoth) = omega arith
few (Constraint OnlyIf) = omega arith
few Supplier = omega arith

pub length_front : (n : ℕ) (a b : ℕ) → n < 3 → length (take n (a ∷ b ∷ [])) ≡ n
length_front zero a b h = refl
length_front (suc zero) a b h = refl
length_front (suc (suc zero)) a b h = refl
length_front (suc (suc (suc n))) a b h = absurd (omega arith)

pub size : (e : Entry) → size_of e ≡ suc (numbers_of e)
unfolding bytes_of
size e = ap suc (length_front (numbers_of e) e.a e.b (few e.kind))

-- what an entry uses, by its two numbers
abbrev pub used_at : Names → ℕ → ℕ → ℕ → ℕ
used_at names numbers i x = cond (ltb i numbers) (used_by names x) 0

pub used_by_both : (names : Names) (n a b : ℕ) → n < 3 → max (used_at names n 0 a) (used_at names n 1 b) ≡ highest_of names (take n (a ∷ b ∷ []))
used_by_both names zero a b h = omega arith
used_by_both names (suc zero) a b h = refl
used_by_both names (suc (suc zero)) a b h = omega arith
used_by_both names (suc (suc (suc n))) a b h = absurd (omega arith)

-- an entry's bytes onto the front of an output that is too short, and of one that is long enough
pub too_short_lem : (e : Entry) (out : List ℕ) → length out ≤ numbers_of e → out ≡ onto (bytes_of e) out
too_short_lem e out h = onto_short (bytes_of e) out (omega (arith, size e))

onto_long : (e : Entry) (out : List ℕ) → numbers_of e < length out → bytes_of e ++ drop (length (bytes_of e)) out ≡ onto (bytes_of e) out
onto_long e out h = sym (onto_fits (bytes_of e) out (omega (arith, size e)))

-- the stores that write an entry of no, one and two numbers
pub put_none : (e : Entry) (out : List ℕ) → numbers_of e < length out → numbers_of e ≡ 0 → set out 0 (form_of e.kind).byte ≡ onto (bytes_of e) out
unfolding bytes_of
put_none e [] h q = absurd (omega arith)
put_none e (x ∷ out) h q = (rw q) ∙ onto_long e (x ∷ out) h

pub put_one : (e : Entry) (out : List ℕ) → numbers_of e < length out → numbers_of e ≡ 1 →
    set (set out 0 (form_of e.kind).byte) 1 e.a ≡ onto (bytes_of e) out
unfolding bytes_of
put_one e [] h q = absurd (omega arith)
put_one e (x ∷ []) h q = absurd (omega arith)
put_one e (x ∷ y ∷ out) h q = (rw q) ∙ onto_long e (x ∷ y ∷ out) h

pub put_two : (e : Entry) (out : List ℕ) → numbers_of e < length out → numbers_of e ≡ 2 →
    set (set (set out 0 (form_of e.kind).byte) 1 e.a) 2 e.b ≡ onto (bytes_of e) out
unfolding bytes_of
put_two e [] h q = absurd (omega arith)
put_two e (x ∷ []) h q = absurd (omega arith)
put_two e (x ∷ y ∷ []) h q = absurd (omega arith)
put_two e (x ∷ y ∷ z ∷ out) h q = (rw q) ∙ onto_long e (x ∷ y ∷ z ∷ out) h

-- and all of them, by what is left after the store of the first number and after that of the second
pub put_all : (e : Entry) (out one two : List ℕ) → numbers_of e < length out →
    (0 < numbers_of e → one ≡ set (set out 0 (form_of e.kind).byte) 1 e.a) → (numbers_of e ≤ 0 → one ≡ set out 0 (form_of e.kind).byte) →
    (1 < numbers_of e → two ≡ set one 2 e.b) → (numbers_of e ≤ 1 → two ≡ one) → two ≡ onto (bytes_of e) out
put_all e out one two h first no-first second no_second =
    by_order 1 (numbers_of e)
    (λ l. second l ∙ ap (λ (o : List ℕ). set o 2 e.b) (first (omega arith)) ∙ put_two e out h (omega (arith, few e.kind)))
    (λ l. no_second l ∙ by_order 0 (numbers_of e) (λ k. first k ∙ put_one e out h (omega arith)) (λ k. no-first k ∙ put_none e out h (omega arith)))

-- What a visit sees of a set of truths: where it is settled, its one member; by the mask; and by how its facts stand to the constraints.
-- Assumes nothing.
use Prim.Native.Nat.{ℕ, zero, suc, ◌%◌, ◌<◌}
use mathlib.Core.Path.{◌≡◌, refl, sym, ap, ◌∙◌}
use mathlib.Core.Bool.{Bool, true, false, cond}
use mathlib.Core.Logic.{◌⊎◌, inl, inr}
use native.Mathlib.Omega.{arith}
use Rattle.decide.specs.Meaning.{bit}
use Rattle.belnap.proofs.Finite.{never}
use Rattle.possible.specs.Sets.{truths, Set, Within, single, of_mask}
use Rattle.possible.proofs.Masks.{low}
use Rattle.constraints.specs.declared.Standing.{Standing}
use Rattle.constraints.specs.declared.Standing.TheVariants.{Broken, Waiting, Kept}
use Rattle.walk.specs.declared.Look.{Look}
use Rattle.walk.specs.declared.Look.TheVariants.{Nothing, Found, Open}
use Rattle.walk.specs.Walk.{look, heeding}

-- a set that is seen settled has no other member
pub settled : (t : Set truths) (b r : Bool) → look t ≡ cond b Nothing Found → t.has r ≡ true → r ≡ b
settled t true true e q = refl
settled t true false e q = absurd (at (t.has true) (rw q at e))
  where
    at : (h : Bool) → cond h Open Found ≡ Nothing → ⊥
    at true e = let z : ◌≡◌ {A = ℕ} 0 1 = cc in omega arith
    at false e = let z : ◌≡◌ {A = ℕ} 0 1 = cc in omega arith
settled t false true e q = absurd (at (t.has false) (rw q at e))
  where
    at : (h : Bool) → cond h Open Nothing ≡ Found → ⊥
    at true e = let z : ◌≡◌ {A = ℕ} 0 1 = cc in omega arith
    at false e = let z : ◌≡◌ {A = ℕ} 0 1 = cc in omega arith
settled t false false e q = refl

-- and one within it that has a member is settled alike
pub settled_within : (t u : Set truths) (b r : Bool) → Within t u → t.has r ≡ true → look u ≡ cond b Nothing Found →
    look t ≡ cond b Nothing Found
settled_within t u b r within has e =
    let only : (x : Bool) → t.has x ≡ true → x ≡ b = λ x q. settled u b x e (within x q) in
    at b (t.has true) (t.has false) refl refl only (rw (only r has) at has)
  where
    at : (b p q : Bool) → t.has true ≡ p → t.has false ≡ q → ((x : Bool) → t.has x ≡ true → x ≡ b) → t.has b ≡ true →
        cond q (cond p Open Found) (cond p Nothing Open) ≡ cond b Nothing Found
    at true true false i j only h = refl
    at true true true i j only h = never (sym (only false j))
    at true false q i j only h = never (sym h ∙ i)
    at false false true i j only h = refl
    at false true true i j only h = never (only true i)
    at false p false i j only h = never (sym h ∙ j)

-- one truth alone is settled
pub single_settled : (b : Bool) → look (single b) ≡ Open → ⊥
single_settled true e = let z : ◌≡◌ {A = ℕ} 0 1 = cc in omega arith
single_settled false e = let z : ◌≡◌ {A = ℕ} 0 1 = cc in omega arith

-- what is seen goes by the two low bits of the mask: true alone, false alone, or both or none
at_low : (n m : ℕ) → n % 4 ≡ m → look (of_mask truths n) ≡ look (of_mask truths m)
at_low n m e = ap look (sym (low truths n) ∙ ap (of_mask truths) e)

pub look_true : (n : ℕ) → n % 4 ≡ 1 → Nothing ≡ look (of_mask truths n)
unfolding of_mask bit
look_true n e = sym (at_low n 1 e)

pub look_false : (n : ℕ) → n % 4 ≡ 2 → Found ≡ look (of_mask truths n)
unfolding of_mask bit
look_false n e = sym (at_low n 2 e)

pub look_open : (n : ℕ) → (n % 4 ≡ 1 → ⊥) → (n % 4 ≡ 2 → ⊥) → Open ≡ look (of_mask truths n)
unfolding of_mask bit
look_open n p q = sym (at_low n (n % 4) refl ∙ at (n % 4) (omega arith) p q)
  where
    at : (m : ℕ) → m < 4 → (m ≡ 1 → ⊥) → (m ≡ 2 → ⊥) → look (of_mask truths m) ≡ Open
    at zero h p q = refl
    at (suc zero) h p q = absurd (p refl)
    at (suc (suc zero)) h p q = absurd (q refl)
    at (suc (suc (suc zero))) h p q = refl
    at (suc (suc (suc (suc m)))) h p q = absurd (omega arith)

-- what is seen by how the facts stand to the constraints: nothing, a request, or neither yet
pub heeds_nothing : (s : Standing) (l : Look) → heeding s l ≡ Nothing → (s ≡ Broken) ⊎ (l ≡ Nothing)
heeds_nothing Broken l e = inl refl
heeds_nothing Waiting Nothing e = inr refl
heeds_nothing Waiting Found e = never cc
heeds_nothing Waiting Open e = never cc
heeds_nothing Kept l e = inr e

pub heeds_found : (s : Standing) (l : Look) → heeding s l ≡ Found → (s ≡ Kept) × (l ≡ Found)
heeds_found Broken l e = never cc
heeds_found Waiting Nothing e = never cc
heeds_found Waiting Found e = never cc
heeds_found Waiting Open e = never cc
heeds_found Kept l e = (refl, e)

pub heeds_open : (s : Standing) (l : Look) → heeding s l ≡ Open → (s ≡ Waiting) ⊎ (l ≡ Open)
heeds_open Broken l e = never cc
heeds_open Waiting l e = inl refl
heeds_open Kept l e = inr e

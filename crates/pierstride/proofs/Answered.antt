-- What a service that refused nothing has answered: of which table, and what.
-- Assumes nothing.
use mathlib.Core.Path.{◌≡◌, refl, sym, ap, ◌∙◌}
use mathlib.Core.Bool.{Bool, true, false}
use mathlib.Core.List.{List}
use Prim.Native.Nat.{ℕ, zero, suc, ◌<◌}
use native.Mathlib.Omega.{arith}
use lib.ListN.{length}
use lib.Dec.{leb}
use borrow.Author.Tests.{leb-false, lt-leb}
use Rattle.entries.specs.Said.{Refusal}
use Rattle.entries.specs.Said.{Said, answered, refusing, refusal, and_then, unless}
use Rattle.entries.proofs.Saying.{not_both}
use Rattle.table.specs.Contents.{Contents, predicates}
use Rattle.table.specs.Reading.{reading}
use Rattle.table.proofs.Writing.{of_accepted}
use Rattle.decide.specs.Meaning.{decision}
use Rattle.possible.specs.Possible.{possible}
use Rattle.walk.specs.Walk.{reply_of}
use Rattle.walk.proofs.Answers.{Bounded, bounded}
use Rattle.pierstride.specs.Masks.{beyond, bad_masks}
use Rattle.pierstride.specs.Services.{asked_wrongly, decided_of, remaining_of, replied_of, walk_of}
use Rattle.pierstride.specs.Services.{says_decide, decide_answer, says_possible, possible_answer, says_verdict, verdict_answer}

-- an answer speaks of an accepted table
pub table_of : {A : Type 0} (s : List ℕ) (f : Contents → Said A) (v : A) → and_then (reading s) f ≡ answered v →
    (c : Contents) × (reading s ≡ answered c)
table_of s f v = go (reading s) refl
  where
    go : (x : Said Contents) → reading s ≡ x → and_then x f ≡ answered v → (c : Contents) × (reading s ≡ answered c)
    go (answered c) e q = (c, e)
    go (refusing why) e q = not_both (sym q)

-- n covers the predicates of its constraints and rows
pub accepted_bounded : (s : List ℕ) (c : Contents) → reading s ≡ answered c → Bounded c.constraints c.rows (predicates c)
accepted_bounded s c is = bounded c (of_accepted s c is).0.constraints_sound

-- nothing was wrong with what was asked
asked_well : {A B : Type 0} (shows : Said A → B) (number : B → ℕ) → ((why : Refusal) → number (shows (refusing why)) ≡ why.number) →
    (n : ℕ) (v : A) →
    number (shows (unless n (answered v))) ≡ 0 → n ≡ 0
asked_well shows number h zero v e = refl
asked_well shows number h (suc n) v e = absurd (omega (arith, e, h (refusal (suc n) 0)))

-- the number and the masks were good
pub record Well (count at : ℕ) (bad : Bool) : Type 0 where
  pub there : at < count
  pub good : bad ≡ false

well : (count at : ℕ) (bad : Bool) → asked_wrongly (leb count at) bad ≡ 0 → Well count at bad
well count at bad e = go (leb count at) bad refl refl e
  where
    go : (a b : Bool) → leb count at ≡ a → bad ≡ b → asked_wrongly a b ≡ 0 → Well count at bad
    go true b p q e = absurd (omega arith)
    go false true p q e = absurd (omega arith)
    go false false p q e = record { there = leb-false count at p; good = q }

-- and then nothing is wrong with it
asked_right : (count at : ℕ) → at < count → asked_wrongly (leb count at) false ≡ 0
asked_right count at h = rw (lt-leb count at h)

-- the services on an accepted table
module _ (s : List ℕ) (c : Contents) (is : reading s ≡ answered c) where
  module _ (r request : ℕ) where
    decide_says : says_decide s r request ≡ unless (asked_wrongly (leb (length c.rows) r) (beyond request)) (answered (decision c.rows request r))
    unfolding says_decide
    decide_says = rw is

    pub decided : (decide_answer s r request).refusal ≡ 0 →
        Well (length c.rows) r (beyond request) × (decide_answer s r request ≡ decided_of (answered (decision c.rows request r)))
    decided e =
        let n = asked_well decided_of (λ a. a.refusal) (λ why. refl) _ _ (rw decide_says at e) in
        (well (length c.rows) r (beyond request) n, ap decided_of decide_says ∙ rw n)

    pub decides : r < length c.rows → beyond request ≡ false → decide_answer s r request ≡ decided_of (answered (decision c.rows request r))
    decides h g = ap decided_of decide_says ∙ rw (g, asked_right (length c.rows) r h)

  module _ (r known request : ℕ) where
    possible_says : says_possible s r known request ≡
        unless (asked_wrongly (leb (length c.rows) r) (bad_masks known request)) (answered (possible c.rows known request r))
    unfolding says_possible
    possible_says = rw is

    pub remained : (possible_answer s r known request).refusal ≡ 0 →
        Well (length c.rows) r (bad_masks known request) × (possible_answer s r known request ≡ remaining_of (answered (possible c.rows known request r)))
    remained e =
        let n = asked_well remaining_of (λ a. a.refusal) (λ why. refl) _ _ (rw possible_says at e) in
        (well (length c.rows) r (bad_masks known request) n, ap remaining_of possible_says ∙ rw n)

    pub remains : r < length c.rows → bad_masks known request ≡ false →
        possible_answer s r known request ≡ remaining_of (answered (possible c.rows known request r))
    remains h g = ap remaining_of possible_says ∙ rw (g, asked_right (length c.rows) r h)

  pub replies : (q budget : ℕ) → q < length c.questions →
      verdict_answer s q budget ≡ replied_of (reply_of budget (walk_of c q))
  unfolding says_verdict
  replies q budget h = rw (is, asked_right (length c.questions) q h)

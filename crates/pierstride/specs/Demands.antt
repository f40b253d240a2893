-- What the theorems about the letter's three demands speak of, beside the services' answers (specs/Services.antt).
use Rattle.std.specs.Prelude.{ℕ, ◌≡◌, true, false, List, [], ◌∷◌, ◌⊎◌, length, take, drop}
use Rattle.entries.specs.Refusals.{not_there, still_named, bad_mask, output_too_short, is_among}
use Rattle.entries.specs.Said.{Said, answered, refusing, refusal}
use Rattle.table.specs.Contents.{Contents, predicates}
use Rattle.table.specs.Places.{Speaks}
use Rattle.constraints.specs.Constraints.{within}
use Rattle.questions.specs.Questions.{truth}
use Rattle.walk.specs.Twice.{walk_twice}
use Rattle.pierstride.specs.declared.Written.{Written}
use Rattle.pierstride.specs.Services.{walk_of}

-- "one of 01's numbered refusals": each call's own, beside those of reading
abbrev pub no_own : List ℕ
no_own = []

abbrev pub of_deciding : List ℕ
of_deciding = not_there ∷ bad_mask ∷ []

abbrev pub of_asking : List ℕ
of_asking = not_there ∷ []

abbrev pub of_striking : List ℕ
of_striking = not_there ∷ still_named ∷ output_too_short ∷ []

abbrev pub of_listing : List ℕ
of_listing = not_there ∷ output_too_short ∷ []

abbrev pub of_writing : List ℕ
of_writing = output_too_short ∷ []

-- "A refusal gives its number and place": one of reading's, as the first bad entry speaks, or one of the call's own, at 0
abbrev pub Due : List ℕ → List ℕ → ℕ → ℕ → Type 0
Due own s n p = Speaks s n p ⊎ ((is_among own n ≡ true) × (p ≡ 0))

-- `refusal` is 0 exactly if the call answered; otherwise it and `place` are those of a refusal that is due
pub record Tells {A : Type 0} (due : ℕ → ℕ → Type 0) (said : Said A) (number place : ℕ) : Type 0 where
  pub answers : number ≡ 0 → (v : A) × (said ≡ answered v)
  pub none : (v : A) → said ≡ answered v → (number ≡ 0) × (place ≡ 0)
  pub refuses : (number ≡ 0 → ⊥) → (said ≡ refusing (refusal number place)) × due number place

-- "A request breaks a question if it is false there."
abbrev pub Breaks : Contents → ℕ → ℕ → Type 0
Breaks c q o = truth c.rows c.questions o q ≡ false

-- "Demand 2 then speaks of requests within these entries" (02, L5)
abbrev pub Within : Contents → ℕ → Type 0
Within c o = within c.constraints o ≡ true

-- how many visits "01's walk needs"; "demand 3 of the new walk"
abbrev pub needed : Contents → ℕ → ℕ
needed c q = length (walk_of c q)

-- and how many it needed by 01's own choice, twice from one row
abbrev pub needed_twice : Contents → ℕ → ℕ
needed_twice c q = length (walk_twice c.constraints c.rows c.questions (predicates c) q)

-- a call that wrote these bytes: it answers how many, they stand at the front of the output, and what was behind stays
pub record Wrote (bytes out : List ℕ) (answer : Written) (left : List ℕ) : Type 0 where
  pub answers : answer.refusal ≡ 0
  pub long : answer.length ≡ length bytes
  pub front : take answer.length left ≡ bytes
  pub behind : drop answer.length left ≡ drop answer.length out

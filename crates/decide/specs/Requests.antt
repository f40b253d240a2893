-- Requests beside each other: agreeing, filling missing facts in, and learning (01, "The four decisions" and "Missing facts"; the letter's third demand).
use Rattle.std.specs.Prelude.{ℕ, ◌<◌, ◌≡◌, Bool, true}
use Rattle.decide.specs.Meaning.{bit}

-- "Two requests that agree on every predicate …": on those of a set, given as a test
abbrev pub Agree : (ℕ → Bool) → ℕ → ℕ → Type 0
Agree on m o = (p : ℕ) → on p ≡ true → bit m p ≡ bit o p

-- "every way of filling them in": a request that says of each known predicate what is known of it
abbrev pub Fills : ℕ → ℕ → ℕ → Type 0
Fills known request o = (p : ℕ) → bit known p ≡ true → bit o p ≡ bit request p

-- "Learning a fact, while the known ones stand": what was known still is, and says the same
abbrev pub Learns : ℕ → ℕ → ℕ → ℕ → Type 0
Learns known request more then = (p : ℕ) → bit known p ≡ true → (bit more p ≡ true) × (bit then p ≡ bit request p)

-- "with nothing unknown", of the first n predicates
abbrev pub AllKnown : ℕ → ℕ → Type 0
AllKnown n known = (p : ℕ) → p < n → bit known p ≡ true

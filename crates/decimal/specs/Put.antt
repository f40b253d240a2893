-- A text put into an output from a place on, as the calls that write one piece after the other promise it.
use Rattle.std.specs.Prelude.{ℕ, ◌+◌, min, max, ◌≡◌, List, length}
use Rattle.std.proofs.lemmas.List.Edits.{sets}

-- as much of it as the output has places for: the place behind what was stored comes back, and the output holds that from the place on
pub record Stores (out : List ℕ) (at : ℕ) (text : List ℕ) (next : ℕ) (left : List ℕ) : Type 0 where
  pub reached : next ≡ min (at + length text) (max at (length out))
  pub stored : left ≡ sets out at text

-- all of it
pub record Put (out : List ℕ) (at : ℕ) (text : List ℕ) (next : ℕ) (left : List ℕ) : Type 0 where
  pub behind : next ≡ at + length text
  pub holds : left ≡ sets out at text

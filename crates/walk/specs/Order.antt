-- 01's order of requests: "predicate 0 weighs most, no before yes".
use Rattle.std.specs.Prelude.{ℕ, Bool, false, cond, List, [], ◌∷◌}
use Rattle.belnap.specs.Decisions.{alike}
use Rattle.decide.specs.Meaning.{bit}
use Rattle.walk.specs.Walk.{predicates_from}

-- whether m comes before o by these predicates, the first of which weighs most: at the first on which they differ, o says yes
unfoldable pub before_by : List ℕ → ℕ → ℕ → Bool
before_by [] m o = false
before_by (p ∷ ps) m o = cond (alike (bit m p) (bit o p)) (before_by ps m o) (bit o p)

-- whether m comes before o, over n predicates
abbrev pub comes_before : ℕ → ℕ → ℕ → Bool
comes_before n m o = before_by (predicates_from 0 n) m o

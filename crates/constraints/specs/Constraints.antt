-- What constraints say of a request, and of known facts (02, L5).
use Rattle.std.specs.Prelude.{ℕ, Bool, false, cond, not, ◌&&◌, List}
use Rattle.belnap.specs.Orders.{only_if}
use Rattle.kinds.specs.declared.ConstraintKind.{ConstraintKind}
use Rattle.kinds.specs.declared.ConstraintKind.TheVariants.{NeverBoth, OnlyIf}
use Rattle.kinds.specs.Kinds.{as_constraint}
use Rattle.entries.specs.declared.Entry.{Entry}
use Rattle.entries.specs.Lists.{some, every}
use Rattle.decide.specs.Meaning.{bit}
use Rattle.constraints.specs.declared.Standing.{Standing}
use Rattle.constraints.specs.declared.Standing.TheVariants.{Broken, Waiting, Kept}

-- "50 with two predicates, never both yes; 51 with two predicates, the first yes only if the second is": whether a request keeps one
abbrev pub keeps : ConstraintKind → Bool → Bool → Bool
keeps NeverBoth a b = not (a && b)
keeps OnlyIf a b = only_if a b

abbrev pub kept_by : ℕ → Entry → Bool
kept_by request e = keeps (as_constraint e.kind) (bit request e.a) (bit request e.b)

-- a request "within these entries": it keeps each of them
unfoldable pub within : List Entry → ℕ → Bool
within constraints request = every (kept_by request) constraints

-- what is known of a predicate: that it is yes, or that it is no
abbrev pub known_yes : ℕ → ℕ → ℕ → Bool
known_yes known facts p = bit known p && bit facts p

abbrev pub known_no : ℕ → ℕ → ℕ → Bool
known_no known facts p = bit known p && not (bit facts p)

-- "known facts break one": of 50 both are known to be yes; of 51 the first is known to be yes, and the second to be no
abbrev pub breaks : ConstraintKind → ℕ → ℕ → ℕ → ℕ → Bool
breaks NeverBoth known facts a b = known_yes known facts a && known_yes known facts b
breaks OnlyIf known facts a b = known_yes known facts a && known_no known facts b

-- "some 51 has its first known yes and its second unknown"
abbrev pub waits : ConstraintKind → ℕ → ℕ → ℕ → ℕ → Bool
waits NeverBoth known facts a b = false
waits OnlyIf known facts a b = known_yes known facts a && not (bit known b)

abbrev pub broken_by : ℕ → ℕ → Entry → Bool
broken_by known facts e = breaks (as_constraint e.kind) known facts e.a e.b

abbrev pub waited_by : ℕ → ℕ → Entry → Bool
waited_by known facts e = waits (as_constraint e.kind) known facts e.a e.b

-- how known facts stand to constraints: they break one; or else one waits; or neither
abbrev pub standing_by : Bool → Bool → Standing
standing_by broken waiting = cond broken Broken (cond waiting Waiting Kept)

unfoldable pub standing : List Entry → ℕ → ℕ → Standing
standing constraints known facts = standing_by (some (broken_by known facts) constraints) (some (waited_by known facts) constraints)

-- to one constraint
abbrev pub stands_by : ConstraintKind → ℕ → ℕ → ℕ → ℕ → Standing
stands_by kind known facts a b = standing_by (breaks kind known facts a b) (waits kind known facts a b)

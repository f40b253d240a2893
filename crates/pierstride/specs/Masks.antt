-- Masks that no request has (01, "When we say no", 10: "a mask bit above 23, or yes without known").
use Rattle.std.specs.Prelude.{ℕ, zero, suc, ◌^◌, Bool, true, not, ◌&&◌, ◌||◌, leb}
use Rattle.belnap.specs.Orders.{only_if}
use Rattle.table.specs.Steps.{predicate_limit}
use Rattle.decide.specs.Meaning.{bit}

-- a mask bit above 23
abbrev pub beyond : ℕ → Bool
beyond mask = leb (2 ^ predicate_limit) mask

-- of the first so many predicates, each that is yes is known
unfoldable pub known_below : ℕ → ℕ → ℕ → Bool
known_below zero known request = true
known_below (suc p) known request = known_below p known request && only_if (bit request p) (bit known p)

-- a request with missing facts that 10 refuses
abbrev pub bad_masks : ℕ → ℕ → Bool
bad_masks known request = (beyond known || beyond request) || not (known_below predicate_limit known request)

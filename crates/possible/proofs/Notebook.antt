-- The cases that 01's notebook marks P, and two of a row against itself, as one table under one claim about the definitions.
-- Assumes nothing.
use Prim.Native.Nat.{ℕ}
use mathlib.Core.Bool.{cond}
use mathlib.Core.Path.{◌≡◌, refl}
use mathlib.Core.List.{List, [], ◌∷◌, foldr, map}
use Rattle.belnap.specs.declared.Decision.{Decision}
use Rattle.belnap.specs.declared.Decision.TheVariants.{U, D, G, C}
use Rattle.belnap.specs.Lattice.{conflation, truth_meet, truth_join, knowledge_meet, knowledge_join}
use Rattle.operators.specs.Operators.{open_default, implication, guard, override}
use Rattle.kinds.specs.Kinds.{kind_of}
use Rattle.entries.specs.Said.{Said, answered, refusing}
use Rattle.entries.specs.Entries.{bytes_of}
use Rattle.table.specs.Steps.{body_of, decoded, no_room, offending, placed, permitted, judged, step_of}
use Rattle.table.specs.Contents.{Contents}
use Rattle.table.specs.Reading.{after, read_on, reading}
use Rattle.decide.specs.Rows.{values, value_at}
use Rattle.decide.specs.Meaning.{bit}
use Rattle.possible.specs.Sets.{decisions, Set, of_mask, choosing, image_one, image_two}
use Rattle.possible.specs.Possible.{fact_set, set_by, possible}

-- the decisions that the definitions bring, and those that the notebook states
record Case : Type 0 where
  brought : List Decision
  stated : List Decision

abbrev is : Decision → Decision → Case
is x y = record { brought = x ∷ []; stated = y ∷ [] }

-- the members of a set, in the order of their codes
abbrev members : Set decisions → List Decision
members s = foldr (λ v later. cond (s.has v) (v ∷ later) later) [] decisions.members

-- the decisions that remain possible for a row with nothing known; none where the table is refused
abbrev remaining : Said Contents → ℕ → List Decision
remaining (answered c) r = members (possible c.rows 0 0 r)
remaining (refusing why) r = []

abbrev cases : List Case
cases =
    -- "c implies d is d; u implies d is g; u guards g is u; c guards g is g"
    is (implication C D) D ∷ is (implication U D) G ∷ is (guard U G) U ∷ is (guard C G) G ∷
    -- "truth meet of u and c is d; truth join of them is g; g and d give c by knowledge join and u by knowledge meet"
    is (truth_meet U C) D ∷ is (truth_join U C) G ∷ is (knowledge_join G D) C ∷ is (knowledge_meet G D) U ∷
    -- "conflation of u is c; override of c by g, on c, is g; open default of c is g"
    is (conflation U) C ∷ is (override C C G) G ∷ is (open_default C) G ∷
    -- "`11 00 01 34 00 01`, row 2, nothing known: the set is 6 (d and g)"
    record { brought = remaining (reading (0x11 ∷ 0x00 ∷ 0x01 ∷ 0x34 ∷ 0x00 ∷ 0x01 ∷ [])) 2; stated = members (of_mask decisions 6) } ∷
    record { brought = members (of_mask decisions 6); stated = D ∷ G ∷ [] } ∷
    -- by 02's L3: `11 00 34 00 00`, row 1, nothing known: the set is 4; `11 00 11 00 34 00 01`, row 2, of two rows that say the same: 5
    record { brought = remaining (reading (0x11 ∷ 0x00 ∷ 0x34 ∷ 0x00 ∷ 0x00 ∷ [])) 1; stated = members (of_mask decisions 4) } ∷
    record { brought = remaining (reading (0x11 ∷ 0x00 ∷ 0x11 ∷ 0x00 ∷ 0x34 ∷ 0x00 ∷ 0x01 ∷ [])) 2; stated = members (of_mask decisions 5) } ∷ []

pub right : map (λ c. c.brought) cases ≡ map (λ c. c.stated) cases
unfolding reading read_on after step_of judged placed permitted offending no_room decoded body_of kind_of bytes_of values value_at bit fact_set set_by choosing
    image_one
    image_two of_mask
right = refl

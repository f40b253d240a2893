-- What the definitions say of small tables with constraints (02, L5) and with suppliers (02, L6), by computation: the reader's own check of them.
-- Assumes nothing.
use mathlib.Core.Path.{◌≡◌, refl}
use mathlib.Core.List.{List, [], ◌∷◌}
use Prim.Native.Nat.{ℕ, zero, suc}
use Rattle.kinds.specs.Kinds.{kind_of}
use Rattle.entries.specs.Refusals.{out_of_order, too_many_constraints, cut_short, idle_supplier, predicate_too_high, not_to_be_named}
use Rattle.entries.specs.Said.{answered, refusing, refusal}
use Rattle.table.specs.Steps.{body_of, decoded, no_room, offending, placed, permitted, judged, step_of}
use Rattle.entries.specs.Entries.{bytes_of}
use Rattle.table.specs.Suppliers.{marked, last_of}
use Rattle.table.specs.Contents.{highest, written}
use Rattle.table.specs.Reading.{after, read_on, reading}
use Rattle.decide.specs.Rows.{value_at}
use Rattle.decide.specs.Reach.{reaches_within, passing}
use Rattle.decide.specs.Meaning.{bit}
use Rattle.possible.specs.Sets.{choosing, image_one, image_two}
use Rattle.possible.specs.Possible.{fact_set, set_by}
use Rattle.questions.specs.Questions.{truth_set_by}
use Rattle.constraints.specs.Constraints.{standing}
use Rattle.walk.specs.declared.Reply.TheVariants.{Holds, Fails}
use Rattle.walk.specs.Walk.{found, visits_from, predicates_from, reply_of}
use Rattle.suppliers.specs.Suppliers.{list_of}
use Rattle.strike.specs.Strike.{lower, without, in_use, struck_answer, struck_output}
use Rattle.pierstride.specs.Services.{read_answer, replied_of, says_verdict, verdict_answer, strike_output, says_suppliers}

pub verdicts :
    (verdict_answer (0x51 ∷ 0x00 ∷ 0x02 ∷ 0x11 ∷ 0x00 ∷ 0x00 ∷ 0x40 ∷ 0x00 ∷ 0x01 ∷ []) 0 1000000 ≡ replied_of (Fails 5 6))
    × (verdict_answer (0x50 ∷ 0x00 ∷ 0x00 ∷ 0x11 ∷ 0x00 ∷ 0x00 ∷ 0x40 ∷ 0x00 ∷ 0x01 ∷ []) 0 1000000 ≡ replied_of (Holds 3))
unfolding says_verdict reading read_on after step_of judged placed permitted offending no_room decoded body_of kind_of bytes_of highest
    reply_of visits_from predicates_from found standing bit value_at truth_set_by image_one image_two choosing set_by fact_set
verdicts = (refl, refl)

-- so many constraints, and what stands behind them
abbrev constraints : ℕ → List ℕ → List ℕ
constraints zero rest = rest
constraints (suc n) rest = 0x50 ∷ 0x00 ∷ 0x01 ∷ constraints n rest

abbrev Refuses : List ℕ → ℕ → ℕ → Type 0
Refuses s number place = reading s ≡ refusing (refusal number place)

-- "5 also when 50 or 51 follows a row or question; 14, a 33rd such entry, at the kind byte, after 7": before 2 and 3, and behind 5
pub refusals :
    Refuses (0x00 ∷ constraints 1 []) out_of_order 1 × Refuses (0x00 ∷ 0x40 ∷ 0x00 ∷ 0x00 ∷ constraints 1 []) out_of_order 4
    × Refuses (constraints 33 []) too_many_constraints 96 × Refuses (constraints 32 (0x51 ∷ [])) too_many_constraints 96
    × Refuses (constraints 32 (0x51 ∷ 0x18 ∷ 0x18 ∷ [])) too_many_constraints 96
    × Refuses (constraints 32 (0x00 ∷ constraints 1 [])) out_of_order 97 × Refuses (0x51 ∷ 0x00 ∷ []) cut_short 0
    × Refuses (0x51 ∷ 0x18 ∷ 0x18 ∷ []) predicate_too_high 1 × Refuses (0x51 ∷ 0x17 ∷ 0x18 ∷ []) predicate_too_high 2
unfolding reading read_on after step_of judged placed permitted offending no_room decoded body_of kind_of bytes_of
refusals = (refl, refl, refl, refl, refl, refl, refl, refl, refl)

-- 32 are accepted
pub accepts : (read_answer (constraints 32 [])).refusal ≡ 0
unfolding reading read_on after step_of judged placed permitted offending no_room decoded body_of kind_of bytes_of
accepts = refl

-- "n also counts their predicates"
pub counts : (read_answer (0x51 ∷ 0x02 ∷ 0x06 ∷ 0x11 ∷ 0x03 ∷ [])).predicates ≡ 7
unfolding reading read_on after step_of judged placed permitted offending no_room decoded body_of kind_of bytes_of highest
counts = refl

-- "15, a 60 that repeats the supplier in force or is not followed by a row's kind byte, at the 60, after 2; a 60 after a question is 5"
pub idle :
    Refuses (0x60 ∷ 0x05 ∷ constraints 1 []) idle_supplier 0 × Refuses (0x60 ∷ 0x05 ∷ 0x60 ∷ 0x06 ∷ 0x00 ∷ []) idle_supplier 0
    × Refuses (0x60 ∷ 0x05 ∷ []) idle_supplier 0 × Refuses (0x60 ∷ 0x05 ∷ 0x40 ∷ []) idle_supplier 0
    × Refuses (0x60 ∷ 0x05 ∷ 0x12 ∷ []) idle_supplier 0
    × Refuses (0x60 ∷ []) cut_short 0 × Refuses (0x00 ∷ 0x40 ∷ 0x00 ∷ 0x00 ∷ 0x60 ∷ []) out_of_order 4
    × Refuses (0x60 ∷ 0x05 ∷ 0x20 ∷ []) cut_short 2 × Refuses (0x60 ∷ 0x00 ∷ 0x00 ∷ []) idle_supplier 0
    × Refuses (0x00 ∷ 0x60 ∷ 0x05 ∷ 0x00 ∷ 0x60 ∷ 0x05 ∷ 0x00 ∷ []) idle_supplier 4
    × Refuses (0x60 ∷ 0x05 ∷ 0x00 ∷ 0x00 ∷ 0x60 ∷ 0x05 ∷ 0x00 ∷ []) idle_supplier 4
    × Refuses (0x00 ∷ 0x40 ∷ 0x00 ∷ 0x00 ∷ 0x60 ∷ 0x05 ∷ []) out_of_order 4 × Refuses (0x60 ∷ 0x05 ∷ 0x20 ∷ 0x00 ∷ []) not_to_be_named 3
unfolding reading read_on after step_of judged placed permitted offending no_room decoded body_of kind_of bytes_of
idle = (refl, refl, refl, refl, refl, refl, refl, refl, refl, refl, refl, refl, refl)

-- a strike, and what it writes over the front of seven nines
abbrev Strikes : List ℕ → ℕ → List ℕ → Type 0
Strikes s r left = strike_output s r (9 ∷ 9 ∷ 9 ∷ 9 ∷ 9 ∷ 9 ∷ 9 ∷ []) ≡ left

-- a 60 goes where the supplier no longer changes, and comes to stand before another row where it does
pub strikes :
    Strikes (0x00 ∷ 0x60 ∷ 0x01 ∷ 0x00 ∷ 0x60 ∷ 0x00 ∷ 0x00 ∷ []) 1 (0x00 ∷ 0x00 ∷ 9 ∷ 9 ∷ 9 ∷ 9 ∷ 9 ∷ [])
    × Strikes (0x00 ∷ 0x60 ∷ 0x01 ∷ 0x00 ∷ 0x00 ∷ []) 1 (0x00 ∷ 0x60 ∷ 0x01 ∷ 0x00 ∷ 9 ∷ 9 ∷ 9 ∷ [])
    × Strikes (0x00 ∷ 0x60 ∷ 0x01 ∷ 0x00 ∷ []) 0 (0x60 ∷ 0x01 ∷ 0x00 ∷ 9 ∷ 9 ∷ 9 ∷ 9 ∷ [])
unfolding reading read_on after step_of judged placed permitted offending no_room decoded body_of kind_of bytes_of
    struck_output struck_answer in_use without lower marked last_of written
strikes = (refl, refl, refl)

-- rows 0 to 3 of suppliers 9, 0, 9 and 4, of which row 3 names row 2, and that row 0: its list; "itself included", "each once, rising"
abbrev owned : List ℕ
owned = 0x60 ∷ 0x09 ∷ 0x00 ∷ 0x60 ∷ 0x00 ∷ 0x00 ∷ 0x60 ∷ 0x09 ∷ 0x20 ∷ 0x00 ∷ 0x60 ∷ 0x04 ∷ 0x20 ∷ 0x02 ∷ []

pub lists : says_suppliers owned 3 ≡ answered (4 ∷ 9 ∷ [])
unfolding list_of passing reaches_within reading read_on after step_of judged placed permitted offending no_room decoded body_of kind_of bytes_of
lists = refl

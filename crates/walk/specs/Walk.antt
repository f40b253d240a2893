-- The walk that answers a question (01, "The walk that answers a question"; 02, L5): the visits that it makes, in order. What was found is found by one of
-- them, their number is the count, and a budget is spent on the first of them. Stated over the predicates to be tried, and over what a visit sees where these
-- predicates are known and these of them yes.
use Rattle.std.specs.Prelude.{ℕ, zero, suc, ◌+◌, ◌^◌, true, false, cond, List, [], ◌∷◌, ◌++◌, leb, length}
use Rattle.std.proofs.Math.Option.{Option, none, some}
use Rattle.entries.specs.declared.Entry.{Entry}
use Rattle.possible.specs.Sets.{truths, Set}
use Rattle.questions.specs.Questions.{truth_set}
use Rattle.constraints.specs.declared.Standing.{Standing}
use Rattle.constraints.specs.declared.Standing.TheVariants.{Broken, Waiting, Kept}
use Rattle.constraints.specs.Constraints.{standing}
use Rattle.walk.specs.declared.Look.{Look}
use Rattle.walk.specs.declared.Look.TheVariants.{Nothing, Found, Open}
use Rattle.walk.specs.declared.Reply.{Reply}
use Rattle.walk.specs.declared.Reply.TheVariants.{Holds, Fails, Unfinished}

-- "A question is settled when its set has one member": settled true, nothing breaks it here; settled false, a breaking request is found; or neither yet
abbrev pub look : Set truths → Look
look t = cond (t.has false) (cond (t.has true) Open Found) (cond (t.has true) Nothing Open)

-- a visit: the predicates known there, those of them that are yes, and what it sees
pub record Visit : Type 0 where
  pub known : ℕ
  pub facts : ℕ
  pub seen : Look

abbrev pub visit : (ℕ → ℕ → Look) → ℕ → ℕ → Visit
visit see known facts = record { known = known; facts = facts; seen = see known facts }

-- what is found at a visit that sees this, or else later: "the breaking request is these facts with every other predicate no"
abbrev pub found_at : Look → ℕ → Option ℕ → Option ℕ
found_at Nothing facts later = later
found_at Found facts later = some facts
found_at Open facts later = later

-- what visits found
unfoldable pub found : List Visit → Option ℕ
found [] = none
found (v ∷ vs) = found_at v.seen v.facts (found vs)

-- "and if that found nothing": the second visits behind the first
abbrev pub if_none : Option ℕ → List Visit → List Visit
if_none none second = second
if_none (some request) second = []

abbrev pub or_else : List Visit → List Visit → List Visit
or_else first second = first ++ if_none (found first) second

-- "Settled true: nothing breaks it here. Settled false: … the walk ends. Unsettled: …": what is visited below a visit, by what it sees
abbrev pub below : Look → List Visit → List Visit
below Nothing visits = []
below Found visits = []
below Open visits = visits

-- "A visit looks at the question with predicates 0 to k-1 known. … Unsettled: visit with predicate k no, and if that found nothing, with predicate k yes."
-- Where no predicate is left to be tried, nothing is below.
unfoldable pub visits_from : (ℕ → ℕ → Look) → List ℕ → ℕ → ℕ → List Visit
visits_from see [] known facts = visit see known facts ∷ []
visits_from see (p ∷ left) known facts =
    let here = visit see known facts in
    let no = visits_from see left (known + 2 ^ p) facts in
    let yes = visits_from see left (known + 2 ^ p) (facts + 2 ^ p) in
    here ∷ below here.seen (or_else no yes)

-- so many predicates, from k on
unfoldable pub predicates_from : ℕ → ℕ → List ℕ
predicates_from k zero = []
predicates_from k (suc left) = k ∷ predicates_from (k + 1) left

-- "Start with no fact known": the walk over n predicates
abbrev pub walk_by : (ℕ → ℕ → Look) → ℕ → List Visit
walk_by see n = visits_from see (predicates_from 0 n) 0 0

-- "a visit whose known facts break one counts and finds nothing. A settled-false visit still goes on if some 51 has its first known yes and its second
-- unknown" (02, L5): what a visit sees, by how its facts stand to the constraints
abbrev pub heeding : Standing → Look → Look
heeding Broken seen = Nothing
heeding Waiting Nothing = Nothing
heeding Waiting Found = Open
heeding Waiting Open = Open
heeding Kept seen = seen

-- what a visit sees of question j, and the walk that answers it
abbrev pub sees : List Entry → List Entry → List Entry → ℕ → ℕ → ℕ → Look
sees constraints rows questions j known facts = heeding (standing constraints known facts) (look (truth_set rows questions known facts j))

abbrev pub walk : List Entry → List Entry → List Entry → ℕ → ℕ → List Visit
walk constraints rows questions n j = walk_by (sees constraints rows questions j) n

-- "holds, with the count; fails, with the breaking request as a yes mask and the count; unfinished, with the budget as the count."
-- "Each visit counts one." "Unfinished is given exactly if the whole walk makes more visits than the budget."
abbrev pub ended : Option ℕ → ℕ → Reply
ended none count = Holds count
ended (some request) count = Fails request count

unfoldable pub reply_of : ℕ → List Visit → Reply
reply_of budget visits = cond (leb (length visits) budget) (ended (found visits) (length visits)) (Unfinished budget)

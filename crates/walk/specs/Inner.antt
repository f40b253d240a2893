-- What the promises of this crate's inner functions speak of; no service's promise does.
use Rattle.std.specs.Prelude.{ℕ, ◌+◌, ◌-◌, ◌^◌, ◌≤◌, ◌<◌, min, Bool, true, false, cond, ◌||◌, List, leb, ltb, length}
use Rattle.entries.specs.declared.Entry.{Entry}
use Rattle.table.specs.declared.Table.{Table}
use Rattle.table.specs.Steps.{predicate_limit, row_limit, question_limit, constraint_limit}
use Rattle.table.specs.Reading.{up_to}
use Rattle.questions.specs.Inner.{top}
use Rattle.walk.specs.declared.Look.{Look}
use Rattle.walk.specs.declared.Look.TheVariants.{Nothing, Found, Open}
use Rattle.walk.specs.declared.Reply.{Reply}
use Rattle.walk.specs.declared.Reply.TheVariants.{Holds, Fails, Unfinished}
use Rattle.walk.specs.Walk.{Visit, visits_from, predicates_from, sees, walk, reply_of}

-- the reply to a question of any number, over any number of predicates: no more are tried than a table has, and a question that no table has room for stays
-- unfinished
abbrev pub reply_in : ℕ → List Entry → List Entry → List Entry → ℕ → ℕ → Reply
reply_in budget constraints rows questions n j =
    cond (ltb j question_limit) (reply_of budget (walk constraints rows questions (min n predicate_limit) j)) (Unfinished budget)

-- whether a visit finds a breaking request, and whether the one that knows every predicate does: of a question that a table has room for, and of facts on no
-- other predicate
abbrev pub finds : Look → Bool
finds Nothing = false
finds Found = true
finds Open = false

abbrev pub breaks_in : List Entry → List Entry → List Entry → ℕ → ℕ → Bool
breaks_in constraints rows questions j request =
    cond (leb question_limit j || leb (2 ^ predicate_limit) request) false (finds (sees constraints rows questions j (2 ^ predicate_limit - 1) request))

-- the constraints that a struct holds: no more than a table has room for
abbrev pub bounds_in : Table → List Entry
bounds_in t = up_to t.constraints (min t.tally.constraints constraint_limit)

-- the count that a reply gives, and the reply with so many visits made before, out of a budget that had them
abbrev pub count_of : Reply → ℕ
count_of (Holds n) = n
count_of (Fails m n) = n
count_of (Unfinished n) = n

abbrev pub plus_of : Reply → ℕ → ℕ → Reply
plus_of (Holds n) made budget = Holds (made + n)
plus_of (Fails m n) made budget = Fails m (made + n)
plus_of (Unfinished n) made budget = Unfinished budget

-- the walk from the visit on that knows predicates 0 to k-1, of n
abbrev pub walk_from : (ℕ → ℕ → Look) → ℕ → ℕ → ℕ → List Visit
walk_from see n k facts = visits_from see (predicates_from k (n - k)) (2 ^ k - 1) facts

-- whether visits are made below one that knows predicates 0 to k-1, of n
abbrev pub goes_on : Look → ℕ → ℕ → Bool
goes_on Nothing k n = false
goes_on Found k n = false
goes_on Open k n = ltb k n

-- what a visit is lent: no more rows and questions than there are places for their sets, question j and all rows that it looks at among them
abbrev pub Lent : List Entry → List Entry → ℕ → Type 0
Lent rows questions j = (length rows ≤ row_limit) × (length questions ≤ question_limit) × (j < length questions) × (top questions j ≤ length rows)

-- That `walk_at` (src/lib.rt) keeps its promise.
use Rattle.std.proofs.Common.{◌≡◌, ◌≤◌, ◌<◌, ◌+◌, ◌∙◌, ℕ, List, ap, length, take, arith}
use Rattle.std.proofs.lemmas.List.{length-take}
use Rattle.entries.specs.declared.Entry.{Entry}
use Rattle.entries.specs.Entries.{number_limit}
use Rattle.table.specs.Steps.{row_limit, question_limit}
use Rattle.table.specs.Reading.{up_to}
use Rattle.questions.specs.Inner.{top, top_in}
use Rattle.questions.proofs.Tops.{top_in_lem}
use Rattle.walk.specs.declared.Look.{Look}
use Rattle.walk.specs.declared.Reply.{Reply}
use Rattle.walk.specs.Walk.{sees, reply_of}
use Rattle.walk.specs.Inner.{bounds_in, walk_from, Lent}
use Rattle.walk.proofs.Sights.{taken, part_same}
use Rattle.walk.proofs.walk_at.Goals as goal

-- the rows that a question looks at, where the questions up to it are lent
top_is : (questions : List Entry) (j seen : ℕ) → j < length questions → j < question_limit → seen ≡ top_in (take (j + 1) questions) j →
    seen ≡ top (take (j + 1) questions) j
top_is questions j seen there l e = e ∙ top_in_lem (take (j + 1) questions) j (omega (arith, length-take (j + 1) questions))

-- what a table's struct lends is enough for a visit
lent : (rows questions : List Entry) (j seen : ℕ) → length rows ≡ row_limit → j < length questions → j < question_limit →
    seen ≡ top_in (take (j + 1) questions) j → seen ≤ number_limit → Lent (take seen rows) (take (j + 1) questions) j
lent rows questions j seen long there l e m =
    let all = top_is questions j seen there l e in
    let p = length-take seen rows in
    let q = length-take (j + 1) questions in
    (omega arith, omega arith, omega arith, omega arith)

pub invariant_of-walk : goal.invariant_of-walk
invariant_of-walk c = record { lent = lent _ _ _ _ (omega arith) (omega arith) c.requires.0 c.top_of-top.ensures.0 c.top_of-top.ensures.1 }

pub returns : goal.returns
returns c =
    let a = c.args in
    let t = a.t in
    let reply : (ℕ → ℕ → Look) → Reply = λ see. reply_of a.budget (walk_from see a.n a.k a.facts) in
    let all = top_is t.questions a.question c.top_of-top.result (omega arith) c.requires.0 c.top_of-top.ensures.0 in
    c.from.ensures.reply
    ∙ ap (λ (constraints : List Entry). reply (sees constraints (take c.top_of-top.result t.rows) (take (a.question + 1) t.questions) a.question))
    (taken t.constraints c.min-bound.result (omega (arith, c.min-bound.ensures)) ∙ ap (up_to t.constraints) c.min-bound.ensures)
    ∙ ap reply (part_same (bounds_in t) t.rows t.questions c.top_of-top.result a.question (omega arith))

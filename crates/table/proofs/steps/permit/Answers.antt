-- That `steps::permit` (src/steps.rt) keeps its promise.
use Rattle.std.proofs.Common.{◌≡◌, ◌∙◌, Bool, ℕ, sym, ap}
use Rattle.kinds.specs.declared.Form.{Form}
use Rattle.entries.specs.declared.Entry.{Entry}
use Rattle.table.specs.declared.steps.Tally.{Tally}
use Rattle.entries.specs.Refusals.{number_of}
use Rattle.entries.specs.Said.{Said, refusing, refusal, unless, or_else}
use Rattle.table.specs.Steps.{no_room, unless_placed, misnaming, offending, permitted, misnamed}
use Rattle.entries.proofs.Saying.{some_number, unless_none, unless_some, unless_twice}
use Rattle.table.proofs.Permission.{misnaming_none, misnaming_place}
use Rattle.table.proofs.steps.permit.Goals as goal

-- what is said of an entry by its room and place, and what by its numbers
abbrev by_place : Entry → Bool → Tally → ℕ
by_place e well before = or_else (no_room e.kind before) (unless_placed well)

abbrev by_numbers : Entry → Tally → Said Entry
by_numbers e before = misnaming e (offending e before)

both_said : (e : Entry) (well : Bool) (before : Tally) → permitted e well before ≡ unless (by_place e well before) (by_numbers e before)
unfolding permitted
both_said e well before = unless_twice (no_room e.kind before) (unless_placed well) (by_numbers e before)

pub returns-in-Some : goal.returns-in-Some
returns-in-Some c =
    let a = c.args in
    let why : number_of c.in-Some.reason ≡ by_place a.e a.well a.before = c.in-Some.ensures in
    ap refusing (c.of.ensures ∙ ap (λ (n : ℕ). refusal n 0) why)
    ∙ sym (both_said a.e a.well a.before ∙ unless_some _ (by_numbers a.e a.before) (λ z. some_number c.in-Some.reason (why ∙ z)))

-- an entry that is in place
in_place : (e : Entry) (well : Bool) (before : Tally) → 0 ≡ by_place e well before → permitted e well before ≡ by_numbers e before
in_place e well before none = both_said e well before ∙ unless_none _ (by_numbers e before) (sym none)

pub returns-in-None : goal.returns-in-None
returns-in-None c = let a = c.args in sym (in_place a.e a.well a.before c.in_default.ensures ∙ misnaming_none a.e (offending a.e a.before) c.in-None.ensures)

pub returns-in-Some-offending_in : goal.returns-in-Some-offending_in
returns-in-Some-offending_in c =
    let a = c.args in
    let number = c.misnamed_of.ensures ∙ ap (λ (f : Form). misnamed f.names) c.form_of-form.ensures in
    ap (λ (n : ℕ). refusing (refusal n c.in-Some-offending_in.place)) number
    ∙ sym (in_place a.e a.well a.before c.in_default.ensures
    ∙ misnaming_place a.e (offending a.e a.before) c.in-Some-offending_in.place c.in-Some-offending_in.ensures)

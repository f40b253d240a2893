-- How a service answers: from a reading that was refused, and from one that was opened, by what was asked.
-- Assumes nothing.
use mathlib.Core.Path.{◌≡◌, refl, sym, ap, ◌∙◌}
use mathlib.Core.Bool.{Bool, true, false}
use mathlib.Core.List.{List}
use Prim.Native.Nat.{ℕ, ◌-◌, ◌^◌, min, ◌≤◌, ◌<◌}
use native.Mathlib.Omega.{arith}
use lib.ListN.{length, get_or}
use lib.Dec.{leb}
use borrow.Author.Tests.{lt-ltb, le-leb, lt-leb, leb-false}
use Rattle.belnap.specs.declared.Decision.{Decision}
use Rattle.belnap.specs.declared.Decision.TheVariants.{U}
use Rattle.entries.specs.Said.{Refusal}
use Rattle.table.specs.declared.Table.{Table}
use Rattle.entries.specs.Refusals.{not_there}
use Rattle.entries.specs.Said.{Said, answered, refusing, and_then, unless}
use Rattle.entries.specs.Entries.{blank}
use Rattle.table.specs.Steps.{predicate_limit, row_limit, question_limit, constraint_limit}
use Rattle.table.specs.Contents.{Contents, predicates}
use Rattle.table.specs.Reading.{padded, reading, table_of, up_to}
use Rattle.entries.proofs.Numbers.{by_order}
use Rattle.entries.proofs.Saying.{unless_none}
use Rattle.table.proofs.Laws.{limits}
use Rattle.table.proofs.Opening.{Opened}
use Rattle.table.proofs.Padding.{padded_at}
use Rattle.table.proofs.Held.{first_padded}
use Rattle.decide.specs.Meaning.{decides, decision, decision_in}
use Rattle.decide.proofs.RowByRow.{same_value}
use Rattle.possible.specs.Sets.{decisions, single, mask}
use Rattle.possible.specs.Possible.{set_of, possible, possible_in}
use Rattle.walk.specs.declared.Reply.{Reply}
use Rattle.walk.specs.Walk.{reply_of}
use Rattle.walk.specs.declared.Look.{Look}
use Rattle.walk.specs.Inner.{reply_in, breaks_in, finds, bounds_in}
use Rattle.walk.proofs.Powers.{power_small}
use Rattle.walk.proofs.Sights.{same_sees, same_walk}
use Rattle.walk.proofs.Answers.{Bounded, bounded, breaks_seen}
use Rattle.table.proofs.Writing.{of_accepted}
use Rattle.pierstride.specs.declared.Counts.{Counts}
use Rattle.pierstride.specs.Masks.{beyond, bad_masks}
use Rattle.pierstride.specs.Services.{asked_wrongly, walk_of, masked}
use Rattle.pierstride.specs.Services.{read_answer, says_decide, says_possible, says_verdict}
use Rattle.pierstride.specs.Services.{breaking, says_breaks}

-- a refusal of reading's is passed on unchanged, by every service
pub passed : {A : Type 0} (f : Contents → Said A) (s : List ℕ) (why : Refusal) → reading s ≡ refusing why → refusing why ≡ and_then (reading s) f
passed f s why is = sym (ap (λ (x : Said Contents). and_then x f) is)

pub asked_there : (count at : ℕ) (bad : Bool) → asked_wrongly (leb count at) bad ≡ 0 → at < count
asked_there count at bad e = by_order at count (λ h. h) (λ h. absurd (let z : ◌≡◌ {A = ℕ} not_there 0 = rw (le-leb count at h) at e in omega arith))

asked_good : (missing bad : Bool) → asked_wrongly missing bad ≡ 0 → bad ≡ false
asked_good true bad e = absurd (omega arith)
asked_good false true e = absurd (omega arith)
asked_good false false e = refl

-- 24 predicates cover those of an accepted table
widened : (s : List ℕ) (c : Contents) → reading s ≡ answered c → Bounded c.constraints c.rows predicate_limit
widened s c is =
    let few = bounded c (of_accepted s c is).0.constraints_sound in
    let most = (limits s c is).4 in
    record { sound = few.sound; few = omega (arith, few.few, most); covers = λ i. omega (arith, few.covers i, most) }

-- the struct of an opened reading shows the table's contents
module _ {s : List ℕ} {t : Table} (o : Opened s t) where
  pub used_is : t.tally.rows ≡ length o.contents.rows
  unfolding table_of
  used_is = ap (λ (t : Table). t.tally.rows) o.table

  pub asked_is : t.tally.questions ≡ length o.contents.questions
  unfolding table_of
  asked_is = ap (λ (t : Table). t.tally.questions) o.table

  pub predicates_is : t.predicates ≡ predicates o.contents
  unfolding table_of
  predicates_is = ap (λ (t : Table). t.predicates) o.table

  pub few : t.predicates ≤ predicate_limit
  few = rw predicates_is (limits s o.contents o.is).4

  rows_at : (i : ℕ) → get_or t.rows i blank ≡ get_or o.contents.rows i blank
  unfolding table_of
  rows_at i = ap (λ (t : Table). get_or t.rows i blank) o.table ∙ padded_at blank row_limit o.contents.rows i

  questions_at : (i : ℕ) → get_or t.questions i blank ≡ get_or o.contents.questions i blank
  unfolding table_of
  questions_at i = ap (λ (t : Table). get_or t.questions i blank) o.table ∙ padded_at blank question_limit o.contents.questions i

  bounds_are : bounds_in t ≡ o.contents.constraints
  unfolding table_of
  bounds_are =
      let constraints = o.contents.constraints in
      let all : min (length constraints) constraint_limit ≡ length constraints = omega (arith, o.whole.constraints_fit) in
      ap bounds_in o.table ∙ ap (up_to (padded blank constraint_limit constraints)) all ∙ first_padded blank constraint_limit constraints

  -- what each service answers of it
  pub counts_answer :
      ◌≡◌ {A = Counts} (record {
        refusal = 0;
        place = 0;
        rows = t.tally.rows;
        questions = t.tally.questions;
        predicates = t.predicates;
      })
      (read_answer s)
  counts_answer = rw (o.is, used_is, asked_is, predicates_is)

  -- a number that no table has room for is not among the rows
  row_there : (at : ℕ) (bad : Bool) → asked_wrongly (leb t.tally.rows at) bad ≡ 0 → at < row_limit
  row_there at bad e = omega (arith, asked_there t.tally.rows at bad e, used_is, o.whole.rows_fit)

  -- what each says of what was asked, from whether its masks were found bad; and what it says where nothing is wrong with it
  module _ (at request : ℕ) (bad : Bool) (b : bad ≡ beyond request) where
    pub decide_said : says_decide s at request ≡ unless (asked_wrongly (leb t.tally.rows at) bad) (answered (decision o.contents.rows request at))
    unfolding says_decide
    decide_said = rw (o.is, b, used_is)

    pub decide_answers : asked_wrongly (leb t.tally.rows at) bad ≡ 0 → (v : Decision) → v ≡ decision_in t.rows request at →
        answered v ≡ says_decide s at request
    decide_answers e v q =
        let same = same_value (decides request) U t.rows o.contents.rows at (λ i k. rows_at i) in
        let d : v ≡ decision o.contents.rows request at = q ∙ rw (lt-ltb at row_limit (row_there at bad e)) same in
        sym (decide_said ∙ unless_none _ _ e ∙ ap answered (sym d))

  module _ (at known request : ℕ) (bad : Bool) (b : bad ≡ bad_masks known request) where
    pub possible_said : says_possible s at known request
        ≡ unless (asked_wrongly (leb t.tally.rows at) bad) (answered (possible o.contents.rows known request at))
    unfolding says_possible
    possible_said = rw (o.is, b, used_is)

    pub possible_answers : asked_wrongly (leb t.tally.rows at) bad ≡ 0 → (n : ℕ) → n ≡ mask decisions (possible_in t.rows known request at) →
        answered n ≡ masked (says_possible s at known request)
    possible_answers e n q =
        let same = same_value (set_of known request) (single U) t.rows o.contents.rows at (λ i k. rows_at i) in
        let d : n ≡ mask decisions (possible o.contents.rows known request at) =
        q ∙ rw (lt-ltb at row_limit (row_there at bad e)) (ap (mask decisions) same) in
        rw d (sym (ap masked (possible_said ∙ unless_none _ _ e)))

  module _ (at budget : ℕ) where
    abbrev walked : Reply
    walked = reply_of budget (walk_of o.contents at)

    pub verdict_said : says_verdict s at budget ≡ unless (asked_wrongly (leb t.tally.questions at) false) (answered walked)
    unfolding says_verdict
    verdict_said = rw (o.is, asked_is)

    -- the question has room in a table, and n predicates have
    verdict_fits : asked_wrongly (leb t.tally.questions at) false ≡ 0 → (at < question_limit) × (t.predicates ≤ predicate_limit)
    verdict_fits e =
        let l = asked_there t.tally.questions at false e in
        (omega (arith, l, asked_is, o.whole.questions_fit), rw predicates_is (limits s o.contents o.is).4)

    pub verdict_answers : asked_wrongly (leb t.tally.questions at) false ≡ 0 → (p : Reply) →
        p ≡ reply_in budget (bounds_in t) t.rows t.questions t.predicates at → answered p ≡ says_verdict s at budget
    verdict_answers e p q =
        let c = o.contents in
        let same = same_walk c.constraints t.rows c.rows t.questions c.questions rows_at questions_at (predicates c) at in
        let fits = verdict_fits e in
        let n : min t.predicates predicate_limit ≡ predicates c = omega (arith, predicates_is, fits.1) in
        let d : p ≡ walked = q ∙ rw (lt-ltb at question_limit fits.0, n, bounds_are) (ap (reply_of budget) same) in
        rw d (sym (verdict_said ∙ unless_none _ _ e))

  -- whether a request breaks a question
  module _ (at request : ℕ) (bad : Bool) (b : bad ≡ leb (2 ^ t.predicates) request) where
    pub breaks_said : says_breaks s at request ≡ unless (asked_wrongly (leb t.tally.questions at) bad) (answered (breaking o.contents at request))
    unfolding says_breaks
    breaks_said = rw (o.is, b, asked_is, predicates_is)

    -- the question is there, and the request is below 2^n, so below 2^24
    breaks_fits : asked_wrongly (leb t.tally.questions at) bad ≡ 0 → (at < question_limit) × (request < 2 ^ predicate_limit)
    breaks_fits e =
        let c = o.contents in
        let l = asked_there t.tally.questions at bad e in
        let low = leb-false (2 ^ t.predicates) request (sym b ∙ asked_good (leb t.tally.questions at) bad e) in
        let most = power_small (predicates c) (limits s c o.is).4 in
        (omega (arith, l, asked_is, o.whole.questions_fit), omega (arith, rw predicates_is at low, most))

    pub breaks_answers : asked_wrongly (leb t.tally.questions at) bad ≡ 0 → (broken : Bool) →
        broken ≡ breaks_in (bounds_in t) t.rows t.questions at request → answered broken ≡ says_breaks s at request
    breaks_answers e broken q =
        let c = o.contents in
        let fits = breaks_fits e in
        let same = same_sees c.constraints t.rows c.rows t.questions c.questions rows_at questions_at at in
        let seen = breaks_seen c.constraints c.rows c.questions predicate_limit (widened s c o.is) at request fits.1 in
        let d : broken ≡ breaking c at request =
        q ∙ rw (lt-leb question_limit at fits.0, lt-leb (2 ^ predicate_limit) request fits.1, bounds_are)
        (ap (λ (see : ℕ → ℕ → Look). finds (see (2 ^ predicate_limit - 1) request)) same ∙ seen) in
        rw d (sym (breaks_said ∙ unless_none _ _ e))

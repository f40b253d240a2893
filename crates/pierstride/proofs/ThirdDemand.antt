-- The letter's third demand, of the services' answers: a larger budget brings the same verdict, request and count; a budget is too small exactly if the walk
-- needs more visits, and 2^(n+1) - 1 are always enough; the set of a row has the decision under every filling, gains none by learning, and with nothing unknown
-- is the true decision alone.
-- Assumes nothing.
use mathlib.Core.Path.{◌≡◌, refl, sym, ap, ◌∙◌}
use mathlib.Core.Bool.{Bool, true, false, not, ◌||◌}
use mathlib.Core.List.{List}
use Prim.Native.Nat.{ℕ, zero, suc, ◌+◌, ◌-◌, ◌^◌, ◌≤◌, ◌<◌}
use native.Mathlib.Omega.{arith}
use native.Mathlib.Numerals.{add-one}
use lib.ListN.{length, get_or}
use lib.Dec.{leb}
use Rattle.belnap.specs.declared.Decision.{Decision}
use Rattle.belnap.specs.declared.Decision.TheVariants.{U}
use Rattle.belnap.specs.Decisions.{code, coded}
use Rattle.belnap.proofs.Codes.{code_coded}
use Rattle.belnap.proofs.Finite.{never}
use Rattle.kinds.specs.Kinds.{as_row}
use Rattle.entries.specs.Entries.{blank, equal_numbers}
use Rattle.entries.specs.Said.{Said, answered, refusing, and_then, unless}
use Rattle.table.specs.Steps.{predicate_limit}
use Rattle.table.specs.Contents.{Contents, predicates}
use Rattle.table.specs.Reading.{reading}
use Rattle.table.proofs.Laws.{covered}
use Rattle.entries.proofs.Numbers.{by_order}
use Rattle.decide.specs.Meaning.{bit, decision}
use Rattle.decide.specs.Requests.{Fills, Learns, AllKnown}
use Rattle.decide.proofs.Rules.{by_answers}
use Rattle.possible.specs.Sets.{decisions, single, mask, of_mask}
use Rattle.possible.specs.Possible.{set_by, set_of, possible}
use Rattle.possible.proofs.Masks.{of_mask_lem, mask_below, member_bit, single_mask}
use Rattle.possible.proofs.Renaming.{sets_come}
use Rattle.possible.proofs.Filling.{filling_member, learning_adds_none, known_exact}
use Rattle.walk.specs.declared.Reply.{Reply}
use Rattle.walk.specs.Walk.{Visit, sees, reply_of}
use Rattle.possible.proofs.Bits.{bit_above}
use Rattle.walk.proofs.Budgets.{more_never_unsays, walk_bound}
use Rattle.pierstride.specs.declared.Decided.{Decided}
use Rattle.pierstride.specs.declared.Remaining.{Remaining}
use Rattle.pierstride.specs.declared.Verdict.{Verdict}
use Rattle.pierstride.specs.Masks.{beyond, known_below}
use Rattle.pierstride.specs.Services.{asked_wrongly, unfinished, replied_of, verdict_of, walk_of}
use Rattle.pierstride.specs.Services.{read_answer, decide_answer, says_possible, possible_answer, says_verdict, verdict_answer}
use Rattle.pierstride.specs.Demands.{needed}
use Rattle.pierstride.proofs.Answered.{table_of, decided, decides, remained, remains, replies}
use Rattle.pierstride.proofs.FirstDemand.{possible_tells}
use Rattle.pierstride.proofs.SecondDemand.{by_reply, unlike}

-- the verdict from a reading on
abbrev from_reading : ℕ → ℕ → Said Contents → Verdict
from_reading q budget x =
    verdict_of (and_then x (λ c. unless (asked_wrongly (leb (length c.questions) q) false) (answered (reply_of budget (walk_of c q)))))

-- "if some budget brings a verdict, every larger budget brings the same verdict, the same first request and the same count of visits"
pub verdict_never_unsaid : (s : List ℕ) (q b more : ℕ) → b ≤ more → ((verdict_answer s q b).reply ≡ unfinished → ⊥) →
    verdict_answer s q more ≡ verdict_answer s q b
unfolding says_verdict
verdict_never_unsaid s q b more l h = on (reading s) h
  where
    asked : (n : ℕ) (w : List Visit) → ((verdict_of (unless n (answered (reply_of b w)))).reply ≡ unfinished → ⊥) →
        verdict_of (unless n (answered (reply_of more w))) ≡ verdict_of (unless n (answered (reply_of b w)))
    asked zero w h = ap replied_of (more_never_unsays b more w l (λ e. h (ap (λ (v : Reply). (replied_of v).reply) e)))
    asked (suc n) w h = refl

    on : (x : Said Contents) → ((from_reading q b x).reply ≡ unfinished → ⊥) → from_reading q more x ≡ from_reading q b x
    on (answered c) h = asked (asked_wrongly (leb (length c.questions) q) false) (walk_of c q) h
    on (refusing why) h = refl

-- "A budget is too small exactly if 01's walk needs more visits, and 2^(n+1) - 1 visits are always enough for n predicates."
module _ (s : List ℕ) (c : Contents) (is : reading s ≡ answered c) (q b : ℕ) (there : q < length c.questions) where
  abbrev answer : Verdict
  answer = verdict_answer s q b

  -- "unfinished, with the budget as the count"
  pub unfinished_means : answer.reply ≡ unfinished → (b < needed c q) × (answer.visits ≡ b)
  unfinished_means e =
      by_reply b (walk_of c q) answer (replies s c is q b there)
      (λ w l v. unlike answer _ unfinished v e (λ z. omega arith))
      (λ m w l v. unlike answer _ unfinished v e (λ z. omega arith))
      (λ l v. (l, ap (λ (v : Verdict). v.visits) v))

  pub unfinished_if : b < needed c q → answer.reply ≡ unfinished
  unfinished_if l =
      by_reply b (walk_of c q) answer (replies s c is q b there)
      (λ w g v. absurd (omega arith))
      (λ m w g v. absurd (omega arith))
      (λ g v. ap (λ (v : Verdict). v.reply) v)

  -- a verdict gives the walk's own count
  pub verdict_counts : (answer.reply ≡ unfinished → ⊥) → answer.visits ≡ needed c q
  verdict_counts enough =
      by_reply b (walk_of c q) answer (replies s c is q b there)
      (λ w l v. ap (λ (v : Verdict). v.visits) v)
      (λ m w l v. ap (λ (v : Verdict). v.visits) v)
      (λ l v. absurd (enough (ap (λ (v : Verdict). v.reply) v)))

  pub always_enough : 2 ^ ((read_answer s).predicates + 1) - 1 ≤ b → answer.reply ≡ unfinished → ⊥
  always_enough l e =
      let n = predicates c in
      let m : (read_answer s).predicates ≡ n = rw is in
      let few : 2 ^ suc n - 1 ≤ b = rw (m, add-one n) at l in
      omega (arith, walk_bound (sees c.constraints c.rows c.questions q) n, (unfinished_means e).0, few)

-- a row's set is that of its kind's rule, over the sets that the same call answers for the rows that it names
pub possible_by_rule : (s : List ℕ) (c : Contents) → reading s ≡ answered c → (r known request : ℕ) →
    (possible_answer s r known request).refusal ≡ 0 →
    let e = get_or c.rows r blank in
    (possible_answer s r known request).set ≡ mask decisions (set_by (as_row e.kind) e.a (equal_numbers e) known request
    (of_mask decisions (possible_answer s e.a known request).set) (of_mask decisions (possible_answer s e.b known request).set))
possible_by_rule s c is r known request told =
    let d = remained s c is r known request told in
    by_answers s c is r d.0.there (set_of known request) (sets_come known request) (single U) (mask decisions) (of_mask decisions) (of_mask_lem decisions)
    (λ x. (possible_answer s x known request).set) (λ x h. ap (λ (a : Remaining). a.set) (remains s c is x known request h d.0.good))

-- the set of a row, and its members: a decision counts two to the power of its code
module _ (s : List ℕ) (r known request : ℕ) (left : (possible_answer s r known request).refusal ≡ 0) where
  of_table : (c : Contents) × (reading s ≡ answered c)
  unfolding says_possible
  of_table = let a = (possible_tells s r known request).answers left in table_of s _ a.0 a.1

  abbrev pub set : ℕ
  set = (possible_answer s r known request).set

  module _ (c : Contents) (is : reading s ≡ answered c) where
    set_is : set ≡ mask decisions (possible c.rows known request r)
    set_is = ap (λ (a : Remaining). a.set) (remained s c is r known request left).1

    pub set_has : (v : Decision) → bit set (code v) ≡ (possible c.rows known request r).has v
    set_has v = ap (λ (n : ℕ). bit n (code v)) set_is ∙ member_bit decisions (possible c.rows known request r) v

  -- "the decision under every way of filling them in is among those shown"
  pub possible_contains : (o : ℕ) → Fills known request o → (decide_answer s r o).refusal ≡ 0 → bit set (decide_answer s r o).code ≡ true
  possible_contains o fills e =
      let c = of_table.0 in
      let d : (decide_answer s r o).code ≡ code (decision c.rows o r) = ap (λ (a : Decided). a.code) (decided s c of_table.1 r o e).1 in
      rw d (set_has c of_table.1 (decision c.rows o r) ∙ filling_member c.rows known request o r fills)

  -- "with nothing unknown only the true decision is left"
  pub possible_exact : AllKnown (read_answer s).predicates known → ((decide_answer s r request).refusal ≡ 0) × (set ≡ 2 ^ (decide_answer s r request).code)
  possible_exact all =
      let c = of_table.0 in
      let is = of_table.1 in
      let w = (remained s c is r known request left).0 in
      let v = decision c.rows request r in
      let d = decides s c is r request w.there (request_good (beyond known) (beyond request) (known_below predicate_limit known request) w.good) in
      let n : (read_answer s).predicates ≡ predicates c = rw is in
      rw d (refl, set_is c is ∙ ap (mask decisions) (known_exact c.rows (predicates c) (covered c) known request r (rw n at all)) ∙ single_mask v)
    where
      request_good : (a b d : Bool) → ((a || b) || not d) ≡ false → b ≡ false
      request_good true b d e = never cc
      request_good false true d e = e
      request_good false false d e = refl

-- "Learning a fact, while the known ones stand, adds none to them": a member of the later set, by its bit, was one of the earlier
pub possible_learns : (s : List ℕ) (r known request more then : ℕ) → Learns known request more then →
    (now : (possible_answer s r known request).refusal ≡ 0) (later : (possible_answer s r more then).refusal ≡ 0) →
    (i : ℕ) → bit (possible_answer s r more then).set i ≡ true → bit (possible_answer s r known request).set i ≡ true
possible_learns s r known request more then learns now later i e = go (of_table s r known request now).0 (of_table s r known request now).1
  where
    decision_kept : (c : Contents) → reading s ≡ answered c → i < 4 → bit (possible_answer s r known request).set i ≡ true
    decision_kept c is h =
        let v = coded i in
        let q : code v ≡ i = code_coded i h in
        let m = learning_adds_none c.rows known request more then r learns v (sym (set_has s r more then later c is v) ∙ rw q e) in
        rw q at (set_has s r known request now c is v ∙ m)

    -- a set's mask has no bit from 4 up
    none_above : (c : Contents) → reading s ≡ answered c → 4 ≤ i → ⊥
    none_above c is h =
        let small : (possible_answer s r more then).set < 2 ^ 4 = rw (set_is s r more then later c is) (mask_below decisions (possible c.rows more then r)) in
        never (sym e ∙ bit_above (possible_answer s r more then).set 4 i small h)

    go : (c : Contents) → reading s ≡ answered c → bit (possible_answer s r known request).set i ≡ true
    go c is = by_order i 4 (decision_kept c is) (λ h. absurd (none_above c is h))

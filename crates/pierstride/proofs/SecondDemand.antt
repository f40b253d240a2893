-- The letter's second demand, of the services' answers: a row decides by its kind's rule, and by the predicates that it reaches alone; a question holds
-- exactly if no request within the constraints breaks it, and else the first of them that does is shown; what striking wrote, given to the services again,
-- brings the old answers under the new numbers.
-- Assumes nothing.
use mathlib.Core.Path.{◌≡◌, refl, sym, ap, ◌∙◌}
use mathlib.Core.Bool.{true}
use mathlib.Core.List.{List, [], ◌++◌}
use mathlib.Core.Option.{Option, none, some}
use Prim.Native.Nat.{ℕ, suc, ◌+◌, ◌-◌, ◌^◌, ◌≤◌, ◌<◌, max}
use native.Mathlib.Omega.{arith}
use native.Mathlib.Nat.{zero-max}
use lib.ListN.{length, get_or, take, drop}
use lib.Seq.{take-append_seam}
use lib.Dec.{leb}
use borrow.Author.Tests.{lt-leb, le-leb}
use Rattle.belnap.specs.declared.Decision.{Decision}
use Rattle.belnap.specs.declared.Decision.TheVariants.{U}
use Rattle.belnap.specs.Decisions.{code, coded}
use Rattle.belnap.proofs.Codes.{coded_code}
use Rattle.belnap.proofs.Finite.{never}
use Rattle.entries.specs.declared.Entry.{Entry}
use Rattle.entries.specs.Said.{Said, answered}
use Rattle.entries.specs.Output.{sent, output_of}
use Rattle.kinds.specs.Kinds.{as_row}
use Rattle.entries.specs.Entries.{blank}
use Rattle.table.specs.Contents.{Contents, highest, predicates, ruled, written}
use Rattle.table.specs.Reading.{reading}
use Rattle.entries.proofs.Numbers.{by_order}
use Rattle.table.specs.Whole.{Whole}
use Rattle.table.proofs.Writing.{written_append, of_accepted}
use Rattle.decide.specs.Meaning.{decide_by, decides as decides_by}
use Rattle.decide.specs.Reach.{reaches}
use Rattle.decide.specs.Requests.{Agree}
use Rattle.decide.proofs.Independence.{independent}
use Rattle.decide.proofs.Rules.{by_answers}
use Rattle.decide.proofs.Renaming.{decisions_come}
use Rattle.walk.specs.declared.Reply.TheVariants.{Holds, Fails, Unfinished}
use Rattle.walk.specs.Order.{comes_before}
use Rattle.walk.specs.Walk.{Visit, found, walk, ended, reply_of}
use Rattle.walk.specs.Plain.{walk_plainly}
use Rattle.walk.proofs.Plain.{unconstrained}
use Rattle.walk.proofs.Replies.{reply_within, reply_beyond}
use Rattle.walk.proofs.Answers.{Bounded, nothing_holds, breaking_first}
use Rattle.suppliers.specs.Suppliers.{supplier_at, list_of}
use Rattle.strike.specs.Strike.{lower, struck, struck_answer}
use Rattle.strike.proofs.Renumbering.{lower_above, lower_below}
use Rattle.strike.proofs.Laws.{struck_rows, struck_questions}
use Rattle.strike.proofs.Telling.{Done, done_of, struck_read}
use Rattle.strike.proofs.Keeping.{decides_as_before, possible_as_before, supplier_as_before, list_as_before, verdict_kept}
use Rattle.pierstride.specs.declared.Decided.{Decided}
use Rattle.pierstride.specs.declared.Verdict.{Verdict}
use Rattle.pierstride.specs.Services.{holding, failing, unfinished, decided_of, replied_of, walk_of}
use Rattle.pierstride.specs.Services.{read_answer, says_decide, decide_answer, says_possible}
use Rattle.pierstride.specs.Services.{possible_answer, says_verdict, verdict_answer, written_of, strike_answer, strike_output}
use Rattle.pierstride.specs.Services.{says_suppliers, suppliers_answer, suppliers_output}
use Rattle.pierstride.specs.Demands.{Breaks, Within}
use Rattle.pierstride.proofs.Answered.{accepted_bounded, decided, decides, replies}
use Rattle.pierstride.proofs.FirstDemand.{strike_tells}

-- "Decisions are those of PBel as 01 condenses it": a row's code is that of its kind's rule, over what the same call answers for the rows that it names
pub decide_by_rule : (s : List ℕ) (c : Contents) → reading s ≡ answered c → (r request : ℕ) → (decide_answer s r request).refusal ≡ 0 →
    let e = get_or c.rows r blank in
    (decide_answer s r request).code ≡
    code (decide_by (as_row e.kind) e.a request (coded (decide_answer s e.a request).code) (coded (decide_answer s e.b request).code))
decide_by_rule s c is r request told =
    let d = decided s c is r request told in
    by_answers s c is r d.0.there (decides_by request) (decisions_come request) U code coded coded_code (λ x. (decide_answer s x request).code)
    (λ x h. ap (λ (a : Decided). a.code) (decides s c is x request h d.0.good))

-- "Two requests that agree on every predicate that a row reaches … get the same decision from it"
pub decide_independent : (s : List ℕ) (c : Contents) → reading s ≡ answered c → (r m o : ℕ) → Agree (reaches c.rows r) m o →
    (decide_answer s r m).refusal ≡ 0 → (decide_answer s r o).refusal ≡ 0 → decide_answer s r m ≡ decide_answer s r o
decide_independent s c is r m o agree p q =
    (decided s c is r m p).1 ∙ ap (λ (v : Decision). decided_of (answered v)) (independent c.rows m o r agree) ∙ sym (decided s c is r o q).1

-- "decisions and sets are unchanged" (02, L5): they come from a table's rows alone, whatever constraints, suppliers (02, L6) and questions stand beside them
module _ (s t : List ℕ) (c d : Contents) (is : reading s ≡ answered c) (other : reading t ≡ answered d) (same : c.rows ≡ d.rows) where
  pub decide_by_rows : (r request : ℕ) → decide_answer s r request ≡ decide_answer t r request
  unfolding says_decide
  decide_by_rows r request = rw (is, other, same)

  pub possible_by_rows : (r known request : ℕ) → possible_answer s r known request ≡ possible_answer t r known request
  unfolding says_possible
  possible_by_rows r known request = rw (is, other, same)

-- so do verdicts from a table's constraints, rows and questions, whatever suppliers stand beside them (02, L6)
pub verdict_by_entries : (s t : List ℕ) (c d : Contents) → reading s ≡ answered c → reading t ≡ answered d → c.constraints ≡ d.constraints →
    c.rows ≡ d.rows → c.questions ≡ d.questions → (q budget : ℕ) → verdict_answer s q budget ≡ verdict_answer t q budget
unfolding says_verdict
verdict_by_entries s t c d is other constraints rows questions q budget = rw (is, other, constraints, rows, questions)

-- a reply, by what the walk found and whether its visits are within the budget
pub by_reply : {P : Type 0} (b : ℕ) (vs : List Visit) (v : Verdict) → v ≡ replied_of (reply_of b vs) →
    (found vs ≡ none → length vs ≤ b → v ≡ replied_of (Holds (length vs)) → P) →
    ((m : ℕ) → found vs ≡ some m → length vs ≤ b → v ≡ replied_of (Fails m (length vs)) → P) →
    (b < length vs → v ≡ replied_of (Unfinished b) → P) → P
by_reply {P} b vs v e f g h =
    by_order b (length vs) (λ l. h l (e ∙ ap replied_of (reply_beyond b vs l))) (λ l. go (found vs) refl l (e ∙ ap replied_of (reply_within b vs l)))
  where
    go : (o : Option ℕ) → found vs ≡ o → length vs ≤ b → v ≡ replied_of (ended o (length vs)) → P
    go none w l q = f w l q
    go (some m) w l q = g m w l q

-- a reply that is shown under two numbers is none
pub unlike : {P : Type 0} (v w : Verdict) (k : ℕ) → v ≡ w → v.reply ≡ k → (w.reply ≡ k → ⊥) → P
unlike v w k q e h = absurd (h (sym (ap (λ (v : Verdict). v.reply) q) ∙ e))

-- "A question holds exactly if no request breaks it; otherwise, budget permitting, you show the first request that does, in 01's order"; of the requests
-- within the constraints (02, L5).
module _ (s : List ℕ) (c : Contents) (is : reading s ≡ answered c) (q b : ℕ) (there : q < length c.questions) where
  abbrev answer : Verdict
  answer = verdict_answer s q b

  abbrev n : ℕ
  n = predicates c

  covers : Bounded c.constraints c.rows n
  covers = accepted_bounded s c is

  holds_at : found (walk_of c q) ≡ none → (o : ℕ) → Within c o → Breaks c q o → ⊥
  holds_at w o within broken = never (sym (nothing_holds c.constraints c.rows c.questions n covers q w o within) ∙ broken)

  pub holds_means : answer.reply ≡ holding → (o : ℕ) → Within c o → Breaks c q o → ⊥
  holds_means e =
      by_reply b (walk_of c q) answer (replies s c is q b there)
      (λ w l v. holds_at w)
      (λ m w l v. unlike answer _ holding v e (λ z. omega arith))
      (λ l v. unlike answer _ holding v e (λ z. omega arith))

  pub holds_if : (answer.reply ≡ unfinished → ⊥) → ((o : ℕ) → o < 2 ^ n → Within c o → Breaks c q o → ⊥) → answer.reply ≡ holding
  holds_if enough kept =
      by_reply b (walk_of c q) answer (replies s c is q b there)
      (λ w l v. ap (λ (v : Verdict). v.reply) v)
      (λ m w l v. let f = breaking_first c.constraints c.rows c.questions n covers q m w in absurd (kept m f.2 f.0 f.1))
      (λ l v. absurd (enough (ap (λ (v : Verdict). v.reply) v)))

  pub fails_means : answer.reply ≡ failing →
      Within c answer.request × Breaks c q answer.request × (answer.request < 2 ^ n)
      × ((more o : ℕ) → comes_before (n + more) o answer.request ≡ true → Within c o → Breaks c q o → ⊥)
  fails_means e =
      by_reply b (walk_of c q) answer (replies s c is q b there)
      (λ w l v. unlike answer _ failing v e (λ z. omega arith))
      (λ m w l v.
      let f = breaking_first c.constraints c.rows c.questions n covers q m w in
      rw (ap (λ (v : Verdict). v.request) v) (f.0, f.1, f.2, λ more o h within broken. never (sym (f.3 more o h within) ∙ broken)))
      (λ l v. unlike answer _ failing v e (λ z. omega arith))

  pub fails_if : (answer.reply ≡ unfinished → ⊥) → (o : ℕ) → Within c o → Breaks c q o → answer.reply ≡ failing
  fails_if enough o within broken =
      by_reply b (walk_of c q) answer (replies s c is q b there)
      (λ w l v. absurd (holds_at w o within broken))
      (λ m w l v. ap (λ (v : Verdict). v.reply) v)
      (λ l v. absurd (enough (ap (λ (v : Verdict). v.reply) v)))

  -- where a table has no constraint, the verdict is that of 01's own walk, over the predicates of the rows
  pub unconstrained_verdict : c.constraints ≡ [] →
      answer ≡ replied_of (reply_of b (walk_plainly c.rows c.questions (highest c.rows) q))
  unfolding highest
  unconstrained_verdict empty =
      let m = highest c.rows in
      replies s c is q b there
      ∙ ap (λ (es : List Entry). replied_of (reply_of b (walk es c.rows c.questions (max (highest es) m) q))) empty
      ∙ ap (λ (n : ℕ). replied_of (reply_of b (walk [] c.rows c.questions n q))) (zero-max m)
      ∙ ap (λ (vs : List Visit). replied_of (reply_of b vs)) (unconstrained c.rows c.questions m q)

-- a row other than the struck one is there under its new number exactly if it was there
module _ (c : Contents) (r : ℕ) (there : r < length c.rows) where
  still_there : (i : ℕ) → (i ≡ r → ⊥) → leb (length (struck r c).rows) (lower r i) ≡ leb (length c.rows) i
  still_there i other =
      let old = length c.rows in
      let left = length (struck r c).rows in
      let fewer = struck_rows r c there in
      let same : (x : ℕ) → (i < old → x < left) → (old ≤ i → left ≤ x) → leb left x ≡ leb old i =
      λ x f g. by_order i old (λ h. lt-leb left x (f h) ∙ sym (lt-leb old i h)) (λ h. le-leb left x (g h) ∙ sym (le-leb old i h)) in
      by_order r i
      (λ l. rw (lower_above r i l) (same (i - 1) (λ h. omega (arith, fewer)) (λ h. omega (arith, fewer))))
      (λ l. rw (lower_below r i l) (same i (λ h. omega (arith, fewer, other)) (λ h. omega (arith, fewer, other))))

-- "Once a row is struck, every remaining row decides as before under its new number": the services on the bytes that striking wrote
module _ (s out : List ℕ) (r : ℕ) (done : (strike_answer s r out).refusal ≡ 0) where
  -- the bytes that were written
  abbrev pub new : List ℕ
  new = take (strike_answer s r out).length (strike_output s r out)

  wrote : (n : ℕ) × (struck_answer (reading s) r (length out) ≡ answered n)
  wrote = (strike_tells s r out).answers done

  of : Done (reading s) r (length out) wrote.0
  of = done_of (reading s) r (length out) wrote.0 wrote.1

  whole : Whole of.contents
  whole = (of_accepted s of.contents of.is).0

  new_read : reading new ≡ answered (struck r of.contents)
  unfolding of
  new_read = rw wrote.1 (struck_read s r out wrote.0 wrote.1).0

  pub strike_keeps_decisions : (i request : ℕ) → (i ≡ r → ⊥) → decide_answer new (lower r i) request ≡ decide_answer s i request
  unfolding says_decide
  strike_keeps_decisions i request other =
      let there = still_there of.contents r of.there i other in
      rw (new_read, of.is, there, decides_as_before of.contents r whole of.unnamed request i other)

  pub strike_keeps_sets : (i known request : ℕ) → (i ≡ r → ⊥) → possible_answer new (lower r i) known request ≡ possible_answer s i known request
  unfolding says_possible
  strike_keeps_sets i known request other =
      let there = still_there of.contents r of.there i other in
      rw (new_read, of.is, there, possible_as_before of.contents r whole of.unnamed known request i other)

  -- "Striking keeps every row's supplier" (02, L6), and the list of the suppliers of the rows that it reaches
  pub strike_keeps_suppliers : (c d : Contents) → reading s ≡ answered c → reading new ≡ answered d → (i : ℕ) → (i ≡ r → ⊥) →
      supplier_at d.suppliers (lower r i) ≡ supplier_at c.suppliers i
  strike_keeps_suppliers c d p q i other =
      let was : of.contents ≡ c = cc (sym of.is ∙ p) in
      let now : struck r of.contents ≡ d = cc (sym new_read ∙ q) in
      rw (← was, ← now) (supplier_as_before of.contents r whole of.unnamed i other)

  list_kept : (i : ℕ) → (i ≡ r → ⊥) → says_suppliers new (lower r i) ≡ says_suppliers s i
  unfolding list_of
  list_kept i other =
      let there = still_there of.contents r of.there i other in
      rw (new_read, of.is, there, list_as_before of.contents r whole of.unnamed i other)

  pub strike_keeps_lists : (i : ℕ) (room : List ℕ) → (i ≡ r → ⊥) →
      (suppliers_answer new (lower r i) room ≡ suppliers_answer s i room) × (suppliers_output new (lower r i) room ≡ suppliers_output s i room)
  strike_keeps_lists i room other =
      let kept = list_kept i other in
      (ap (λ (x : Said (List ℕ)). written_of (sent x (length room))) kept, ap (λ (x : Said (List ℕ)). output_of x room) kept)

  pub strike_keeps_verdicts : (j budget : ℕ) → verdict_answer new j budget ≡ verdict_answer s j budget
  unfolding says_verdict
  strike_keeps_verdicts j budget = rw (new_read, of.is, struck_questions r of.contents, verdict_kept of.contents r whole of.unnamed j budget)

  -- the bytes are accepted, and hold the table without that row
  pub strike_accepted : (c : Contents) → reading s ≡ answered c → reading new ≡ answered (struck r c)
  strike_accepted c p = let was : of.contents ≡ c = cc (sym of.is ∙ p) in rw was at new_read

  -- "striking keeps them" (02, L5), the constraints: the new bytes begin with theirs, as the old ones do
  pub strike_keeps_constraints : (c d : Contents) → reading s ≡ answered c → reading new ≡ answered d →
      let front = length (written c.constraints) in (d.constraints ≡ c.constraints) × (take front new ≡ take front s)
  strike_keeps_constraints c d p q =
      let front = written c.constraints in
      let same : d.constraints ≡ c.constraints = cc (sym q ∙ strike_accepted c p) in
      let begins : (t : List ℕ) (e : Contents) → reading t ≡ answered e → e.constraints ≡ c.constraints → take (length front) t ≡ front =
      λ t e is same. let rest = ruled e ++ e.questions in
      ap (take (length front)) (sym (of_accepted t e is).1 ∙ written_append e.constraints rest
      ∙ ap (λ (es : List Entry). written es ++ written rest) same) ∙ take-append_seam front (written rest) in
      (same, begins new d q same ∙ sym (begins s c p refl))

  -- one row fewer, and every question
  pub strike_counts : ((read_answer s).rows ≡ suc (read_answer new).rows) × ((read_answer new).questions ≡ (read_answer s).questions)
  strike_counts = rw (new_read, of.is) (sym (struck_rows r of.contents of.there), struck_questions r of.contents)

  -- "bytes behind the last stay"
  pub strike_keeps_rest : drop (strike_answer s r out).length (strike_output s r out) ≡ drop (strike_answer s r out).length out
  strike_keeps_rest = rw wrote.1 (struck_read s r out wrote.0 wrote.1).1

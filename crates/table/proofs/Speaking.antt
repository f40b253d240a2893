-- What holds of every table that is refused (01, "When we say no"; 02, L1): its first bad entry speaks, and points to its kind byte or to a number; what
-- follows that entry does not matter but for 2, and for a 60 that is not out of order.
-- Assumes nothing.
use mathlib.Core.Path.{◌≡◌, refl, sym, ap, ap₂, ◌∙◌}
use mathlib.Core.Bool.{Bool, true, false, cond}
use mathlib.Core.List.{List, ◌∷◌, ◌++◌, append_assoc}
use mathlib.Core.Logic.{⊎_elim}
use Prim.Native.Nat.{ℕ, suc, ◌+◌, ◌-◌, ◌≤◌, ◌<◌}
use native.Mathlib.Omega.{arith}
use lib.ListN.{length, get_or, take, drop, length-append, get_or-append}
use lib.Seq.{take-append_seam, drop_at, drop-append-add, get_or-append_seam, take-add, get_or-take, length-take-le}
use lib.Dec.{ltb}
use borrow.Author.Tests.{ltb-true}
use Rattle.belnap.proofs.Finite.{never}
use Rattle.entries.specs.Said.{Refusal}
use Rattle.kinds.specs.declared.Kind.{Kind}
use Rattle.kinds.specs.declared.Kind.TheVariants.{Supplier}
use Rattle.entries.specs.declared.Entry.{Entry}
use Rattle.std.specs.Prelude.{Option, Some, None}
use Rattle.table.specs.declared.steps.Tally.{Tally}
use Rattle.entries.specs.Refusals.{cut_short, not_to_be_named, out_of_order, at_kind_byte, at_number, is_among}
use Rattle.entries.specs.Said.{refusing, refusal, unless}
use Rattle.kinds.specs.Kinds.{kind_of, form_of}
use Rattle.entries.specs.Entries.{names_of, body_size}
use Rattle.table.specs.Steps.{number_at, entry_of, body_of, decoded_by, decoded, no_room, offending, misnamed, begins_row, placed, permitted, judged, step_of}
use Rattle.table.specs.Suppliers.{marked, last_of}
use Rattle.table.specs.Contents.{none, tally_of, settled, written, encoded}
use Rattle.table.specs.Reading.{after, read_on, reading}
use Rattle.table.specs.Places.{Misnames, Points, Speaks}
use Rattle.entries.proofs.Numbers.{by_order}
use Rattle.entries.proofs.Saying.{unless_none, unless_some}
use Rattle.table.proofs.Permission.{by_supplier, placed_anyway, by_refusal, misnaming_refusing, misnamed_is, numbers_apart}
use Rattle.table.proofs.Decoding.{body_cut, body_whole, step_points, points_from, points_within, points_behind}
use Rattle.table.proofs.Turns.{bytes_from}
use Rattle.table.proofs.Writing.{Open, Stopped, of_accepted, of_refused, read_open, whole_accepted}

-- how many bytes of its own a refused entry has behind its kind byte
abbrev own_bytes : Option Kind → ℕ
own_bytes None = 0
own_bytes (Some kind) = body_size kind

-- behind them, nothing matters but for 2 and at a 60
number_kept : (m i : ℕ) (rest more : List ℕ) → m ≤ length rest → number_at m i (take m rest ++ more) ≡ number_at m i rest
number_kept m i rest more w = go (ltb i m) refl
  where
    go : (t : Bool) → ltb i m ≡ t → cond t (get_or (take m rest ++ more) i 0) 0 ≡ cond t (get_or rest i 0) 0
    go true e =
        let l : i < length (take m rest) = rw (length-take-le m rest w) (ltb-true i m e) in
        get_or-append (take m rest) more 0 i l ∙ get_or-take m rest i 0 (ltb-true i m e)
    go false e = refl

body_kept : (kind : Kind) (rest more : List ℕ) → (form_of kind).numbers ≤ length rest →
    body_of kind (take (form_of kind).numbers rest ++ more) ≡ body_of kind rest
body_kept kind rest more w =
    let m = (form_of kind).numbers in
    let l : m ≤ length (take m rest ++ more) = rw (length-append (take m rest) more, length-take-le m rest w) (omega arith) in
    body_whole kind (take m rest ++ more) l ∙ rw (number_kept m 0 rest more w, number_kept m 1 rest more w) (sym (body_whole kind rest w))

-- where there is no room, the body does not matter
pub room_refuses : (kind : Kind) (body : List ℕ) (force : ℕ) (before : Tally) → (no_room kind before ≡ 0 → ⊥) →
    judged (body_of kind body) body force before ≡ refusing (refusal (no_room kind before) 0)
unfolding judged permitted
room_refuses kind body force before h =
    by_order (length body) (form_of kind).numbers
    (λ l. rw (body_cut kind body l) (unless_some (no_room kind before) (refusing (refusal cut_short 0)) h))
    (λ l. rw (body_whole kind body l) (unless_some (no_room kind before) _ h))

-- what is said of a body that is whole, but for a 60 that is not out of order
full_kept : (e : Entry) (force : ℕ) (follows other : Bool) (before : Tally) (why : Refusal) → (e.kind ≡ Supplier → why.number ≡ out_of_order) →
    permitted e (placed e force follows) before ≡ refusing why → permitted e (placed e force other) before ≡ refusing why
unfolding placed permitted
full_kept e force follows other before why h q =
    by_supplier e.kind
    (λ is. let number = h is in
    by_refusal e (placed e force follows) before why q
    (λ full same. unless_some (no_room e.kind before) _ full ∙ ap refusing same)
    (λ bad same. absurd (omega (arith, ap (λ (r : Refusal). r.number) same, number)))
    (λ names. let told = (misnaming_refusing e (offending e before) why names).1 in
    let four : misnamed (names_of e) ≡ not_to_be_named = ap (λ (k : Kind). misnamed (form_of k).names) is in
    absurd (omega (arith, ap (λ (r : Refusal). r.number) told, number, four))))
    (λ none. rw (placed_anyway e.kind e.a force other none) (rw (placed_anyway e.kind e.a force follows none) at q))

judged_kept : (kind : Kind) (rest more : List ℕ) (force : ℕ) (before : Tally) (why : Refusal) → (why.number ≡ cut_short → ⊥) →
    (kind ≡ Supplier → why.number ≡ out_of_order) → judged (body_of kind rest) rest force before ≡ refusing why →
    judged (body_of kind (take (form_of kind).numbers rest ++ more)) (take (form_of kind).numbers rest ++ more) force before ≡ refusing why
unfolding judged
judged_kept kind rest more force before why h late q =
    by_order (length rest) (form_of kind).numbers
    (λ l. let short : unless (no_room kind before) (refusing (refusal cut_short 0)) ≡ refusing why = rw (body_cut kind rest l) at q in
    let full : no_room kind before ≡ 0 → ⊥ = λ z. let e = sym (unless_none (no_room kind before) (refusing (refusal cut_short 0)) z) ∙ short in
    let same : refusal cut_short 0 ≡ why = cc e in h (ap (λ (r : Refusal). r.number) (sym same)) in
    room_refuses kind (take (form_of kind).numbers rest ++ more) force before full
    ∙ sym (unless_some (no_room kind before) (refusing (refusal cut_short 0)) full) ∙ short)
    (λ w. let own = entry_of kind rest in
    rw (body_kept kind rest more w, body_whole kind rest w)
    (full_kept own force (begins_row (drop (form_of kind).numbers rest)) _ before why late (rw (body_whole kind rest w) at q)))

step_kept : (k : ℕ) (rest more : List ℕ) (force : ℕ) (before : Tally) (why : Refusal) → (why.number ≡ cut_short → ⊥) →
    (kind_of k ≡ Some Supplier → why.number ≡ out_of_order) → step_of k rest force before ≡ refusing why →
    step_of k (take (own_bytes (kind_of k)) rest ++ more) force before ≡ refusing why
unfolding step_of decoded judged
step_kept k rest more force before why h late q = go (kind_of k) late q
  where
    go : (a : Option Kind) → (a ≡ Some Supplier → why.number ≡ out_of_order) → judged (decoded_by a rest) rest force before ≡ refusing why →
        judged (decoded_by a (take (own_bytes a) rest ++ more)) (take (own_bytes a) rest ++ more) force before ≡ refusing why
    go None late q = q
    go (Some kind) late q = judged_kept kind rest more force before why h (λ is. late (ap Some is)) q

-- a refused table: its first bad entry speaks
module _ (s : List ℕ) (n p : ℕ) (q : reading s ≡ refusing (refusal n p)) where
  stop : Stopped none s (refusal n p)
  stop = of_refused s (refusal n p) q

  front : List ℕ
  front = encoded stop.before

  bytes : front ++ (stop.kind ∷ stop.rest) ≡ s
  unfolding written front marked last_of
  bytes = stop.bytes

  kind_here : get_or s (length front) 0 ≡ stop.kind
  kind_here = ap (λ (l : List ℕ). get_or l (length front) 0) (sym bytes) ∙ get_or-append_seam front stop.kind stop.rest 0

  rest_here : drop (length front + 1) s ≡ stop.rest
  rest_here = ap (drop (length front + 1)) (sym bytes) ∙ drop-append-add front (stop.kind ∷ stop.rest) 1

  points_here : Points s (length front) (tally_of stop.before) n p
  unfolding front
  points_here =
      let here = points_behind front (stop.kind ∷ stop.rest) (tally_of stop.before) stop.here.number stop.here.place
      (step_points stop.kind stop.rest stop.before.supplier (tally_of stop.before) stop.here stop.bad) in
      rw (bytes, ← ap (λ (r : Refusal). r.number) stop.is, ← ap (λ (r : Refusal). r.place) stop.is) at here

  start_within : length front < length s
  start_within = omega (arith, length-append front (stop.kind ∷ stop.rest), ap length bytes)

  pub refused_at : Speaks s n p
  unfolding front
  refused_at = record {
    start = length front;
    before = stop.before;
    bytes = ap (take (length front)) (sym bytes) ∙ take-append_seam front (stop.kind ∷ stop.rest);
    reached = record {
      accepted = whole_accepted (settled stop.before) stop.stands.whole;
      awaits = let left : drop (length front) s ≡ stop.kind ∷ stop.rest =
          ap (drop (length front)) (sym bytes) ∙ drop_at front (stop.kind ∷ stop.rest) (length front) refl in
          rw left stop.stands.awaits;
    };
    brings =
        let number : stop.here.number ≡ n = sym (ap (λ (r : Refusal). r.number) stop.is) in
        let place : stop.here.place ≡ p - length front = omega (arith, ap (λ (r : Refusal). r.place) stop.is) in
        let same : stop.here ≡ refusal n (p - length front) = ap₂ refusal number place in
        rw (kind_here, rest_here) (stop.bad ∙ ap refusing same);
    points = points_here;
    within = points_within s (length front) (tally_of stop.before) n p start_within points_here;
  }

-- the entry that speaks, and what reading makes of bytes that begin as the table does up to its start
module _ (s : List ℕ) (n p : ℕ) (w : Speaks s n p) where
  abbrev pub kind_byte : ℕ
  kind_byte = get_or s w.start 0

  abbrev pub behind : List ℕ
  behind = drop (w.start + 1) s

  from : w.start ≤ p
  from = points_from s w.start (tally_of w.before) n p w.points

  pub read_up_to : (more : List ℕ) →
      reading (take w.start s ++ (kind_byte ∷ more)) ≡ read_on (suc (length more)) w.before w.start (kind_byte ∷ more)
  read_up_to more =
      let left : drop w.start s ≡ kind_byte ∷ behind = bytes_from s w.start (omega (arith, from, w.within)) in
      let at : length (encoded w.before) ≡ w.start = ap length (sym w.bytes) ∙ length-take-le w.start s (omega (arith, from, w.within)) in
      let stands : Open w.before (begins_row (kind_byte ∷ more)) = record {
        whole = (of_accepted (encoded (settled w.before)) (settled w.before) w.reached.accepted).0;
        awaits = rw left at w.reached.awaits;
      } in
      ap (λ (l : List ℕ). reading (l ++ (kind_byte ∷ more))) w.bytes ∙ read_open w.before (kind_byte ∷ more) stands ∙ rw at

  -- but for 2, and for a 60 that is not out of order, whatever follows its own bytes does not matter
  pub refused_anyway : (n ≡ cut_short → ⊥) → (kind_of kind_byte ≡ Some Supplier → n ≡ out_of_order) → (more : List ℕ) →
      reading (take (w.start + suc (own_bytes (kind_of kind_byte))) s ++ more) ≡ refusing (refusal n p)
  unfolding read_on after
  refused_anyway h late more =
      let m = own_bytes (kind_of kind_byte) in
      let cut : take (w.start + suc m) s ≡ take w.start s ++ (kind_byte ∷ take m behind) =
      take-add w.start (suc m) s ∙ rw (bytes_from s w.start (omega (arith, from, w.within))) in
      let place : w.start + (p - w.start) ≡ p = omega (arith, from) in
      let kept = step_kept kind_byte behind more w.before.supplier (tally_of w.before) (refusal n (p - w.start)) h late w.brings in
      rw (cut, append_assoc (take w.start s) (kind_byte ∷ take m behind) more) (read_up_to (take m behind ++ more) ∙ rw (kept, place))

  number_of : Misnames s w.start (tally_of w.before) n p → is_among at_number n ≡ true
  number_of m = ap (is_among at_number) m.number_is ∙ misnamed_is (λ n. is_among at_number n ≡ true) refl refl (form_of m.kind).names

  -- 3 and 4 point to a number, and the others to the kind byte
  pub at_number_lem : is_among at_number n ≡ true → Misnames s w.start (tally_of w.before) n p
  at_number_lem h = ⊎_elim (λ e. never (sym e.0 ∙ numbers_apart n h)) (λ m. m) w.points

  pub at_kind : is_among at_kind_byte n ≡ true → p ≡ w.start
  at_kind h =
      ⊎_elim
      (λ e. e.1)
      (λ m. never (sym h ∙ numbers_apart n (number_of m)))
      w.points

  -- and none has the number 0, which stands for no refusal
  pub not_zero : n ≡ 0 → ⊥
  not_zero e = ⊎_elim (λ h. never (sym (rw e at h.0))) (λ m. never (sym (rw e at (number_of m)))) w.points

-- The letter's first demand, of the services' answers: every byte string and every number gets an answer or one of 01's numbered refusals, with its number
-- and place, and a refusal keeps the lent output's bytes. And of 02, L1: the place of 3 and 4 is that of a wrong number, and a right one there helps.
-- Assumes nothing.
use mathlib.Core.Path.{◌≡◌, refl, sym, ◌∙◌}
use mathlib.Core.Bool.{Bool, true, false}
use mathlib.Core.List.{List}
use mathlib.Core.Logic.{◌⊎◌, inl, inr, ⊎_elim}
use Prim.Native.Nat.{ℕ, ◌^◌, ◌<◌}
use lib.ListN.{length, get_or, set}
use lib.Dec.{leb, ltb}
use borrow.Author.Tests.{lt-leb, le-ltb}
use Rattle.belnap.proofs.Finite.{never}
use Rattle.entries.specs.Said.{Refusal}
use Rattle.entries.specs.Refusals.{not_there, bad_mask, output_too_short, if_missing, at_number, is_among}
use Rattle.entries.specs.Said.{Said, answered, refusing, and_then, unless}
use Rattle.entries.specs.Entries.{number_limit, onto}
use Rattle.entries.specs.Output.{if_short, sent, output_of}
use Rattle.entries.proofs.Numbers.{by_order}
use Rattle.entries.proofs.Saying.{not_both}
use Rattle.kinds.specs.Kinds.{form_of}
use Rattle.table.specs.Steps.{limit}
use Rattle.table.specs.Contents.{Contents, predicates, tally_of, entries}
use Rattle.table.specs.Reading.{reading}
use Rattle.table.specs.Places.{Misnames, Speaks}
use Rattle.lookup.specs.Lookup.{place_of}
use Rattle.table.proofs.Speaking.{refused_at, at_number_lem, not_zero}
use Rattle.table.proofs.Mending.{mended}
use Rattle.text.specs.Lines.{text_of}
use Rattle.text.specs.Calls.{to_text, from_text}
use Rattle.text.specs.Places.{DueText}
use Rattle.text.proofs.Refusing.{refused_by, bad_text, bad_entry, due_some}
use Rattle.walk.specs.declared.Reply.{Reply}
use Rattle.walk.specs.declared.Reply.TheVariants.{Holds, Fails, Unfinished}
use Rattle.strike.specs.Strike.{missing, in_use, too_short, strike_refusal, struck_answer}
use Rattle.strike.proofs.Telling.{refused_keeps}
use Rattle.pierstride.specs.Masks.{beyond, bad_masks}
use Rattle.pierstride.specs.Services.{asked_wrongly, counts_of, decided_of, remaining_of, replied_of, verdict_of, located_of, written_of}
use Rattle.pierstride.specs.Services.{read_answer, says_decide, decide_answer, says_possible, possible_answer, says_verdict, verdict_answer}
use Rattle.pierstride.specs.Services.{says_entry, entry_answer, says_strike, strike_answer, strike_output}
use Rattle.pierstride.specs.Services.{says_suppliers, suppliers_answer, suppliers_output, to_text_answer, to_text_output, from_text_answer, from_text_output}
use Rattle.pierstride.specs.Demands.{no_own, of_deciding, of_asking, of_striking, of_listing, of_writing, Due, Tells}
use Rattle.pierstride.specs.Services.{judged_of, says_breaks, breaks_answer, says_file, dimacs_answer, dimacs_output}
use Rattle.suppliers.specs.Suppliers.{suppliers_of, list_of}
use Rattle.clauses.specs.Variables.{variables_of, negation_of}
use Rattle.dimacs.specs.Dimacs.{file_text, file_of}

-- a call that writes and refuses leaves the output as it was
sent_keeps : (x : Said (List ℕ)) (out : List ℕ) → ((written_of (sent x (length out))).refusal ≡ 0 → ⊥) → output_of x out ≡ out
unfolding sent output_of onto
sent_keeps (refusing why) out h = refl
sent_keeps (answered bytes) out h =
    by_order (length out) (length bytes)
    (λ l. rw (lt-leb (length bytes) (length out) l))
    (λ l. absurd (h (rw (le-ltb (length out) (length bytes) l))))

-- what a call says is an answer, or a refusal that is due
abbrev DueOf : {A : Type 0} → (ℕ → ℕ → Type 0) → Said A → Type 0
DueOf due (answered v) = Unit {0}
DueOf due (refusing why) = due why.number why.place

never_zero : (own s : List ℕ) → is_among own 0 ≡ false → (n p : ℕ) → Due own s n p → n ≡ 0 → ⊥
never_zero own s o n p d e = ⊎_elim (λ w. not_zero s n p w e) (λ h. never (sym (rw e at h.0) ∙ o)) d

-- a struct that shows what a call says in its two first fields tells it
tells : {A B : Type 0} (due : ℕ → ℕ → Type 0) (shows : Said A → B) (number place : B → ℕ) → ((n p : ℕ) → due n p → n ≡ 0 → ⊥) →
    ((v : A) → (number (shows (answered v)) ≡ 0) × (place (shows (answered v)) ≡ 0)) →
    ((why : Refusal) → (number (shows (refusing why)) ≡ why.number) × (place (shows (refusing why)) ≡ why.place)) →
    (said : Said A) → DueOf due said → Tells due said (number (shows said)) (place (shows said))
tells due shows number place o a r (answered v) d = record {
  answers = λ e. (v, refl);
  none = λ w e. a v;
  refuses = λ h. absurd (h (a v).0);
}
tells due shows number place o a r (refusing why) d = record {
  answers = λ e. absurd (o why.number why.place d (sym (r why).0 ∙ e));
  none = λ w e. not_both (sym e);
  refuses = λ h. rw ((r why).0, (r why).1) (refl, d);
}

-- reading's own refusal, or what is said of the contents
on_table : {A : Type 0} (own s : List ℕ) (f : Contents → Said A) → ((c : Contents) → DueOf (Due own s) (f c)) → DueOf (Due own s) (and_then
    (reading s) f)
on_table own s f h = go (reading s) refl
  where
    go : (x : Said Contents) → reading s ≡ x → DueOf (Due own s) (and_then x f)
    go (answered c) e = h c
    go (refusing why) e = inl (refused_at s why.number why.place e)

-- 8, then 10
asked : {A : Type 0} (own s : List ℕ) (missing bad : Bool) (v : A) → is_among own not_there ≡ true →
    (bad ≡ true → is_among own bad_mask ≡ true) →
    DueOf (Due own s) (unless (asked_wrongly missing bad) (answered v))
asked own s true bad v e f = inr (e, refl)
asked own s false true v e f = inr (f refl, refl)
asked own s false false v e f = tt

-- each service
pub read_tells : (s : List ℕ) → Tells (Due no_own s) (reading s) (read_answer s).refusal (read_answer s).place
read_tells s = tells (Due no_own s) counts_of (λ a. a.refusal) (λ a. a.place) (never_zero no_own s refl) (λ v. (refl, refl)) (λ why. (refl, refl))
    (reading s) (go (reading s) refl)
  where
    go : (x : Said Contents) → reading s ≡ x → DueOf (Due no_own s) x
    go (answered c) e = tt
    go (refusing why) e = inl (refused_at s why.number why.place e)

pub decide_tells : (s : List ℕ) (r request : ℕ) →
    Tells (Due of_deciding s) (says_decide s r request) (decide_answer s r request).refusal (decide_answer s r request).place
unfolding says_decide
decide_tells s r request =
    tells (Due of_deciding s) decided_of (λ a. a.refusal) (λ a. a.place) (never_zero of_deciding s refl) (λ v. (refl, refl)) (λ why. (refl, refl))
    (says_decide s r request)
    (on_table of_deciding s _ (λ c. asked of_deciding s (leb (length c.rows) r) (beyond request) _ refl (λ e. refl)))

pub possible_tells : (s : List ℕ) (r known request : ℕ) →
    Tells (Due of_deciding s) (says_possible s r known request) (possible_answer s r known request).refusal (possible_answer s r known request).place
unfolding says_possible
possible_tells s r known request =
    tells (Due of_deciding s) remaining_of (λ a. a.refusal) (λ a. a.place) (never_zero of_deciding s refl) (λ v. (refl, refl)) (λ why.
    (refl, refl)) (says_possible s r known request)
    (on_table of_deciding s _ (λ c. asked of_deciding s (leb (length c.rows) r) (bad_masks known request) _ refl (λ e. refl)))

pub verdict_tells : (s : List ℕ) (q budget : ℕ) →
    Tells (Due of_asking s) (says_verdict s q budget) (verdict_answer s q budget).refusal (verdict_answer s q budget).place
unfolding says_verdict
verdict_tells s q budget =
    tells (Due of_asking s) verdict_of (λ a. a.refusal) (λ a. a.place) (never_zero of_asking s refl)
    answering (λ why. (refl, refl)) (says_verdict s q budget)
    (on_table of_asking s _ (λ c. asked of_asking s (leb (length c.questions) q) false _ refl (λ e. never (sym e))))
  where
    answering : (reply : Reply) → ((replied_of reply).refusal ≡ 0) × ((replied_of reply).place ≡ 0)
    answering (Holds n) = (refl, refl)
    answering (Fails m n) = (refl, refl)
    answering (Unfinished n) = (refl, refl)

pub breaks_tells : (s : List ℕ) (q request : ℕ) →
    Tells (Due of_deciding s) (says_breaks s q request) (breaks_answer s q request).refusal (breaks_answer s q request).place
unfolding says_breaks
breaks_tells s q request =
    tells (Due of_deciding s) judged_of (λ a. a.refusal) (λ a. a.place) (never_zero of_deciding s refl) (λ v. (refl, refl)) (λ why. (refl, refl))
    (says_breaks s q request)
    (on_table of_deciding s _ (λ c. asked of_deciding s (leb (length c.questions) q) (leb (2 ^ predicates c) request) _ refl (λ e. refl)))

pub entry_tells : (s : List ℕ) (r : ℕ) → Tells (Due of_asking s) (says_entry s r) (entry_answer s r).refusal (entry_answer s r).place
unfolding place_of
entry_tells s r =
    tells (Due of_asking s) located_of (λ a. a.refusal) (λ a. a.place) (never_zero of_asking s refl) (λ v. (refl, refl)) (λ why. (refl, refl))
    (says_entry s r)
    (on_table of_asking s _ (λ c. asked of_asking s (leb (length c.rows) r) false _ refl (λ e. never (sym e))))

-- 8, then 9 and 11
struck_due : (s : List ℕ) (absent named short : Bool) (n : ℕ) →
    DueOf (Due of_striking s) (unless (if_missing absent) (unless (strike_refusal named short) (answered n)))
struck_due s true named short n = inr (refl, refl)
struck_due s false true short n = inr (refl, refl)
struck_due s false false true n = inr (refl, refl)
struck_due s false false false n = tt

pub strike_tells : (s : List ℕ) (r : ℕ) (out : List ℕ) →
    Tells (Due of_striking s) (says_strike s r out) (strike_answer s r out).refusal (strike_answer s r out).place
unfolding struck_answer
strike_tells s r out =
    tells (Due of_striking s) written_of (λ a. a.refusal) (λ a. a.place) (never_zero of_striking s refl) (λ v. (refl, refl)) (λ why. (refl, refl))
    (says_strike s r out)
    (on_table of_striking s _ (λ c. struck_due s (missing r c) (in_use r c) (too_short (length out) r c) _))

-- 11, of a call that has bytes to write
too_short_lem : (own s bytes : List ℕ) (short : Bool) → is_among own output_too_short ≡ true →
    DueOf (Due own s) (unless (if_short short) (answered (length bytes)))
too_short_lem own s bytes true e = inr (e, refl)
too_short_lem own s bytes false e = tt

-- 8, then 11, of a call that has bytes to write for each table where what was asked for is there
sent_tells : (s out : List ℕ) (absent : Contents → Bool) (bytes : Contents → List ℕ) →
    let said = sent (and_then (reading s) (λ c. unless (if_missing (absent c)) (answered (bytes c)))) (length out) in
    Tells (Due of_listing s) said (written_of said).refusal (written_of said).place
unfolding sent
sent_tells s out absent bytes =
    tells (Due of_listing s) written_of (λ a. a.refusal) (λ a. a.place) (never_zero of_listing s refl) (λ v. (refl, refl)) (λ why. (refl, refl)) _
    (go (reading s) refl)
  where
    room : (list : List ℕ) (absent : Bool) → DueOf (Due of_listing s) (sent (unless (if_missing absent) (answered list)) (length out))
    room list true = inr (refl, refl)
    room list false = too_short_lem of_listing s list (ltb (length out) (length list)) refl

    go : (x : Said Contents) → reading s ≡ x →
        DueOf (Due of_listing s) (sent (and_then x (λ c. unless (if_missing (absent c)) (answered (bytes c)))) (length out))
    go (answered c) e = room (bytes c) (absent c)
    go (refusing why) e = inl (refused_at s why.number why.place e)

-- the list of a row's suppliers (02, L6), and a question's file (02, L7)
pub suppliers_tells : (s : List ℕ) (r : ℕ) (out : List ℕ) →
    Tells (Due of_listing s) (sent (says_suppliers s r) (length out)) (suppliers_answer s r out).refusal (suppliers_answer s r out).place
unfolding list_of
suppliers_tells s r out = sent_tells s out (λ c. leb (length c.rows) r) (λ c. suppliers_of c.rows c.suppliers r)

pub dimacs_tells : (s : List ℕ) (q : ℕ) (out : List ℕ) →
    Tells (Due of_listing s) (sent (says_file s q) (length out)) (dimacs_answer s q out).refusal (dimacs_answer s q out).place
unfolding file_of
dimacs_tells s q out = sent_tells s out (λ c. leb (length c.questions) q) (λ c. file_text (variables_of c) (negation_of c q))

-- "Demand 1 covers texts too": writing one refuses as reading does, then with 11
pub to_text_tells : (s out : List ℕ) →
    Tells (Due of_writing s) (sent (to_text s) (length out)) (to_text_answer s out).refusal (to_text_answer s out).place
unfolding sent to_text
to_text_tells s out =
    tells (Due of_writing s) written_of (λ a. a.refusal) (λ a. a.place) (never_zero of_writing s refl) (λ v. (refl, refl)) (λ why. (refl, refl))
    (sent (to_text s) (length out)) (go (reading s) refl)
  where
    go : (x : Said Contents) → reading s ≡ x → DueOf (Due of_writing s) (sent (and_then x (λ c. answered (text_of (entries c)))) (length out))
    go (answered c) e = too_short_lem of_writing s (text_of (entries c)) (ltb (length out) (length (text_of (entries c)))) refl
    go (refusing why) e = inl (refused_at s why.number why.place e)

-- and reading one with 12 or 13 at the first bad line, then with 01's own at the line of the first bad entry, then with 11
pub from_text_tells : (text out : List ℕ) →
    Tells (DueText text) (sent (from_text text) (length out)) (from_text_answer text out).refusal (from_text_answer text out).place
unfolding sent
from_text_tells text out =
    tells (DueText text) written_of (λ a. a.refusal) (λ a. a.place) some (λ v. (refl, refl)) (λ why. (refl, refl))
    (sent (from_text text) (length out)) (go (from_text text) refl)
  where
    some : (n p : ℕ) → DueText text n p → n ≡ 0 → ⊥
    some n p = due_some text n p

    room : (bytes : List ℕ) (short : Bool) → DueOf (DueText text) (unless (if_short short) (answered (length bytes)))
    room bytes true = inr (inr (refl, refl))
    room bytes false = tt

    go : (x : Said (List ℕ)) → from_text text ≡ x → DueOf (DueText text) (sent x (length out))
    go (answered bytes) e = room bytes (ltb (length out) (length bytes))
    go (refusing why) e = ⊎_elim (λ s. inl (bad_text text why s)) (λ own. inr (inl (bad_entry text why own))) (refused_by text why e)

-- "the lent output keeps its old bytes"
pub to_text_keeps : (s out : List ℕ) → ((to_text_answer s out).refusal ≡ 0 → ⊥) → to_text_output s out ≡ out
to_text_keeps s out = sent_keeps (to_text s) out

pub from_text_keeps : (text out : List ℕ) → ((from_text_answer text out).refusal ≡ 0 → ⊥) → from_text_output text out ≡ out
from_text_keeps text out = sent_keeps (from_text text) out

pub suppliers_keeps : (s : List ℕ) (r : ℕ) (out : List ℕ) → ((suppliers_answer s r out).refusal ≡ 0 → ⊥) → suppliers_output s r out ≡ out
suppliers_keeps s r out = sent_keeps (says_suppliers s r) out

pub dimacs_keeps : (s : List ℕ) (q : ℕ) (out : List ℕ) → ((dimacs_answer s q out).refusal ≡ 0 → ⊥) → dimacs_output s q out ≡ out
dimacs_keeps s q out = sent_keeps (says_file s q) out

pub refusal_keeps_output : (s : List ℕ) (r : ℕ) (out : List ℕ) → ((strike_answer s r out).refusal ≡ 0 → ⊥) → strike_output s r out ≡ out
refusal_keeps_output s r out h = go (says_strike s r out) refl h
  where
    go : (a : Said ℕ) → says_strike s r out ≡ a → ((written_of a).refusal ≡ 0 → ⊥) → strike_output s r out ≡ out
    go (answered n) e h = absurd (h refl)
    go (refusing why) e h = refused_keeps (reading s) r out why e

-- 3 and 4, by whatever call they are given, point at a number of the first bad entry (02, L1)
pub number_pointed_at : (own s : List ℕ) (n p : ℕ) → is_among own n ≡ false → is_among at_number n ≡ true → Due own s n p →
    (w : Speaks s n p) × Misnames s w.start (tally_of w.before) n p
number_pointed_at own s n p o h = ⊎_elim (λ w. (w, at_number_lem s n p w h)) (λ d. never (sym d.0 ∙ o))

-- and a number below its limit there mends it: the table is accepted, or refused only beyond. The number there is a byte, so it is no supplier's, which every
-- byte may be.
pub mending_helps : (s : List ℕ) (n p : ℕ) (w : Speaks s n p) (m : Misnames s w.start (tally_of w.before) n p) (x : ℕ) →
    get_or s p 0 < number_limit → x < limit (form_of m.kind).names (tally_of w.before) →
    ((read_answer (set s p x)).refusal ≡ 0) ⊎ (p < (read_answer (set s p x)).place)
mending_helps s n p w m x byte low = go (reading (set s p x)) refl
  where
    go : (said : Said Contents) → reading (set s p x) ≡ said → ((counts_of said).refusal ≡ 0) ⊎ (p < (counts_of said).place)
    go (answered c) e = inl refl
    go (refusing why) e = inr (mended s n p w m x byte low why e)

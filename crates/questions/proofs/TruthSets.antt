-- What the sets of questions say (the letter's third demand): the truth under every way of filling the missing facts in is a member, learning a fact
-- adds none, and with nothing unknown only the truth is left.
-- Assumes nothing.
use mathlib.Core.Path.{◌≡◌, refl, ap, ap₂, ◌∙◌}
use mathlib.Core.Bool.{Bool, true, not, ◌&&◌}
use mathlib.Core.List.{List}
use Prim.Native.Nat.{ℕ, ◌<◌}
use lib.ListN.{get_or}
use Rattle.belnap.specs.declared.Decision.{Decision}
use Rattle.belnap.specs.Orders.{at_or_below}
use Rattle.kinds.specs.declared.QuestionKind.{QuestionKind}
use Rattle.kinds.specs.declared.QuestionKind.TheVariants.{Compare, Not, Both}
use Rattle.entries.specs.declared.Entry.{Entry}
use Rattle.kinds.specs.Kinds.{as_question}
use Rattle.entries.specs.Entries.{blank, equal_numbers}
use Rattle.table.specs.Contents.{Covers}
use Rattle.decide.specs.Meaning.{bit, decision}
use Rattle.decide.specs.Requests.{Fills, Learns, AllKnown}
use Rattle.decide.proofs.RowByRow.{equal_values, side_by_side}
use Rattle.decide.proofs.Independence.{beyond_n}
use Rattle.possible.specs.Sets.{decisions, truths, Set, Within, single, image_one, image_two}
use Rattle.possible.specs.Possible.{possible}
use Rattle.possible.proofs.Images.{one_has, two_has, one_single, two_single, Fewer, as_many, one_within, two_within}
use Rattle.possible.proofs.Filling.{filling_member, learning_adds_none, known_exact}
use Rattle.questions.specs.Questions.{truth_by, asks, truth, truth_set_by, asks_set, truth_set}

-- the truth under every filling is a member
question_has : (k : QuestionKind) (equal : Bool) (s t : Set decisions) (u v : Decision) (x y : Bool) (p q : Set truths) →
    s.has u ≡ true → t.has v ≡ true → p.has x ≡ true → q.has y ≡ true → (equal ≡ true → u ≡ v) → (equal ≡ true → x ≡ y) →
    (truth_set_by k equal s t p q).has (truth_by k u v x y) ≡ true
unfolding truth_set_by
question_has (Compare o) equal s t u v x y p q a b c d e f = two_has truths (at_or_below o) equal s t u v a b e
question_has Not equal s t u v x y p q a b c d e f = one_has truths not p x c
question_has Both equal s t u v x y p q a b c d e f = two_has truths ◌&&◌ equal p q x y c d f

pub filling_truth : (rows questions : List Entry) (known request o j : ℕ) → Fills known request o →
    (truth_set rows questions known request j).has (truth rows questions o j) ≡ true
filling_truth rows questions known request o j h =
    side_by_side (λ b s. s.has b ≡ true) (asks rows o) (asks_set (possible rows known request)) true (single true) questions refl
    (λ i x p has. let e = get_or questions i blank in
    let member : (r : ℕ) → (possible rows known request r).has (decision rows o r) ≡ true = λ r. filling_member rows known request o r h in
    question_has (as_question e.kind) (equal_numbers e) _ _ _ _ _ _ _ _ (member e.a) (member e.b) (has e.a) (has e.b)
    (equal_values (decision rows o) e) (equal_values x e)) j

-- fewer facts missing, and one choice in the place of two, add none
pub question_within : (k : QuestionKind) (equal other : Bool) (s t u v : Set decisions) (x y p q : Set truths) →
    Fewer equal other s t → Fewer equal other x y → Within s u → Within t v → Within x p → Within y q →
    Within (truth_set_by k equal s t x y) (truth_set_by k other u v p q)
unfolding truth_set_by
question_within (Compare o) equal other s t u v x y p q rows asked a b c d = two_within truths (at_or_below o) equal other s t u v rows a b
question_within Not equal other s t u v x y p q rows asked a b c d = one_within truths not x p c
question_within Both equal other s t u v x y p q rows asked a b c d = two_within truths ◌&&◌ equal other x y p q asked c d

pub learning_adds_no_truth : (rows questions : List Entry) (known request more then j : ℕ) → Learns known request more then →
    Within (truth_set rows questions more then j) (truth_set rows questions known request j)
learning_adds_no_truth rows questions known request more then j h =
    side_by_side Within (asks_set (possible rows more then)) (asks_set (possible rows known request)) (single true) (single true) questions (λ r e. e)
    (λ i x p within. let e = get_or questions i blank in
    let learns : (r : ℕ) → Within (possible rows more then r) (possible rows known request r) = λ r. learning_adds_none rows known request more then r h in
    question_within (as_question e.kind) (equal_numbers e) (equal_numbers e) _ _ _ _ _ _ _ _ (as_many (equal_numbers e) _ _) (as_many (equal_numbers e) _ _)
    (learns e.a) (learns e.b) (within e.a) (within e.b)) j

-- with nothing unknown only the truth is left
question_exact : (k : QuestionKind) (equal : Bool) (s t : Set decisions) (u v : Decision) (x y : Set truths) (p q : Bool) →
    s ≡ single u → t ≡ single v → x ≡ single p → y ≡ single q → (equal ≡ true → u ≡ v) → (equal ≡ true → p ≡ q) →
    truth_set_by k equal s t x y ≡ single (truth_by k u v p q)
unfolding truth_set_by
question_exact (Compare o) equal s t u v x y p q a b c d e f =
    ap₂ (image_two (at_or_below o) equal) a b ∙ two_single decisions truths (at_or_below o) equal u v e
question_exact Not equal s t u v x y p q a b c d e f = ap (image_one not) c ∙ one_single truths truths not p
question_exact Both equal s t u v x y p q a b c d e f = ap₂ (image_two ◌&&◌ equal) c d ∙ two_single truths truths ◌&&◌ equal p q f

pub known_truth : (rows questions : List Entry) (n : ℕ) → Covers n rows → (known request j : ℕ) → AllKnown n known →
    truth_set rows questions known request j ≡ single (truth rows questions request j)
known_truth rows questions n covers known request j h =
    side_by_side (λ s b. s ≡ single b) (asks_set (possible rows known request)) (asks rows request) (single true) true questions refl
    (λ i x p is. let e = get_or questions i blank in
    let exact : (r : ℕ) → possible rows known request r ≡ single (decision rows request r) = λ r. known_exact rows n covers known request r h in
    question_exact (as_question e.kind) (equal_numbers e) _ _ _ _ _ _ _ _ (exact e.a) (exact e.b) (is e.a) (is e.b)
    (equal_values (decision rows request) e) (equal_values p e)) j

-- requests that agree below n keep and break the same questions
pub truth_beyond_n : (rows questions : List Entry) (n : ℕ) → Covers n rows → (m o j : ℕ) → ((p : ℕ) → p < n → bit m p ≡ bit o p) →
    truth rows questions m j ≡ truth rows questions o j
truth_beyond_n rows questions n covers m o j h =
    side_by_side (λ (b c : Bool). b ≡ c) (asks rows m) (asks rows o) true true questions refl
    (λ i x u same. let e = get_or questions i blank in
    rw (beyond_n rows n covers m o e.a h, beyond_n rows n covers m o e.b h, same e.a, same e.b)) j

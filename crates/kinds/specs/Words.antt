-- Each kind's word in the text of a table (02, L2, L5 and L6), and the kind that a word spells.
use Rattle.std.specs.Prelude.{ℕ, ◌≡◌, ◌+◌, ◌≤◌, Bool, true, false, ◌&&◌, cond, eqb, Option}
use Rattle.std.specs.Prelude.{List, [], ◌∷◌, length, flat_map, slice_range}
use Prim.Native.Char.{code}
use Prim.Native.String.{String, [] as nothing, ◌∷◌ as ◌then◌}
use Rattle.belnap.specs.declared.Decision.TheVariants.{U, D, G, C}
use Rattle.operators.specs.declared.OneRow.TheVariants.{Negation, Conflation, ClosedDefault, OpenDefault}
use Rattle.operators.specs.declared.TwoRow.TheVariants.{TruthMeet, TruthJoin, KnowledgeMeet, KnowledgeJoin, Implication}
use Rattle.operators.specs.declared.TwoRow.TheVariants.{Guard, OverrideU, OverrideD, OverrideG, OverrideC}
use Rattle.belnap.specs.declared.orders.Order.TheVariants.{Truth, Knowledge}
use Rattle.kinds.specs.declared.RowKind.TheVariants.{Always, DenyIf, GrantIf, One, Two}
use Rattle.kinds.specs.declared.QuestionKind.TheVariants.{Compare, Not, Both}
use Rattle.kinds.specs.declared.ConstraintKind.TheVariants.{NeverBoth, OnlyIf}
use Rattle.kinds.specs.declared.Kind.{Kind}
use Rattle.kinds.specs.declared.Kind.TheVariants.{Row, Question, Constraint, Supplier}
use Rattle.kinds.specs.Kinds.{form_of, kinds, among}

-- "The team fixes one word for each kind"
abbrev pub spelling : Kind → String
spelling (Row (Always U)) = "unspecified"
spelling (Row (Always D)) = "deny"
spelling (Row (Always G)) = "grant"
spelling (Row (Always C)) = "conflict"
spelling (Row DenyIf) = "deny-if"
spelling (Row GrantIf) = "grant-if"
spelling (Row (One Negation)) = "negation"
spelling (Row (One Conflation)) = "conflation"
spelling (Row (One ClosedDefault)) = "closed-default"
spelling (Row (One OpenDefault)) = "open-default"
spelling (Row (Two TruthMeet)) = "truth-meet"
spelling (Row (Two TruthJoin)) = "truth-join"
spelling (Row (Two KnowledgeMeet)) = "knowledge-meet"
spelling (Row (Two KnowledgeJoin)) = "knowledge-join"
spelling (Row (Two Implication)) = "implication"
spelling (Row (Two Guard)) = "guard"
spelling (Row (Two OverrideU)) = "override-unspecified"
spelling (Row (Two OverrideD)) = "override-deny"
spelling (Row (Two OverrideG)) = "override-grant"
spelling (Row (Two OverrideC)) = "override-conflict"
spelling (Question (Compare Truth)) = "truth-at-or-below"
spelling (Question (Compare Knowledge)) = "knowledge-at-or-below"
spelling (Question Not) = "not"
spelling (Question Both) = "both"
spelling (Constraint NeverBoth) = "never-both"
spelling (Constraint OnlyIf) = "only-if"
spelling Supplier = "supplier"

-- a text's bytes: its letters stand for themselves
abbrev pub bytes : String → List ℕ
bytes nothing = []
bytes (letter then more) = code letter ∷ bytes more

unfoldable pub word_of : Kind → List ℕ
word_of kind = bytes (spelling kind)

-- The words of all kinds, one behind the other, as the code keeps them; and that a kind's word stands there, from a start up to an end. The promise of
-- `place_of` (src/words.rt) speaks of these and of `starts`, and no service's does.
abbrev pub letters : List ℕ
letters = flat_map word_of kinds

abbrev pub Stands : Kind → ℕ → ℕ → Type 0
Stands kind start end = (start ≤ end) × (end ≤ length letters) × (slice_range letters start end ≡ word_of kind)

-- how many letters the words have of those kinds that stand before a kind in a list
abbrev pub before : Kind → List Kind → ℕ
before kind [] = 0
before kind (other ∷ more) = cond (eqb (form_of other).byte (form_of kind).byte) 0 (length (word_of other) + before kind more)

-- whether a kind's word starts there: behind the words of all kinds before it
abbrev pub starts : Kind → ℕ → Bool
starts kind start = eqb start (before kind kinds)

-- whether two byte strings are the same
abbrev pub same : List ℕ → List ℕ → Bool
same [] [] = true
same [] (y ∷ m) = false
same (x ∷ l) [] = false
same (x ∷ l) (y ∷ m) = eqb x y && same l m

-- the kind that a word spells
unfoldable pub kind_spelled : List ℕ → Option Kind
kind_spelled w = among (λ kind. same w (word_of kind)) kinds

-- the longest has so many letters
abbrev pub longest : ℕ
longest = 21

-- the byte of the only kind that a word may spell
abbrev pub Guesses : List ℕ → ℕ → Type 0
Guesses w byte = (kind : Kind) → w ≡ word_of kind → byte ≡ (form_of kind).byte

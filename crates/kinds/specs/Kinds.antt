-- The table of kinds (01, "The table, byte by byte"; 02, L5 and L6).
use Rattle.std.specs.Prelude.{ℕ, Bool, true, false, cond, List, [], ◌∷◌, ◌++◌, map, eqb, Option, Some, None}
use Rattle.belnap.specs.declared.Decision.TheVariants.{U}
use Rattle.operators.specs.declared.OneRow.{OneRow}
use Rattle.operators.specs.declared.OneRow.TheVariants.{Negation, Conflation, ClosedDefault, OpenDefault}
use Rattle.operators.specs.declared.TwoRow.{TwoRow}
use Rattle.operators.specs.declared.TwoRow.TheVariants.{TruthMeet, TruthJoin, KnowledgeMeet, KnowledgeJoin, Implication}
use Rattle.operators.specs.declared.TwoRow.TheVariants.{Guard, OverrideU, OverrideD, OverrideG, OverrideC}
use Rattle.belnap.specs.declared.orders.Order.{Order}
use Rattle.belnap.specs.declared.orders.Order.TheVariants.{Truth, Knowledge}
use Rattle.belnap.specs.Decisions.{code, every_decision}
use Rattle.operators.specs.Operators.{every_one_row, every_two_row}
use Rattle.belnap.specs.Orders.{every_order}
use Rattle.kinds.specs.declared.RowKind.{RowKind}
use Rattle.kinds.specs.declared.RowKind.TheVariants.{Always, DenyIf, GrantIf, One, Two}
use Rattle.kinds.specs.declared.QuestionKind.{QuestionKind}
use Rattle.kinds.specs.declared.QuestionKind.TheVariants.{Compare, Not, Both}
use Rattle.kinds.specs.declared.ConstraintKind.{ConstraintKind}
use Rattle.kinds.specs.declared.ConstraintKind.TheVariants.{NeverBoth, OnlyIf}
use Rattle.kinds.specs.declared.Kind.{Kind}
use Rattle.kinds.specs.declared.Kind.TheVariants.{Row, Question, Constraint, Supplier}
use Rattle.kinds.specs.declared.Names.{Names}
use Rattle.kinds.specs.declared.Names.TheVariants.{Nothing, Predicates, Rows, Questions, Suppliers}
use Rattle.kinds.specs.declared.Form.{Form}

-- the bytes of the operators and of the two comparisons
abbrev pub byte_of_one : OneRow → ℕ
byte_of_one Negation = 0x20
byte_of_one Conflation = 0x21
byte_of_one ClosedDefault = 0x22
byte_of_one OpenDefault = 0x23

abbrev pub byte_of_two : TwoRow → ℕ
byte_of_two TruthMeet = 0x30
byte_of_two TruthJoin = 0x31
byte_of_two KnowledgeMeet = 0x32
byte_of_two KnowledgeJoin = 0x33
byte_of_two Implication = 0x34
byte_of_two Guard = 0x35
byte_of_two OverrideU = 0x38
byte_of_two OverrideD = 0x39
byte_of_two OverrideG = 0x3A
byte_of_two OverrideC = 0x3B

abbrev pub byte_of_order : Order → ℕ
byte_of_order Truth = 0x40
byte_of_order Knowledge = 0x41

-- a line of the table: the byte that announces a kind, how many numbers its body has, and what they name
abbrev pub form_with : ℕ → ℕ → Names → Form
form_with byte numbers names = record { byte = byte; numbers = numbers; names = names }

-- the table; the bytes 00 to 03 of "always u, d, g, c" are the decisions' codes
abbrev pub form_of : Kind → Form
form_of (Row (Always v)) = form_with (code v) 0 Nothing
form_of (Row DenyIf) = form_with 0x10 1 Predicates
form_of (Row GrantIf) = form_with 0x11 1 Predicates
form_of (Row (One op)) = form_with (byte_of_one op) 1 Rows
form_of (Row (Two op)) = form_with (byte_of_two op) 2 Rows
form_of (Question (Compare o)) = form_with (byte_of_order o) 2 Rows
form_of (Question Not) = form_with 0x42 1 Questions
form_of (Question Both) = form_with 0x43 2 Questions
form_of (Constraint NeverBoth) = form_with 0x50 2 Predicates
form_of (Constraint OnlyIf) = form_with 0x51 2 Predicates
form_of Supplier = form_with 0x60 1 Suppliers

-- every kind there is
abbrev pub row_kinds : List RowKind
row_kinds = map Always every_decision ++ DenyIf ∷ GrantIf ∷ map One every_one_row ++ map Two every_two_row

abbrev pub question_kinds : List QuestionKind
question_kinds = map Compare every_order ++ Not ∷ Both ∷ []

abbrev pub constraint_kinds : List ConstraintKind
constraint_kinds = NeverBoth ∷ OnlyIf ∷ []

abbrev pub kinds : List Kind
kinds = map Row row_kinds ++ map Question question_kinds ++ map Constraint constraint_kinds ++ Supplier ∷ []

-- the first among these that passes a test
abbrev pub among : (Kind → Bool) → List Kind → Option Kind
among passes [] = None
among passes (kind ∷ more) = cond (passes kind) (Some kind) (among passes more)

-- the kind that a byte announces
unfoldable pub kind_of : ℕ → Option Kind
kind_of k = among (λ kind. eqb k (form_of kind).byte) kinds

-- whether a kind is a row's, whether it is a question's, and whether it is a constraint's
abbrev pub is_row : Kind → Bool
is_row (Row k) = true
is_row (Question k) = false
is_row (Constraint k) = false
is_row Supplier = false

abbrev pub is_question : Kind → Bool
is_question (Row k) = false
is_question (Question k) = true
is_question (Constraint k) = false
is_question Supplier = false

abbrev pub is_constraint : Kind → Bool
is_constraint (Row k) = false
is_constraint (Question k) = false
is_constraint (Constraint k) = true
is_constraint Supplier = false

-- what is no row reads as always u; what is no question as 43, "both", of the questions with its numbers; what is no constraint as 51, "only if"
abbrev pub as_row : Kind → RowKind
as_row (Row k) = k
as_row (Question k) = Always U
as_row (Constraint k) = Always U
as_row Supplier = Always U

abbrev pub as_question : Kind → QuestionKind
as_question (Row k) = Both
as_question (Question k) = k
as_question (Constraint k) = Both
as_question Supplier = Both

abbrev pub as_constraint : Kind → ConstraintKind
as_constraint (Row k) = OnlyIf
as_constraint (Question k) = OnlyIf
as_constraint (Constraint k) = k
as_constraint Supplier = OnlyIf

-- whether a byte announces a row's kind
abbrev pub of_row : Option Kind → Bool
of_row (Some kind) = is_row kind
of_row None = false

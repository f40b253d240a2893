-- The limits, what bytes are decoded to, and whether an entry may stand in a table behind so many constraints, rows and questions
-- (01, "The table, byte by byte" and "When we say no"; 02, L5 and L6).
use Rattle.std.specs.Prelude.{ℕ, zero, suc, ◌+◌, ◌*◌, Bool, true, false, cond, not, ◌&&◌, ◌||◌}
use Rattle.std.specs.Prelude.{List, [], ◌∷◌, length, get_or, drop, ltb, eqb}
use Rattle.std.specs.Prelude.{Option, Some, None}
use Rattle.kinds.specs.declared.Kind.{Kind}
use Rattle.kinds.specs.declared.Kind.TheVariants.{Row, Question, Constraint, Supplier}
use Rattle.kinds.specs.declared.Names.{Names}
use Rattle.kinds.specs.declared.Names.TheVariants.{Nothing, Predicates, Rows, Questions, Suppliers}
use Rattle.entries.specs.declared.Entry.{Entry}
use Rattle.table.specs.declared.steps.Tally.{Tally}
use Rattle.table.specs.declared.steps.Decoded.{Decoded}
use Rattle.table.specs.declared.steps.Decoded.TheVariants.{Unknown, Cut, Full}
use Rattle.entries.specs.Refusals.{unlisted, cut_short, predicate_too_high, not_to_be_named, out_of_order, too_many_rows, too_many_questions}
use Rattle.entries.specs.Refusals.{too_many_constraints}
use Rattle.entries.specs.Refusals.{idle_supplier}
use Rattle.entries.specs.Said.{Said, answered, refusing, refusal, unless}
use Rattle.kinds.specs.Kinds.{kind_of, form_of, of_row}
use Rattle.entries.specs.Entries.{number_limit, size_limit, supplier_size, numbers_of, names_of, body_size}

-- "Limits: predicates 0 to 23; 256 rows; 64 questions"
abbrev pub predicate_limit : ℕ
predicate_limit = 24

abbrev pub row_limit : ℕ
row_limit = 256

abbrev pub question_limit : ℕ
question_limit = 64

-- "At most 32" (02, L5)
abbrev pub constraint_limit : ℕ
constraint_limit = 32

-- no table has more bytes: each entry at its longest, and a 60 before each row
abbrev pub byte_limit : ℕ
byte_limit = size_limit * (constraint_limit + (row_limit + question_limit)) + supplier_size * row_limit

-- number i of a body of so many numbers; 0 where there is none
abbrev pub number_at : ℕ → ℕ → List ℕ → ℕ
number_at numbers i body = cond (ltb i numbers) (get_or body i 0) 0

-- where it stands, counted from the kind byte
abbrev pub number_place : ℕ → ℕ
number_place i = i + 1

-- the entry of a kind whose body begins the bytes behind the kind byte
abbrev pub entry_of : Kind → List ℕ → Entry
entry_of kind body = let numbers = (form_of kind).numbers in record { kind = kind; a = number_at numbers 0 body; b = number_at numbers 1 body }

-- what the bytes behind a kind byte are: the body is cut short, or they begin with it
unfoldable pub body_of : Kind → List ℕ → Decoded
body_of kind body = cond (ltb (length body) (body_size kind)) (Cut kind) (Full (entry_of kind body))

abbrev pub decoded_by : Option Kind → List ℕ → Decoded
decoded_by None body = Unknown
decoded_by (Some kind) body = body_of kind body

-- what a kind byte and the bytes behind it are
unfoldable pub decoded : ℕ → List ℕ → Decoded
decoded k body = decoded_by (kind_of k) body

-- so many constraints, rows and questions, and with an entry of a kind more
abbrev pub tally : ℕ → ℕ → ℕ → Tally
tally constraints rows questions = record { constraints = constraints; rows = rows; questions = questions }

abbrev pub one_more : Kind → Tally → Tally
one_more (Row k) before = tally before.constraints (before.rows + 1) before.questions
one_more (Question k) before = tally before.constraints before.rows (before.questions + 1)
one_more (Constraint k) before = tally (before.constraints + 1) before.rows before.questions
one_more Supplier before = before

-- 5 for an entry that comes too late, then the refusal of one more than there may be; 0 where there is room
abbrev pub room_by : Bool → ℕ → ℕ → ℕ → ℕ
room_by late count limit full = cond late out_of_order (cond (ltb count limit) 0 full)

-- 5, 6, 7 and 14; 0 where there is room for an entry of a kind behind so many others: "All rows come before all questions", constraints "before all rows",
-- and "a 60 after a question is 5" (02, L6)
unfoldable pub no_room : Kind → Tally → ℕ
no_room (Row k) before = room_by (ltb 0 before.questions) before.rows row_limit too_many_rows
no_room (Question k) before = room_by false before.questions question_limit too_many_questions
no_room (Constraint k) before = room_by (ltb 0 before.rows || ltb 0 before.questions) before.constraints constraint_limit too_many_constraints
no_room Supplier before = cond (ltb 0 before.questions) out_of_order 0

-- "A row may name only rows with a lower number; 42 and 43 only lower questions; 40 and 41 any row of the table": at a question all rows are read already,
-- since 5 keeps rows before questions. Any byte is a supplier.
abbrev pub limit : Names → Tally → ℕ
limit Nothing before = 0
limit Predicates before = predicate_limit
limit Rows before = before.rows
limit Questions before = before.questions
limit Suppliers before = number_limit

-- whether number i of a body is below the limit, or not there
abbrev pub named_at : ℕ → ℕ → ℕ → ℕ → Bool
named_at numbers below i x = cond (ltb i numbers) (ltb x below) true

abbrev pub fits : Entry → Tally → ℕ → ℕ → Bool
fits e before i x = named_at (numbers_of e) (limit (names_of e) before) i x

-- "the first offending body byte" (02, L1), by whether the first and the second number fit: its place; 0, the kind byte's, where both do
abbrev pub first_unfit : Bool → Bool → ℕ
first_unfit true true = 0
first_unfit true false = number_place 1
first_unfit false second = number_place 0

unfoldable pub offending : Entry → Tally → ℕ
offending e before = first_unfit (fits e before 0 e.a) (fits e before 1 e.b)

-- the place that offends, if one does
abbrev pub some_place : ℕ → Option ℕ
some_place zero = None
some_place (suc i) = Some (suc i)

-- 3, a predicate above 23; 4, a number that may not be named there
abbrev pub misnamed : Names → ℕ
misnamed Nothing = not_to_be_named
misnamed Predicates = predicate_too_high
misnamed Rows = not_to_be_named
misnamed Questions = not_to_be_named
misnamed Suppliers = not_to_be_named

-- what is said of an entry by the place that offends: 3 or 4 there; the entry itself, where that is 0
abbrev pub misnaming : Entry → ℕ → Said Entry
misnaming e zero = answered e
misnaming e (suc i) = refusing (refusal (misnamed (names_of e)) (suc i))

-- whether bytes begin with a row's kind byte
abbrev pub begins_row : List ℕ → Bool
begins_row [] = false
begins_row (k ∷ s) = of_row (kind_of k)

-- 15 is "a 60 that repeats the supplier in force or is not followed by a row's kind byte" (02, L6): whether an entry is none, by its kind, its first number,
-- the supplier in force, and whether a row follows
abbrev pub placed_by : Kind → ℕ → ℕ → Bool → Bool
placed_by (Row k) s force follows = true
placed_by (Question k) s force follows = true
placed_by (Constraint k) s force follows = true
placed_by Supplier s force follows = not (eqb s force) && follows

unfoldable pub placed : Entry → ℕ → Bool → Bool
placed e force follows = placed_by e.kind e.a force follows

abbrev pub unless_placed : Bool → ℕ
unless_placed wellPlaced = cond wellPlaced 0 idle_supplier

-- whether an entry may stand there: 5, 6, 7 and 14, then 15, by whether it is well placed, then 3 and 4
unfoldable pub permitted : Entry → Bool → Tally → Said Entry
permitted e wellPlaced before = unless (no_room e.kind before) (unless (unless_placed wellPlaced) (misnaming e (offending e before)))

-- 1, kind not listed; 2, the body is cut short, behind 5, 6, 7 and 14. A refusal's place is counted from the kind byte.
unfoldable pub judged : Decoded → List ℕ → ℕ → Tally → Said Entry
judged Unknown body force before = refusing (refusal unlisted 0)
judged (Cut kind) body force before = unless (no_room kind before) (refusing (refusal cut_short 0))
judged (Full e) body force before = permitted e (placed e force (begins_row (drop (numbers_of e) body))) before

-- the entry whose kind byte is k, followed by these bytes, behind a supplier in force and so many others
unfoldable pub step_of : ℕ → List ℕ → ℕ → Tally → Said Entry
step_of k body force before = judged (decoded k body) body force before

-- the count with the entry that may stand there
unfoldable pub entered : Tally → Said Entry → Said Tally
entered before (answered e) = answered (one_more e.kind before)
entered before (refusing why) = refusing why

-- One entry and its bytes (01, "The table, byte by byte").
use Rattle.std.specs.Prelude.{ℕ, ◌+◌, max, Bool, cond, List, [], ◌∷◌, ◌++◌, length, take, drop, leb, eqb}
use Rattle.belnap.specs.declared.Decision.TheVariants.{U}
use Rattle.kinds.specs.declared.RowKind.TheVariants.{Always}
use Rattle.kinds.specs.declared.Kind.{Kind}
use Rattle.kinds.specs.declared.ConstraintKind.TheVariants.{NeverBoth}
use Rattle.kinds.specs.declared.Kind.TheVariants.{Row, Constraint, Supplier}
use Rattle.kinds.specs.declared.Names.{Names}
use Rattle.kinds.specs.declared.Names.TheVariants.{Nothing, Predicates, Rows, Questions, Suppliers}
use Rattle.entries.specs.declared.Entry.{Entry}
use Rattle.kinds.specs.Kinds.{form_of}

-- "Every number in a body is one byte."
abbrev pub number_limit : ℕ
number_limit = 256

-- how many numbers an entry has, and what they name
abbrev pub numbers_of : Entry → ℕ
numbers_of e = (form_of e.kind).numbers

abbrev pub names_of : Entry → Names
names_of e = (form_of e.kind).names

-- the numbers that it has
abbrev pub numbers_in : Entry → List ℕ
numbers_in e = take (numbers_of e) (e.a ∷ e.b ∷ [])

-- "Where both numbers in a body are equal" (02, L3): asked of an entry that has two
abbrev pub equal_numbers : Entry → Bool
equal_numbers e = eqb e.a e.b

-- "An entry is one byte of kind, then a body whose length the kind fixes."
unfoldable pub bytes_of : Entry → List ℕ
bytes_of e = (form_of e.kind).byte ∷ numbers_in e

-- how many bytes it has, and at most
abbrev pub size_of : Entry → ℕ
size_of e = length (bytes_of e)

abbrev pub size_limit : ℕ
size_limit = 3

-- how many bytes of a body belong to an entry of a kind
abbrev pub body_size : Kind → ℕ
body_size kind = (form_of kind).numbers

-- how many bytes a constraint has, of either kind
abbrev pub constraint_size : ℕ
constraint_size = body_size (Constraint NeverBoth) + 1

-- and how many a 60 has
abbrev pub supplier_size : ℕ
supplier_size = body_size Supplier + 1

-- what stands past the end of a list of entries: always u
abbrev pub blank : Entry
blank = record { kind = Row (Always U); a = 0; b = 0 }

-- one more than the predicate that a number is, by what it names; 0 if it names none
abbrev pub used_by : Names → ℕ → ℕ
used_by Nothing a = 0
used_by Predicates a = a + 1
used_by Rows a = 0
used_by Questions a = 0
used_by Suppliers a = 0

-- one more than the highest predicate that an entry uses; 0 if it uses none
abbrev pub highest_of : Names → List ℕ → ℕ
highest_of names [] = 0
highest_of names (x ∷ more) = max (used_by names x) (highest_of names more)

abbrev pub uses : Entry → ℕ
uses e = highest_of (names_of e) (numbers_in e)

-- bytes written onto the front of an output, where they fit
unfoldable pub onto : List ℕ → List ℕ → List ℕ
onto bytes out = cond (leb (length bytes) (length out)) (bytes ++ drop (length bytes) out) out

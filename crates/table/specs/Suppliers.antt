-- Whose rows are (02, L6): entry 60, and rows with the 60s that their suppliers need.
use Rattle.std.specs.Prelude.{ℕ, cond, List, [], ◌∷◌, ◌++◌, eqb}
use Rattle.kinds.specs.declared.Kind.{Kind}
use Rattle.kinds.specs.declared.Kind.TheVariants.{Row, Question, Constraint, Supplier}
use Rattle.entries.specs.declared.Entry.{Entry}

-- "Each row gets a supplier number, 0 unless …"
abbrev pub no_supplier : ℕ
no_supplier = 0

-- "entry 60 with one byte"
abbrev pub supplying : ℕ → Entry
supplying s = record { kind = Supplier; a = s; b = 0 }

-- "a 60 only where the supplier changes": what stands before a row of supplier s, by the supplier in force
abbrev pub change : ℕ → ℕ → List Entry
change force s = cond (eqb s force) [] (supplying s ∷ [])

-- rows and their suppliers, one each, behind a supplier in force
unfoldable pub marked : ℕ → List ℕ → List Entry → List Entry
marked force ss [] = []
marked force [] (e ∷ es) = e ∷ marked force [] es
marked force (s ∷ ss) (e ∷ es) = change force s ++ (e ∷ marked s ss es)

-- "it holds until the next 60": the supplier in force behind an entry of a kind, whose first number may name one
abbrev pub force_behind : Kind → ℕ → ℕ → ℕ
force_behind (Row k) force a = force
force_behind (Question k) force a = force
force_behind (Constraint k) force a = force
force_behind Supplier force a = a

-- and behind rows with these suppliers
unfoldable pub last_of : ℕ → List ℕ → ℕ
last_of force [] = force
last_of force (s ∷ ss) = last_of s ss

-- A rule has a clause at each number below their count, and it has the literals that the rule names there.
-- Assumes nothing.
use mathlib.Core.Path.{◌≡◌, refl}
use mathlib.Core.List.{List, [], ◌∷◌}
use Prim.Native.Nat.{ℕ, zero, suc, ◌<◌}
use native.Mathlib.Omega.{arith}
use lib.ListN.{length, get_or}
use Rattle.std.specs.Prelude.{Option, Some}
use Rattle.clauses.specs.declared.Literal.{Literal}
use Rattle.clauses.specs.declared.Clause.{Clause}
use Rattle.clauses.specs.declared.Clause.TheVariants.{One, Two, Three}
use Rattle.clauses.specs.declared.Rule.{Rule}
use Rattle.clauses.specs.declared.Rule.TheVariants.{Only, Either, Same, And, AndOr, OrAndOr}
use Rattle.clauses.specs.Rules.{clauses_of, shown_clause, literals_in}

abbrev Shown : List Literal → Type 0
Shown literals = (clause : Clause) × (shown_clause literals ≡ Some clause) × (literals_in clause ≡ literals)

one : (a : Literal) → Shown (a ∷ [])
one a = (One a, refl, refl)

two : (a b : Literal) → Shown (a ∷ b ∷ [])
two a b = (Two a b, refl, refl)

three : (a b c : Literal) → Shown (a ∷ b ∷ c ∷ [])
three a b c = (Three a b c, refl, refl)

-- so of each of some clauses, and of one of them
abbrev Each : List (List Literal) → Type 0
Each [] = Unit {0}
Each (c ∷ cs) = Shown c × Each cs

each_at : (cs : List (List Literal)) (i : ℕ) → i < length cs → Each cs → Shown (get_or cs i [])
each_at [] i h e = absurd (omega arith)
each_at (c ∷ cs) zero h e = e.0
each_at (c ∷ cs) (suc i) h e = each_at cs i (omega arith) e.1

all_shown : (rule : Rule) → Each (clauses_of rule)
all_shown (Only t) = (one _, tt)
all_shown (Either a b) = (two _ _, tt)
all_shown (Same t a) = (two _ _, (two _ _, tt))
all_shown (And t a b) = (two _ _, (two _ _, (three _ _ _, tt)))
all_shown (AndOr t a b c) = (two _ _, (three _ _ _, (three _ _ _, (three _ _ _, tt))))
all_shown (OrAndOr t a b c d) = (three _ _ _, (three _ _ _, (three _ _ _, (three _ _ _, (three _ _ _, (three _ _ _, tt))))))

module _ (rule : Rule) (i : ℕ) (h : i < length (clauses_of rule)) where
  at : Shown (get_or (clauses_of rule) i [])
  at = each_at (clauses_of rule) i h (all_shown rule)

  pub lists : (clause : Clause) → Some clause ≡ shown_clause (get_or (clauses_of rule) i []) → literals_in clause ≡ get_or (clauses_of rule) i []
  lists clause q = let same : clause ≡ at.0 = cc (q, at.1) in rw same at.2

  pub not_none : Option.None ≡ shown_clause (get_or (clauses_of rule) i []) → ⊥
  not_none q = cc (q, at.1)

-- What a caller of `accept` knows: where it gives a table, this stands for contents that keep the rules; where it does not, the refusal is reading's own.
-- Assumes nothing.
use mathlib.Core.Path.{◌≡◌, refl, sym, ap, ◌∙◌}
use mathlib.Core.List.{List}
use Prim.Native.Nat.{ℕ}
use Rattle.std.specs.Prelude.{Result, Ok, Err}
use Rattle.belnap.proofs.Finite.{never}
use Rattle.table.specs.declared.Table.{Table}
use Rattle.entries.specs.declared.refusals.Refusal.{Refusal as Coded}
use Rattle.entries.specs.Said.{Said, answered, refusing, told, said}
use Rattle.table.specs.Contents.{Contents}
use Rattle.table.specs.Reading.{reading, table_of, tabled}
use Rattle.table.proofs.Writing.{Whole, of_accepted}

-- a table that was read
pub record Opened (s : List ℕ) (t : Table) : Type 0 where
  pub contents : Contents
  pub is : reading s ≡ answered contents
  pub table : t ≡ table_of contents
  pub whole : Whole contents

pub opened : (s : List ℕ) (r : Result Table Coded) (t : Table) → said r ≡ tabled (reading s) → r ≡ Ok t → Opened s t
opened s r t q e = go (reading s) refl (sym (ap said e) ∙ q)
  where
    go : (x : Said Contents) → reading s ≡ x → answered t ≡ tabled x → Opened s t
    go (answered c) is same = record { contents = c; is = is; table = cc; whole = (of_accepted s c is).0 }
    go (refusing why) is same = never cc

-- a refusal is reading's own
pub turned : (s : List ℕ) (r : Result Table Coded) (why : Coded) → said r ≡ tabled (reading s) → r ≡ Err why → reading s ≡ refusing (told why)
turned s r why q e = go (reading s) refl (sym (ap said e) ∙ q)
  where
    go : (x : Said Contents) → reading s ≡ x → refusing (told why) ≡ tabled x → reading s ≡ refusing (told why)
    go (answered c) is same = never cc
    go (refusing other) is same = let one : told why ≡ other = cc in is ∙ ap refusing (sym one)

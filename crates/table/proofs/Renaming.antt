-- An entry with the rows that it names under new numbers: its size, its predicates, and that it keeps the rules where the new numbers do.
-- Each law goes by what the numbers name, at the first place and at the second.
-- Assumes nothing.
use mathlib.Core.Path.{◌≡◌, refl, sym, ap, ap₂, ◌∙◌}
use mathlib.Core.Bool.{Bool, true, false, cond, ◌&&◌}
use Prim.Native.Nat.{ℕ, ◌<◌, max}
use lib.Dec.{ltb}
use borrow.Author.Tests.{ltb-true, lt-ltb}
use Rattle.belnap.proofs.Finite.{never, both_parts}
use Rattle.kinds.specs.declared.Kind.{Kind}
use Rattle.kinds.specs.declared.Names.{Names}
use Rattle.kinds.specs.declared.Names.TheVariants.{Nothing, Predicates, Rows, Questions, Suppliers}
use Rattle.entries.specs.declared.Entry.{Entry}
use Rattle.table.specs.declared.steps.Tally.{Tally}
use Rattle.entries.specs.Entries.{numbers_of, names_of, size_of, used_by, uses}
use Rattle.table.specs.Steps.{limit, named_at, fits}
use Rattle.entries.specs.Renaming.{row_numbers, names_row, renamed}
use Rattle.entries.proofs.OneEntry.{few, size, used_by_both}
use Rattle.table.proofs.Permission.{fits_below}
use Rattle.table.proofs.Writing.{Sound}

module _ (new : ℕ → ℕ) where
  -- the size and the predicates stay
  pub renamed_size : (e : Entry) → size_of (renamed new e) ≡ size_of e
  renamed_size e = size (renamed new e) ∙ sym (size e)

  pub renamed_uses : (e : Entry) → uses (renamed new e) ≡ uses e
  renamed_uses e =
      let names = names_of e in
      let n = numbers_of e in
      let both = renamed new e in
      sym (used_by_both names n both.a both.b (few e.kind))
      ∙ ap₂ max (ap (λ (u : ℕ). cond (ltb 0 n) u 0) (go names (ltb 0 n) e.a)) (ap (λ (u : ℕ). cond (ltb 1 n) u 0) (go names (ltb 1 n) e.b))
      ∙ used_by_both names n e.a e.b (few e.kind)
    where
      go : (names : Names) (there : Bool) (x : ℕ) → used_by names (cond (row_numbers names && there) (new x) x) ≡ used_by names x
      go Nothing there x = refl
      go Predicates there x = refl
      go Rows there x = refl
      go Questions there x = refl
      go Suppliers there x = refl

  -- one number: it is below its limit, and 0 where it is not there
  number_named : (names : Names) (n i x : ℕ) (before after : Tally) → before.questions ≡ after.questions →
      ((row_numbers names && ltb i n) ≡ true → x < before.rows → new x < after.rows) →
      named_at n (limit names before) i x ≡ true → named_at n (limit names after) i (cond (row_numbers names && ltb i n) (new x) x) ≡ true
  number_named Nothing n i x before after q f h = h
  number_named Predicates n i x before after q f h = h
  number_named Rows n i x before after q f h = go (ltb i n) f h
    where
      go : (there : Bool) → (there ≡ true → x < before.rows → new x < after.rows) → cond there (ltb x before.rows) true ≡ true →
          cond there (ltb (cond there (new x) x) after.rows) true ≡ true
      go true f h = lt-ltb _ _ (f refl (ltb-true _ _ h))
      go false f h = refl
  number_named Questions n i x before after q f h = rw q at h
  number_named Suppliers n i x before after q f h = h

  number_tidy : (rows there : Bool) (x : ℕ) → x ≡ cond there x 0 → cond (rows && there) (new x) x ≡ cond there (cond (rows && there) (new x) x) 0
  number_tidy rows true x h = refl
  number_tidy true false x h = h
  number_tidy false false x h = h

  -- an entry that keeps the rules still does, if each row that it names is named under a number that is below the new limit
  pub renamed_sound : (part : Kind → Bool) (before after : Tally) → before.questions ≡ after.questions → (e : Entry) →
      (names_row 0 e ≡ true → e.a < before.rows → new e.a < after.rows) →
      (names_row 1 e ≡ true → e.b < before.rows → new e.b < after.rows) → Sound part before e → Sound part after (renamed new e)
  renamed_sound part before after q e f g h =
      let n = numbers_of e in
      let parts = both_parts (fits e before 0 e.a) (fits e before 1 e.b) h.names in
      record {
        in_part = h.in_part;
        names = ap₂ ◌&&◌ (number_named (names_of e) n 0 e.a before after q f parts.0) (number_named (names_of e) n 1 e.b before after q g parts.1);
        tidy = record {
          first = number_tidy (row_numbers (names_of e)) (ltb 0 n) e.a h.tidy.first;
          second = number_tidy (row_numbers (names_of e)) (ltb 1 n) e.b h.tidy.second;
        };
      }

-- a row that an entry names is one that it may name
named_below : (names : Names) (n i x : ℕ) (before : Tally) → (row_numbers names && ltb i n) ≡ true →
    named_at n (limit names before) i x ≡ true → x < before.rows
named_below Nothing n i x before e h = never (sym e)
named_below Predicates n i x before e h = never (sym e)
named_below Rows n i x before e h = fits_below n before.rows i x h (ltb-true i n e)
named_below Questions n i x before e h = never (sym e)
named_below Suppliers n i x before e h = never (sym e)

module _ {part : Kind → Bool} {before : Tally} (e : Entry) (h : Sound part before e) where
  both_fit : (fits e before 0 e.a ≡ true) × (fits e before 1 e.b ≡ true)
  both_fit = both_parts (fits e before 0 e.a) (fits e before 1 e.b) h.names

  pub first_below : names_row 0 e ≡ true → e.a < before.rows
  first_below t = named_below (names_of e) (numbers_of e) 0 e.a before t both_fit.0

  pub second_below : names_row 1 e ≡ true → e.b < before.rows
  second_below t = named_below (names_of e) (numbers_of e) 1 e.b before t both_fit.1

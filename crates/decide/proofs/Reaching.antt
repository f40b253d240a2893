-- Laws of reach over rows (02, L6): it goes step by step over the rows named, more steps than a row's number reach no more where rows name only lower rows,
-- and it is kept under new numbers.
-- Assumes nothing.
use mathlib.Core.Path.{◌≡◌, refl, sym, ap, ap₂, ◌∙◌}
use mathlib.Core.Bool.{Bool, true, false, cond, ◌||◌, or-false}
use mathlib.Core.List.{List, [], ◌∷◌}
use Prim.Native.Nat.{ℕ, zero, suc, ◌≤◌, ◌<◌}
use native.Mathlib.Omega.{arith}
use lib.ListN.{length, get_or, get_or-eq_default}
use lib.Dec.{eqb}
use borrow.Author.Tests.{eqb-true, eq-eqb}
use Rattle.belnap.proofs.Finite.{never, or_left, or_right, or_part}
use Rattle.entries.specs.declared.Entry.{Entry}
use Rattle.entries.specs.Lists.{some}
use Rattle.entries.specs.Refusals.{is_among}
use Rattle.entries.specs.Entries.{blank}
use Rattle.entries.specs.Renaming.{renamed}
use Rattle.entries.proofs.Numbers.{by_order}
use Rattle.table.specs.Contents.{Contents}
use Rattle.table.proofs.Writing.{each_get, Whole, RowAt}
use Rattle.table.proofs.Renaming.{first_below, second_below}
use Rattle.decide.specs.Reach.{rows_named, reaches_within, reaches_row, NameLower}
use Rattle.decide.proofs.Among.{some_in, found_in, first_named, second_named, named_by, named_kept}
use Rattle.decide.proofs.Renaming.{same_entry, Named, same_number, Renames}

-- itself in no step, and what is reached in some steps is reached in more
pub reaches_itself : (n : ℕ) (rows : List Entry) (r : ℕ) → reaches_within n rows r r ≡ true
unfolding reaches_within
reaches_itself zero rows r = eq-eqb r r refl
reaches_itself (suc n) rows r = or_left (eqb r r) _ (eq-eqb r r refl)

more_steps : (n m : ℕ) (rows : List Entry) (r i : ℕ) → n ≤ m → reaches_within n rows r i ≡ true → reaches_within m rows r i ≡ true
unfolding reaches_within
more_steps zero zero rows r i h e = e
more_steps zero (suc m) rows r i h e = or_left (eqb i r) _ e
more_steps (suc n) zero rows r i h e = absurd (omega arith)
more_steps (suc n) (suc m) rows r i h e =
    let l = rows_named (get_or rows r blank) in
    or_part (eqb i r) _ e (or_left (eqb i r) _)
    (λ e. or_right (eqb i r) _ (found_in _ l e (λ a named k. some_in _ l a named (more_steps n m rows a i (omega arith) k))))

-- a row reaches what a lower row that it names reaches
pub first_step : (rows : List Entry) (r a i : ℕ) → is_among (rows_named (get_or rows r blank)) a ≡ true → a < r → reaches_row rows a i ≡ true →
    reaches_row rows r i ≡ true
unfolding reaches_within
first_step rows zero a i named h e = absurd (omega arith)
first_step rows (suc r) a i named h e =
    or_right (eqb i (suc r)) _ (some_in _ (rows_named (get_or rows (suc r) blank)) a named (more_steps a r rows a i (omega arith) e))

-- and, in one step more, what a row that it reaches names
one_more : (n : ℕ) (rows : List Entry) (r k a : ℕ) → reaches_within n rows r k ≡ true → is_among (rows_named (get_or rows k blank)) a ≡ true →
    reaches_within (suc n) rows r a ≡ true
unfolding reaches_within
one_more zero rows r k a e named =
    or_right (eqb a r) _ (some_in _ (rows_named (get_or rows r blank)) a (rw (eqb-true k r e) at named) (eq-eqb a a refl))
one_more (suc n) rows r k a e named =
    let l = rows_named (get_or rows r blank) in
    or_right (eqb a r) _ (or_part (eqb k r) _ e
    (λ q. some_in _ l a (rw (eqb-true k r q) at named) (reaches_itself (suc n) rows a))
    (λ e. found_in _ l e (λ b first e. some_in _ l b first (one_more n rows b k a e named))))

-- rows with r among them, closed under naming, have among them all that r reaches
pub closed : (P : ℕ → Type 0) (rows : List Entry) → ((k a : ℕ) → P k → is_among (rows_named (get_or rows k blank)) a ≡ true → P a) →
    (n r i : ℕ) → P r → reaches_within n rows r i ≡ true → P i
unfolding reaches_within
closed P rows step zero r i p e = rw (eqb-true i r e) p
closed P rows step (suc n) r i p e =
    or_part (eqb i r) _ e (λ q. rw (eqb-true i r q) p)
    (λ e. found_in _ (rows_named (get_or rows r blank)) e (λ a named k. closed P rows step n a i (step r a p named) k))

-- where nothing is behind it, a step adds nothing
no_step : (p : Bool) (l : List ℕ) → (p || some (λ a. false) l) ≡ p
no_step p [] = or-false p
no_step p (a ∷ l) = no_step p l

-- rows under new numbers
module _ {new : ℕ → ℕ} {Kept : ℕ → Type 0} {rows fresh : List Entry} (r : Renames new Kept rows fresh) where
  -- one step, where what is behind it is kept
  step_kept : (i x : ℕ) → Kept i → Kept x → (f g : ℕ → Bool) → ((a : ℕ) → Named new Kept i a → f (new a) ≡ g a) →
      (eqb (new x) (new i) || some f (rows_named (get_or fresh (new i) blank))) ≡ (eqb x i || some g (rows_named (get_or rows i blank)))
  step_kept i x k l f g h =
      let s = r.stands i k in
      ap₂ ◌||◌ (same_number r.apart x i l k)
      (ap (λ (e : Entry). some f (rows_named e)) s.there
      ∙ named_kept new (get_or rows i blank) f g (λ t. h _ (s.first t)) (λ t. h _ (s.second t)))

  -- each step goes to a lower row, before and after, so it does not matter how many more there are
  steps_kept : (n m i x : ℕ) → Kept i → Kept x → i ≤ n → new i ≤ m → reaches_within m fresh (new i) (new x) ≡ reaches_within n rows i x
  unfolding reaches_within
  steps_kept zero zero i x k l h g = same_number r.apart x i l k
  steps_kept zero (suc m) i x k l h g =
      step_kept i x k l _ (λ a. false) (λ a named. absurd (omega (arith, named.lower))) ∙ no_step (eqb x i) (rows_named (get_or rows i blank))
  steps_kept (suc n) zero i x k l h g =
      sym (no_step (eqb (new x) (new i)) (rows_named (get_or fresh (new i) blank)))
      ∙ step_kept i x k l (λ a. false) _ (λ a named. absurd (omega (arith, named.still)))
  steps_kept (suc n) (suc m) i x k l h g =
      step_kept i x k l _ _
      (λ a named. steps_kept n m a x named.kept l (omega (arith, named.lower)) (omega (arith, named.still)))

  pub reach_kept : (i x : ℕ) → Kept i → Kept x → reaches_row fresh (new i) (new x) ≡ reaches_row rows i x
  reach_kept i x k l = steps_kept i (new i) i x k l (omega arith) (omega arith)

  -- a row that is kept reaches only such, none above it, before and after
  pub reached_kept : (i x : ℕ) → Kept i → reaches_row rows i x ≡ true → Kept x × (x ≤ i)
  reached_kept i x k = closed Old rows step i i x (k, omega arith)
    where
      Old : ℕ → Type 0
      Old x = Kept x × (x ≤ i)

      step : (j a : ℕ) → Old j → is_among (rows_named (get_or rows j blank)) a ≡ true → Old a
      step j a p =
          let s = r.stands j p.0 in
          let old : (a : ℕ) → Named new Kept j a → Old a = λ a n. (n.kept, omega (arith, n.lower, p.1)) in
          named_by Old (get_or rows j blank) (λ t. old _ (s.first t)) (λ t. old _ (s.second t)) a

  -- a new number, not above that of row i, of a row that is kept
  abbrev pub New : ℕ → ℕ → Type 0
  New i y = (x : ℕ) × Kept x × (new x ≡ y) × (y ≤ new i)

  pub reached_new : (i y : ℕ) → Kept i → reaches_row fresh (new i) y ≡ true → New i y
  reached_new i y k = closed (New i) fresh step (new i) (new i) y (i, k, refl, omega arith)
    where
      step : (j a : ℕ) → New i j → is_among (rows_named (get_or fresh j blank)) a ≡ true → New i a
      step j a p named =
          let e = get_or rows p.0 blank in
          let s = r.stands p.0 p.1 in
          let now : (named : Bool) (x : ℕ) → named ≡ true → Named new Kept p.0 x → New i (cond named (new x) x) =
          λ named x t n. rw t (x, n.kept, refl, omega (arith, n.still, p.2, p.3)) in
          named_by (New i) (renamed new e) (λ t. now _ e.a t (s.first t)) (λ t. now _ e.b t (s.second t))
          a (rw (sym p.2, s.there) at named)

-- rows that name only lower rows stand, under their own numbers, in every list that shows the same rows
module _ (rows : List Entry) (low : NameLower rows) where
  own_number : (i a : ℕ) → is_among (rows_named (get_or rows i blank)) a ≡ true → Named (λ x. x) (λ x. Unit) i a
  own_number i a named = record { kept = tt; lower = low i a named; still = low i a named }

  pub as_shown : (fresh : List Entry) → ((i : ℕ) → get_or fresh i blank ≡ get_or rows i blank) → Renames (λ x. x) (λ x. Unit) rows fresh
  as_shown fresh same = record {
    stands = λ i k.
        let e = get_or rows i blank in
        record {
          there = same i ∙ sym (same_entry e);
          first = λ t. own_number i e.a (first_named e t);
          second = λ t. own_number i e.b (second_named e t);
        };
    apart = λ x y k l e. e;
  }

  pub lower_shown : (fresh : List Entry) → ((i : ℕ) → get_or fresh i blank ≡ get_or rows i blank) → NameLower fresh
  lower_shown fresh same i a named = low i a (rw (same i) at named)

  -- as many steps as a row's number are enough
  pub enough_steps : (n r i : ℕ) → r ≤ n → reaches_within n rows r i ≡ reaches_row rows r i
  enough_steps n r i h = steps_kept (as_shown rows (λ i. refl)) r n r i tt tt (omega arith) h

  -- a row reaches no row above it, and what each row that it reaches names
  pub not_above : (r i : ℕ) → reaches_row rows r i ≡ true → i ≤ r
  not_above r i e = (reached_kept (as_shown rows (λ i. refl)) r i tt e).1

  pub last_step : (r k a : ℕ) → reaches_row rows r k ≡ true → is_among (rows_named (get_or rows k blank)) a ≡ true → reaches_row rows r a ≡ true
  last_step r k a e named = sym (enough_steps (suc r) r a (omega arith)) ∙ one_more r rows r k a e named

-- a table that keeps the rules has such rows
pub whole_lower : (c : Contents) → Whole c → NameLower c.rows
whole_lower c w i =
    let e = get_or c.rows i blank in
    by_order i (length c.rows)
    (λ h.
    let sound = each_get (RowAt (length c.constraints)) c.rows blank w.rows_sound i h in
    named_by (λ a. a < i) e (first_below e sound) (second_below e sound))
    (λ h a named. never (sym (rw (get_or-eq_default c.rows blank h) at named)))

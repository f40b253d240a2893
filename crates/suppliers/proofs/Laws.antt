-- The list of suppliers (02, L6): it holds the suppliers of the rows that are reached and no others, it rises, and so holds each once; and it is kept under
-- new numbers, as reach is.
-- Assumes nothing.
use mathlib.Core.Path.{◌≡◌, sym, ap, ◌∙◌}
use mathlib.Core.Bool.{Bool, true}
use mathlib.Core.List.{List}
use Prim.Native.Nat.{ℕ, suc, ◌≤◌, ◌<◌}
use native.Mathlib.Omega.{arith}
use lib.ListN.{length, get_or}
use borrow.Author.Tests.{eqb-true, eq-eqb, lt-leb, le-leb}
use Rattle.belnap.proofs.Finite.{both_ways}
use Rattle.entries.specs.declared.Entry.{Entry}
use Rattle.entries.specs.Refusals.{is_among}
use Rattle.entries.specs.Entries.{number_limit}
use Rattle.decide.specs.Reach.{reaches_row, rows_reached, NameLower, passing}
use Rattle.decide.proofs.Among.{some_in, found_in, passing_in, passing_of}
use Rattle.decide.proofs.Renaming.{Renames}
use Rattle.decide.proofs.Reaching.{as_shown, lower_shown, whole_lower, not_above, reach_kept, reached_kept, reached_new}
use Rattle.suppliers.specs.Suppliers.{supplier_at, supplies, suppliers_of, list_of, flag, Shows}
use Rattle.table.specs.declared.Table.{Table}
use Rattle.std.specs.Prelude.{Result, Ok, Err}
use Rattle.entries.specs.declared.refusals.Refusal.{Refusal}
use Rattle.entries.specs.Refusals.{not_there}
use Rattle.entries.specs.Said.{answered, refusing, refusal, told, said}
use Rattle.entries.specs.Entries.{blank}
use Rattle.table.specs.Steps.{row_limit}
use Rattle.table.specs.Suppliers.{no_supplier}
use Rattle.table.specs.Reading.{reading, table_of, tabled}
use Rattle.table.proofs.Padding.{padded_at}
use Rattle.table.proofs.Opening.{opened, turned}
use Rattle.entries.proofs.Sending.{sends_none, sends_short, sends_all}
use Rattle.suppliers.proofs.Listing.{passing_same, rises}

-- a row that is reached, and the supplier that it has
abbrev pub Reached : List Entry → List ℕ → ℕ → ℕ → Type 0
Reached rows suppliers r s = (i : ℕ) × (reaches_row rows r i ≡ true) × (s ≡ supplier_at suppliers i)

module _ (rows : List Entry) (suppliers : List ℕ) (r s : ℕ) where
  supplies_of : supplies rows suppliers r s ≡ true → Reached rows suppliers r s
  supplies_of e =
      found_in _ (rows_reached rows r) e (λ i l q. (i, (passing_of (suc r) (reaches_row rows r) i l).1, eqb-true s (supplier_at suppliers i) q))

  supplies_in : (reached : Reached rows suppliers r s) → reached.0 ≤ r → supplies rows suppliers r s ≡ true
  supplies_in (i, e, q) h = some_in _ (rows_reached rows r) i (passing_in (suc r) (reaches_row rows r) i (omega arith) e) (eq-eqb s (supplier_at suppliers i) q)

  -- "the suppliers of all rows a row reaches, itself included": no others, and all of them
  pub listed_reached : is_among (suppliers_of rows suppliers r) s ≡ true → (s < number_limit) × Reached rows suppliers r s
  listed_reached e = let h = passing_of number_limit (supplies rows suppliers r) s e in (h.0, supplies_of h.1)

  pub reached_listed : NameLower rows → s < number_limit → Reached rows suppliers r s → is_among (suppliers_of rows suppliers r) s ≡ true
  reached_listed low h reached =
      passing_in number_limit (supplies rows suppliers r) s h (supplies_in reached (not_above rows low r reached.0 reached.1))

-- "each once, rising"
pub suppliers_rise : (rows : List Entry) (suppliers : List ℕ) (r i j : ℕ) → let l = suppliers_of rows suppliers r in
    i < j → j < length l → get_or l i 0 < get_or l j 0
suppliers_rise rows suppliers r = rises (supplies rows suppliers r) number_limit

-- rows under new numbers, each with the supplier that it had
pub suppliers_kept : {new : ℕ → ℕ} {Kept : ℕ → Type 0} {rows fresh : List Entry} → Renames new Kept rows fresh → (suppliers later : List ℕ) →
    ((i : ℕ) → Kept i → supplier_at later (new i) ≡ supplier_at suppliers i) → (i : ℕ) → Kept i →
    suppliers_of fresh later (new i) ≡ suppliers_of rows suppliers i
suppliers_kept {new} {Kept} {rows} {fresh} r suppliers later same i k =
    passing_same number_limit (supplies fresh later (new i)) (supplies rows suppliers i)
    (λ s l. both_ways (supplies fresh later (new i) s) (supplies rows suppliers i s) (before s) (after s))
  where
    before : (s : ℕ) → supplies fresh later (new i) s ≡ true → supplies rows suppliers i s ≡ true
    before s e =
        let was = supplies_of fresh later (new i) s e in
        let from = reached_new r i was.0 k was.1 in
        let x = from.0 in
        let reached = sym (reach_kept r i x k from.1) ∙ ap (reaches_row fresh (new i)) from.2 ∙ was.1 in
        supplies_in rows suppliers i s (x, reached, was.2 ∙ ap (supplier_at later) (sym from.2) ∙ same x from.1) (reached_kept r i x k reached).1

    after : (s : ℕ) → supplies rows suppliers i s ≡ true → supplies fresh later (new i) s ≡ true
    after s e =
        let was = supplies_of rows suppliers i s e in
        let x = was.0 in
        let kept = (reached_kept r i x k was.1).0 in
        let reached = reach_kept r i x k kept ∙ was.1 in
        supplies_in fresh later (new i) s (new x, reached, was.2 ∙ sym (same x kept)) (reached_new r i (new x) k reached).3

-- a table that was read: what the code may ask of its struct, and the list of its row r, by flags that show the suppliers which the row reaches
pub record Listed (s : List ℕ) (t : Table) : Type 0 where
  pub few : t.tally.rows ≤ row_limit
  pub low : NameLower t.rows
  pub missing : (r : ℕ) → t.tally.rows ≤ r → list_of (reading s) r ≡ refusing (refusal not_there 0)
  pub there : (r : ℕ) (flags : List Bool) → r < t.tally.rows → Shows flags (supplies t.rows t.suppliers r) →
      list_of (reading s) r ≡ answered (passing number_limit (flag flags))

pub listed : (s : List ℕ) (r : Result Table Refusal) (t : Table) → said r ≡ tabled (reading s) → r ≡ Ok t → Listed s t
unfolding table_of list_of
listed s r t q e =
    let o = opened s r t q e in
    let c = o.contents in
    let u = table_of c in
    let low = whole_lower c o.whole in
    let row : (i : ℕ) → get_or u.rows i blank ≡ get_or c.rows i blank = padded_at blank row_limit c.rows in
    let owner : (i : ℕ) → get_or u.suppliers i no_supplier ≡ get_or c.suppliers i no_supplier = padded_at no_supplier row_limit c.suppliers in
    rw o.table (record {
      few = o.whole.rows_fit;
      low = lower_shown c.rows low u.rows row;
      missing = λ r h. rw (o.is, le-leb (length c.rows) r h);
      there = λ r flags h shows.
          rw (o.is, lt-leb (length c.rows) r h) (ap answered (sym (
          passing_same number_limit (flag flags) (supplies u.rows u.suppliers r) (λ i l. shows i)
          ∙ suppliers_kept (as_shown c.rows low u.rows row) c.suppliers u.suppliers (λ i k. owner i) r tt)));
    })

-- and one that was refused
pub not_listed : (s : List ℕ) (row : ℕ) (r : Result Table Refusal) (why : Refusal) → said r ≡ tabled (reading s) → r ≡ Err why →
    list_of (reading s) row ≡ refusing (told why)
unfolding list_of
not_listed s row r why q e = rw (turned s r why q e)

-- what `suppliers` is proved from
pub ruleset sending = (listed, not_listed, sends_none, sends_short, sends_all)

-- 02's L6, of the services' answers: what `pier_suppliers` writes are the suppliers of the rows that a row reaches, rising; and a table of rows and suppliers
-- has one encoding.
-- Assumes nothing.
use mathlib.Core.Path.{◌≡◌, refl, sym, ap, ◌∙◌}
use mathlib.Core.Bool.{true}
use mathlib.Core.List.{List}
use Prim.Native.Nat.{ℕ, ◌≤◌, ◌<◌}
use native.Mathlib.Omega.{arith}
use lib.ListN.{length, get_or, take, get_or-eq_default}
use lib.Dec.{leb}
use borrow.Author.Tests.{lt-ltb, le-leb, lt-leb}
use Rattle.entries.specs.Refusals.{not_there, output_too_short, if_missing, is_among}
use Rattle.entries.specs.Said.{answered, refusing, refusal}
use Rattle.entries.specs.Output.{sent}
use Rattle.entries.specs.Entries.{number_limit}
use Rattle.entries.proofs.Numbers.{by_order}
use Rattle.entries.proofs.Saying.{unless_answered}
use Rattle.table.specs.Suppliers.{no_supplier, last_of}
use Rattle.table.specs.Contents.{Contents, encoded}
use Rattle.table.specs.Reading.{reading}
use Rattle.table.specs.Whole.{SupplierAt}
use Rattle.table.proofs.Writing.{each_get, of_accepted}
use Rattle.decide.specs.Reach.{reaches_row}
use Rattle.decide.proofs.Reaching.{whole_lower}
use Rattle.suppliers.specs.Suppliers.{supplier_at, suppliers_of, list_of}
use Rattle.suppliers.proofs.Laws.{Reached, listed_reached, reached_listed, suppliers_rise}
use Rattle.pierstride.specs.Services.{written_of, says_suppliers, suppliers_answer, suppliers_output}
use Rattle.pierstride.specs.Demands.{Wrote}
use Rattle.pierstride.proofs.FirstDemand.{suppliers_tells}
use Rattle.pierstride.proofs.WrittenTables.{wrote, had}

-- of an accepted table: 8 where the row is not there, else 11 where the output is shorter than the list, else the list is written
module _ (s : List ℕ) (c : Contents) (is : reading s ≡ answered c) (r : ℕ) (out : List ℕ) where
  pub list_missing : length c.rows ≤ r → suppliers_answer s r out ≡ written_of (refusing (refusal not_there 0))
  unfolding list_of sent
  list_missing h = rw (is, le-leb (length c.rows) r h)

  there : r < length c.rows → says_suppliers s r ≡ answered (suppliers_of c.rows c.suppliers r)
  unfolding list_of
  there h = rw (is, lt-leb (length c.rows) r h)

  pub list_too_short : r < length c.rows → length out < length (suppliers_of c.rows c.suppliers r) →
      suppliers_answer s r out ≡ written_of (refusing (refusal output_too_short 0))
  unfolding sent
  list_too_short h l = rw (there h, lt-ltb (length out) (length (suppliers_of c.rows c.suppliers r)) l)

  pub list_given : r < length c.rows → length (suppliers_of c.rows c.suppliers r) ≤ length out →
      Wrote (suppliers_of c.rows c.suppliers r) out (suppliers_answer s r out) (suppliers_output s r out)
  list_given h l = wrote (says_suppliers s r) out (suppliers_of c.rows c.suppliers r) (there h) l

-- "lists the suppliers of all rows a row reaches, itself included, each once, rising": of whatever was written
module _ (s : List ℕ) (r : ℕ) (out : List ℕ) (done : (suppliers_answer s r out).refusal ≡ 0) where
  -- the bytes that were written
  abbrev pub list : List ℕ
  list = take (suppliers_answer s r out).length (suppliers_output s r out)

  list_had : (bytes : List ℕ) × (says_suppliers s r ≡ answered bytes) × Wrote bytes out (suppliers_answer s r out) (suppliers_output s r out)
  list_had =
      let told = (suppliers_tells s r out).answers done in
      let h = had (says_suppliers s r) out told.0 told.1 in
      (h.0, h.1, wrote (says_suppliers s r) out h.0 h.1 h.2)

  -- so many as the answer says, over the front; what was behind stays
  pub list_written : Wrote list out (suppliers_answer s r out) (suppliers_output s r out)
  list_written = let h = list_had in rw (← h.2.front) at h.2

  -- they are the row's list
  module _ (c : Contents) (is : reading s ≡ answered c) where
    list_is : list ≡ suppliers_of c.rows c.suppliers r
    unfolding list_of
    list_is =
        let h = list_had in
        let says = rw is at h.1 in
        let it = (unless_answered (if_missing (leb (length c.rows) r)) (answered (suppliers_of c.rows c.suppliers r)) h.0 says).1 in
        let same : suppliers_of c.rows c.suppliers r ≡ h.0 = cc it in
        h.2.front ∙ sym same

    -- a supplier is listed exactly if some row that is reached has it
    pub listed_means : (x : ℕ) → is_among list x ≡ true → Reached c.rows c.suppliers r x
    listed_means x e = (listed_reached c.rows c.suppliers r x (rw list_is at e)).1

    low : (i : ℕ) → supplier_at c.suppliers i < number_limit
    low i =
        by_order i (length c.suppliers)
        (each_get SupplierAt c.suppliers no_supplier (of_accepted s c is).0.suppliers_sound i)
        (λ h. rw (get_or-eq_default c.suppliers no_supplier h) (omega arith))

    pub listed_if : (i : ℕ) → reaches_row c.rows r i ≡ true → is_among list (supplier_at c.suppliers i) ≡ true
    listed_if i e =
        rw list_is (reached_listed c.rows c.suppliers r (supplier_at c.suppliers i) (whole_lower c (of_accepted s c is).0) (low i) (i, e, refl))

    pub list_rises : (i j : ℕ) → i < j → j < length list → get_or list i 0 < get_or list j 0
    list_rises i j h l = rw list_is (suppliers_rise c.rows c.suppliers r i j h (rw list_is at l))

-- a table of rows and suppliers has one encoding: two accepted tables with the same constraints, rows, suppliers and questions are the same bytes. That it has
-- one at all is `whole-accepted` (table/proofs/Writing.antt).
pub one_encoding : (s t : List ℕ) (c d : Contents) → reading s ≡ answered c → reading t ≡ answered d → c.constraints ≡ d.constraints →
    c.rows ≡ d.rows → c.suppliers ≡ d.suppliers → c.questions ≡ d.questions → s ≡ t
one_encoding s t c d is other constraints rows suppliers questions =
    let from = of_accepted s c is in
    let to = of_accepted t d other in
    let force : c.supplier ≡ d.supplier = from.0.settles ∙ ap (last_of no_supplier) suppliers ∙ sym to.0.settles in
    let same : c ≡ d = cc in
    sym from.1 ∙ ap encoded same ∙ to.1

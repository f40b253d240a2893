-- What `strike` may rest on once it has read a table: by the table's struct, what it has to answer, and what its output has to hold.
-- Assumes nothing.
use mathlib.Core.Path.{◌≡◌, refl, sym, ap, ◌∙◌}
use mathlib.Core.Bool.{true, false}
use mathlib.Core.List.{List, ◌++◌}
use Prim.Native.Nat.{ℕ, ◌+◌, ◌≤◌, ◌<◌}
use native.Mathlib.Omega.{arith}
use lib.ListN.{length, get_or, take, length-append}
use borrow.Author.Tests.{lt-ltb, le-ltb, le-leb, lt-leb}
use Rattle.table.specs.declared.Table.{Table}
use Rattle.std.specs.Prelude.{Result, Ok, Err}
use Rattle.entries.specs.declared.refusals.Refusal.{Refusal as Coded}
use Rattle.entries.specs.Refusals.{not_there, still_named, output_too_short}
use Rattle.entries.specs.Said.{answered, refusing, refusal, told, said}
use Rattle.entries.specs.Entries.{blank, size_of}
use Rattle.table.specs.Suppliers.{no_supplier, marked}
use Rattle.table.specs.Contents.{Contents, last_supplier, written, encoded}
use Rattle.table.specs.Reading.{reading, table_of, tabled, suppliers_in, contents_in, Full}
use Rattle.table.proofs.Writing.{written_parts, of_accepted}
use Rattle.table.proofs.Held.{first_at, table_full, contents_back, rows_count, one_each}
use Rattle.table.proofs.Opening.{Opened, opened, turned}
use Rattle.strike.specs.Strike.{without, struck, struck_bytes, mark_bytes, in_use, struck_answer, output_by, struck_output}
use Rattle.strike.proofs.Closing.{closed_bytes, lowered_bytes}
use Rattle.strike.proofs.Laws.{struck_each}
use Rattle.strike.proofs.Marks.{marked_length}
use Rattle.strike.proofs.Taken.{contents_taken}

-- how long a table is, part by part
parts_length : (c : Contents) → c.supplier ≡ last_supplier c → length c.suppliers ≡ length c.rows →
    length (encoded c)
    ≡ length (written c.constraints) + (length (written c.rows) + mark_bytes no_supplier c.suppliers + length (written c.questions))
parts_length c settles many =
    let constraints = written c.constraints in
    let rows = written (marked no_supplier c.suppliers c.rows) in
    let questions = written c.questions in
    omega (
      arith,
      ap length (written_parts c settles),
      length-append constraints (rows ++ questions),
      length-append rows questions,
      marked_length no_supplier c.suppliers c.rows many,
    )

-- the bytes to write are the table's, by its struct, but for the row's own and the 60s that go with it
pub struct_left : (t : Table) → Full t → (r marks : ℕ) → r < t.tally.rows →
    marks + mark_bytes no_supplier (without r (take t.tally.rows t.suppliers)) ≡ mark_bytes no_supplier (take t.tally.rows t.suppliers) →
    size_of (get_or t.rows r blank) + (marks + length (struck_bytes r (contents_in t))) ≡ length (encoded (contents_in t))
struct_left t f r marks h gone =
    let c = contents_in t in
    let d = struck r c in
    let u : r < length c.rows = rw (rows_count t) h in
    let own : size_of (get_or c.rows r blank) ≡ size_of (get_or t.rows r blank) = ap size_of (first_at blank t.rows t.tally.rows r h) in
    let owners : suppliers_in t ≡ take t.tally.rows t.suppliers = ap (λ (c : Contents). c.suppliers) (contents_taken t f) in
    omega (
      arith,
      rw (← owners) at gone,
      own,
      parts_length c refl (one_each t),
      parts_length d refl (struck_each r c (one_each t) u),
      closed_bytes r c.rows u,
      lowered_bytes r c.questions,
    )

-- a table that was read
pub record Strikes (s : List ℕ) (t : Table) : Type 0 where
  pub full : Full t
  pub missing : (r room : ℕ) → t.tally.rows ≤ r → struck_answer (reading s) r room ≡ refusing (refusal not_there 0)
  pub all : length s ≡ length (encoded (contents_in t))
  pub named : (r room : ℕ) → r < t.tally.rows → in_use r (contents_in t) ≡ true →
      struck_answer (reading s) r room ≡ refusing (refusal still_named 0)
  pub short : (r room : ℕ) → r < t.tally.rows → in_use r (contents_in t) ≡ false → room < length (struck_bytes r (contents_in t)) →
      struck_answer (reading s) r room ≡ refusing (refusal output_too_short 0)
  pub fits : (r room : ℕ) → r < t.tally.rows → in_use r (contents_in t) ≡ false → length (struck_bytes r (contents_in t)) ≤ room →
      struck_answer (reading s) r room ≡ answered (length (struck_bytes r (contents_in t)))
  pub output : (r : ℕ) (out : List ℕ) →
      struck_output (reading s) r out ≡ output_by (struck_answer (reading s) r (length out)) (struck_bytes r (contents_in t)) out

pub strikes : (s : List ℕ) (r : Result Table Coded) (t : Table) → said r ≡ tabled (reading s) → r ≡ Ok t → Strikes s t
unfolding table_of struck_answer struck_output
strikes s r t q e =
    let o = opened s r t q e in
    let c = o.contents in
    let w = o.whole in
    let back = contents_back c w in
    let bytes : (r : ℕ) → struck_bytes r (contents_in (table_of c)) ≡ struck_bytes r c = λ r. ap (struck_bytes r) back in
    rw o.table (record {
      full = table_full c w;
      missing = λ r room h. rw (o.is, le-leb (length c.rows) r h);
      all = sym (ap (λ (c : Contents). length (encoded c)) back ∙ ap length (of_accepted s c o.is).1);
      named = λ r room h n. rw (o.is, lt-leb (length c.rows) r h, rw back at n);
      short = λ r room h n l.
          rw (o.is, lt-leb (length c.rows) r h, rw back at n, lt-ltb room (length (struck_bytes r c)) (omega (arith, l, ap length (bytes r))));
      fits = λ r room h n l.
          rw (o.is, lt-leb (length c.rows) r h, rw back at n, le-ltb room (length (struck_bytes r c)) (omega (arith, l, ap length (bytes r))))
          (ap (λ (b : List ℕ). answered (length b)) (sym (bytes r)));
      output = λ r out. rw o.is (ap (λ (b : List ℕ). output_by (struck_answer (answered c) r (length out)) b out) (sym (bytes r)));
    })

-- so of the bytes that were read
pub bytes_left : {s : List ℕ} {t : Table} (o : Opened s t) (r : ℕ) → r < t.tally.rows → (marks : ℕ) →
    marks + mark_bytes no_supplier (without r (suppliers_in t)) ≡ mark_bytes no_supplier (suppliers_in t) →
    size_of (get_or t.rows r blank) + (marks + length (struck_bytes r (contents_in t))) ≡ length s
bytes_left {s} {t} o r h marks gone =
    let c = o.contents in
    let full : Full t = rw o.table (table_full c o.whole) in
    let owners : suppliers_in t ≡ take t.tally.rows t.suppliers = ap (λ (c : Contents). c.suppliers) (contents_taken t full) in
    let held : contents_in t ≡ c = rw o.table (contents_back c o.whole) in
    struct_left t full r marks h (rw owners at gone)
    ∙ ap (λ (c : Contents). length (encoded c)) held ∙ ap length (of_accepted s c o.is).1

-- and one that was refused
pub strikes_none : (s : List ℕ) (row room : ℕ) (r : Result Table Coded) (why : Coded) → said r ≡ tabled (reading s) → r ≡ Err why →
    struck_answer (reading s) row room ≡ refusing (told why)
unfolding struck_answer
strikes_none s row room r why q e = rw (turned s r why q e)

pub writes_none : (s : List ℕ) (row : ℕ) (out : List ℕ) (r : Result Table Coded) (why : Coded) → said r ≡ tabled (reading s) → r ≡ Err why →
    struck_output (reading s) row out ≡ out
unfolding struck_output
writes_none s row out r why q e = rw (turned s r why q e)

-- what `strike` is proved from
pub ruleset striking = (strikes, strikes_none, writes_none)

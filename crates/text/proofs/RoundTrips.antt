-- What 02's L2 promises of a table and its text: each accepted table has one text, which is read as the same bytes, and a text that is read at all is the one
-- that is written for these bytes. A refused text says which line is bad.
-- Assumes nothing.
use mathlib.Core.Path.{◌≡◌, refl, sym, ap, ◌∙◌}
use mathlib.Core.List.{List}
use Prim.Native.Nat.{ℕ}
use Rattle.entries.specs.declared.Entry.{Entry}
use Rattle.entries.specs.Said.{Said, answered, refusing, and_then}
use Rattle.entries.proofs.Saying.{not_both}
use Rattle.table.specs.Steps.{begins_row}
use Rattle.table.specs.Suppliers.{marked, last_of}
use Rattle.table.specs.Contents.{Contents, none, entries, written}
use Rattle.table.specs.Reading.{reading}
use Rattle.table.proofs.Writing.{of_accepted, none_whole, whole_open}
use Rattle.text.specs.Lines.{text_of}
use Rattle.text.specs.Texts.{spelled}
use Rattle.text.specs.Calls.{to_text, by_line, from_text}
use Rattle.text.specs.Inner.{said_from}
use Rattle.text.proofs.Judging.{ends}
use Rattle.text.proofs.OneText.{text_read, text_written, whole_plain}

-- the text of an accepted table, and the table that a text spells
record Texted (s text : List ℕ) : Type 0 where
  pub table : Contents
  pub reads : reading s ≡ answered table
  pub is : text_of (entries table) ≡ text

texted : (s text : List ℕ) → to_text s ≡ answered text → Texted s text
unfolding to_text
texted s text q = go (reading s) refl q
  where
    go : (x : Said Contents) → reading s ≡ x → and_then x (λ c. answered (text_of (entries c))) ≡ answered text → Texted s text
    go (answered c) r q = record { table = c; reads = r; is = cc }
    go (refusing why) r q = not_both (sym q)

record Read (text s : List ℕ) : Type 0 where
  pub all : List Entry
  pub spells : spelled text ≡ answered all
  pub table : Contents
  pub reads : reading (written all) ≡ answered table
  pub is : written all ≡ s

read : (text s : List ℕ) → from_text text ≡ answered s → Read text s
unfolding from_text
read text s q = go (spelled text) refl q
  where
    own : (es : List Entry) → spelled text ≡ answered es → (x : Said Contents) → reading (written es) ≡ x → by_line es x ≡ answered s →
        Read text s
    own es p (answered c) r q = record { all = es; spells = p; table = c; reads = r; is = cc }
    own es p (refusing why) r q = not_both (sym q)

    go : (x : Said (List Entry)) → spelled text ≡ x → and_then x (λ es. by_line es (reading (written es))) ≡ answered s → Read text s
    go (answered es) p q = own es p (reading (written es)) refl q
    go (refusing why) p q = not_both (sym q)

-- "reading the text gives the same bytes"
pub text_read_back : (s text : List ℕ) → to_text s ≡ answered text → from_text text ≡ answered s
unfolding from_text spelled said_from
text_read_back s text q =
    let t = texted s text q in
    let a = of_accepted s t.table t.reads in
    let spells : spelled text ≡ answered (entries t.table) =
    ap spelled (sym t.is) ∙ text_read (entries t.table) (whole_plain t.table a.0) 1 in
    rw spells (ap (by_line (entries t.table)) (ap reading a.1 ∙ t.reads) ∙ ap answered a.1)

-- "a text that reads at all is the one the writer gives"
pub text_written_back : (text s : List ℕ) → from_text text ≡ answered s → to_text s ≡ answered text
unfolding to_text written marked last_of
text_written_back text s q =
    let r = read text s q in
    let w = text_written text r.all r.spells in
    let same : entries r.table ≡ r.all = rw r.reads at (ends r.all none (whole_open none (begins_row (written r.all)) none_whole) w.1) in
    rw (← r.is, r.reads) (ap answered (ap text_of same ∙ sym w.0))

-- "Every accepted table has exactly one text": it has one, and two texts that are read as one table are the same
pub has_text : (s : List ℕ) (c : Contents) → reading s ≡ answered c → to_text s ≡ answered (text_of (entries c))
unfolding to_text
has_text s c q = rw q

pub one_text : (t u s : List ℕ) → from_text t ≡ answered s → from_text u ≡ answered s → t ≡ u
one_text t u s p q = cc (sym (text_written_back t s p) ∙ text_written_back u s q)

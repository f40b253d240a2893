-- The entries that a text spells, judged one after the other: reading their bytes takes each that may stand there, and stops at the first that may not.
-- Assumes nothing.
use mathlib.Core.Path.{◌≡◌, refl, sym, ap, ◌∙◌}
use mathlib.Core.Bool.{Bool, false}
use mathlib.Core.List.{List, [], ◌∷◌, ◌++◌, append_assoc, append-nil}
use Prim.Native.Nat.{ℕ, suc, ◌+◌, ◌-◌, ◌≤◌, ◌<◌}
use native.Mathlib.Omega.{arith}
use lib.ListN.{length, length-append}
use borrow.Author.Tests.{lt-ltb, le-ltb}
use Rattle.entries.specs.declared.Entry.{Entry}
use Rattle.entries.specs.Said.{Refusal}
use Rattle.entries.specs.Said.{Said, answered, refusing, refusal}
use Rattle.entries.specs.Entries.{size_of, bytes_of}
use Rattle.kinds.specs.Kinds.{is_row}
use Rattle.table.specs.Steps.{begins_row, placed, permitted}
use Rattle.table.specs.Contents.{Contents, tally_of, with_entry, entries, written, encoded}
use Rattle.table.specs.Reading.{after, read_on, reading}
use Rattle.table.proofs.Permission.{Allowed, allowed_if}
use Rattle.table.proofs.Writing.{Whole, own_judged, Open, begins_own, calm, settled_same, next_open, next_entries, next_bytes, read_open, whole_accepted}
use Rattle.text.specs.Calls.{line_at}
use Rattle.text.proofs.OneLine.{Plain}

-- entries that are all plain
abbrev pub Plainly : List Entry → Type 0
Plainly [] = Unit
Plainly (e ∷ es) = Plain e × Plainly es

pub plainly_append : (es fs : List Entry) → Plainly es → Plainly fs → Plainly (es ++ fs)
plainly_append [] fs p q = q
plainly_append (e ∷ es) fs p q = (p.0, plainly_append es fs p.1 q)

-- an entry behind the contents that came before it, by whether a row follows
module _ (c : Contents) (e : Entry) (plain : Plain e) (follows : Bool) (o : Open c (is_row e.kind)) where
  abbrev judged : Said Entry
  judged = permitted e (placed e c.supplier follows) (tally_of c)

  allowed : (f : Entry) → judged ≡ answered f → Allowed (placed e c.supplier follows) (tally_of c) e
  allowed f q = (allowed_if e f (placed e c.supplier follows) (tally_of c) q).1

  -- one that may stand there: the contents with it keep the rules, and have it behind the others
  pub in_open : (f : Entry) → judged ≡ answered f → Open (with_entry c e) follows
  in_open f q = next_open c e plain.tidy follows o (allowed f q)

  pub in_entries : (f : Entry) → judged ≡ answered f → entries (with_entry c e) ≡ entries c ++ (e ∷ [])
  in_entries f q = next_entries c e plain.tidy follows o (allowed f q)

  pub in_bytes : (f : Entry) → judged ≡ answered f → encoded (with_entry c e) ≡ encoded c ++ bytes_of e
  in_bytes f q = next_bytes c e plain.tidy follows o (allowed f q)

  -- one that may not: reading stops at it
  pub out_reading : (s : List ℕ) (why : Refusal) → follows ≡ begins_row s → judged ≡ refusing why →
      reading (encoded c ++ (bytes_of e ++ s)) ≡ refusing (refusal why.number (length (encoded c) + why.place))
  unfolding read_on after bytes_of
  out_reading s why p q =
      let here : Open c (begins_row (bytes_of e ++ s)) = rw (begins_own e s) o in
      read_open c (bytes_of e ++ s) here ∙ rw (own_judged e s c.supplier (tally_of c) plain.tidy, ← p, q)

-- how reading the bytes of entries behind such contents ends: with all of them, or at the first that may not stand there
pub record FirstBad (c : Contents) (es : List Entry) (why : Refusal) : Type 0 where
  pub front : List Entry
  pub bad : Entry
  pub rest : List Entry
  pub parts : es ≡ front ++ (bad ∷ rest)
  pub before : Contents
  pub stands : Open before (is_row bad.kind)
  pub taken : entries before ≡ entries c ++ front
  pub here : Refusal
  pub refuses : permitted bad (placed bad before.supplier (begins_row (written rest))) (tally_of before) ≡ refusing here
  pub is : why ≡ refusal here.number (length (encoded before) + here.place)

abbrev pub Ends : Contents → List Entry → Said Contents → Type 0
Ends c es (answered d) = entries d ≡ entries c ++ es
Ends c es (refusing why) = FirstBad c es why

ends_more : (c d : Contents) (e : Entry) (es : List Entry) → entries d ≡ entries c ++ (e ∷ []) → (x : Said Contents) → Ends d es x →
    Ends c (e ∷ es) x
ends_more c d e es q (answered x) h = h ∙ ap (λ (l : List Entry). l ++ es) q ∙ append_assoc (entries c) (e ∷ []) es
ends_more c d e es q (refusing why) h = record {
  front = e ∷ h.front;
  bad = h.bad;
  rest = h.rest;
  parts = ap (λ (l : List Entry). e ∷ l) h.parts;
  before = h.before;
  stands = h.stands;
  taken = h.taken ∙ ap (λ (l : List Entry). l ++ h.front) q ∙ append_assoc (entries c) (e ∷ []) h.front;
  here = h.here;
  refuses = h.refuses;
  is = h.is;
}

pub ends : (es : List Entry) (c : Contents) → Open c (begins_row (written es)) → Plainly es → Ends c es (reading (encoded c ++ written es))
unfolding written
ends [] c o p =
    let w : Whole c = rw (settled_same c (calm c false o.awaits refl)) at o.whole in
    rw (append-nil (encoded c), whole_accepted c w) (sym (append-nil (entries c)))
ends (e ∷ es) c o p =
    go (permitted e (placed e c.supplier (begins_row (written es))) (tally_of c)) refl (λ d v. ends es d v p.1)
  where
    here : Open c (is_row e.kind)
    here = rw (begins_own e (written es)) at o

    go : (x : Said Entry) → permitted e (placed e c.supplier (begins_row (written es))) (tally_of c) ≡ x →
        ((d : Contents) → Open d (begins_row (written es)) → Ends d es (reading (encoded d ++ written es))) →
        Ends c (e ∷ es) (reading (encoded c ++ (bytes_of e ++ written es)))
    go (answered f) q on =
        let same : encoded (with_entry c e) ++ written es ≡ encoded c ++ (bytes_of e ++ written es) =
        ap (λ (l : List ℕ). l ++ written es) (in_bytes c e p.0 _ here f q) ∙ append_assoc (encoded c) (bytes_of e) (written es) in
        ends_more c (with_entry c e) e es (in_entries c e p.0 _ here f q) (reading (encoded c ++ (bytes_of e ++ written es)))
        (rw same at (on (with_entry c e) (in_open c e p.0 _ here f q)))
    go (refusing why) q on = rw (out_reading c e p.0 _ here (written es) why refl q) (record {
      front = [];
      bad = e;
      rest = es;
      parts = refl;
      before = c;
      stands = here;
      taken = sym (append-nil (entries c));
      here = why;
      refuses = q;
      is = refl;
    })

-- the line of a place in the bytes of entries: that of the entry whose bytes it lies in
pub line_of_place : (front : List Entry) (e : Entry) (rest : List Entry) (place : ℕ) → place < size_of e →
    line_at (front ++ (e ∷ rest)) (length (written front) + place) ≡ suc (length front)
unfolding line_at written
line_of_place [] e rest place l = let here : 0 + place ≡ place = omega arith in rw (here, lt-ltb place (size_of e) l)
line_of_place (f ∷ front) e rest place l =
    let long = length-append (bytes_of f) (written front) in
    let past : size_of f ≤ length (bytes_of f ++ written front) + place = omega (arith, long) in
    let left : length (bytes_of f ++ written front) + place - size_of f ≡ length (written front) + place = omega (arith, long) in
    rw (le-ltb _ _ past, left) (ap suc (line_of_place front e rest place l))

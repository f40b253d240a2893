-- Texts of several pieces: one piece more of them, and the room that is left for it; and the clauses of entries, one entry after the other.
-- Assumes nothing.
use mathlib.Core.Path.{◌≡◌, sym, ap, ◌∙◌}
use mathlib.Core.List.{List, [], ◌∷◌, ◌++◌, append_assoc, append-nil}
use Prim.Native.Nat.{ℕ, suc, ◌+◌, ◌≤◌, ◌<◌}
use native.Mathlib.Omega.{arith}
use native.Mathlib.Nat.{zero-add}
use lib.ListN.{length, get_or, take, drop, length-append}
use Rattle.std.specs.List.{flat_map}
use Rattle.std.proofs.lemmas.List.{take_more, take-append-drop, length-take-le}
use Rattle.std.proofs.lemmas.List.Concat.{flat_map-append}
use Rattle.std.proofs.lemmas.List.Folds.{length-flat_map-take}
use Rattle.entries.specs.declared.Entry.{Entry}
use Rattle.decimal.specs.Put.{Put}
use Rattle.decimal.proofs.Stores.{put_then, put_length}
use Rattle.clauses.specs.declared.Literal.{Literal}
use Rattle.clauses.specs.declared.Layout.{Layout}
use Rattle.clauses.specs.Variables.{entry_clauses, clauses_from}
use Rattle.dimacs.specs.Dimacs.{clause_text, text_of, clauses_in}

module _ {A : Type 0} (f : A → List ℕ) (xs : List A) (i : ℕ) (x : A) where
  next_piece : i < length xs → flat_map f (take (i + 1) xs) ≡ flat_map f (take i xs) ++ f (get_or xs i x)
  next_piece h =
      ap (flat_map f) (take_more xs i x h) ∙ flat_map-append f (take i xs) (get_or xs i x ∷ []) ∙ simp append-nil

  pub longer : i < length xs → length (flat_map f (take (i + 1) xs)) ≡ length (flat_map f (take i xs)) + length (f (get_or xs i x))
  longer h = ap length (next_piece h) ∙ length-append (flat_map f (take i xs)) (f (get_or xs i x))

  pub put_more : {out mid left : List ℕ} {at next last : ℕ} → i < length xs → Put out at (flat_map f (take i xs)) next mid →
      Put mid next (f (get_or xs i x)) last left → Put out at (flat_map f (take (i + 1) xs)) last left
  put_more h p q = rw (next_piece h) (put_then (flat_map f (take i xs)) (f (get_or xs i x)) p q)

  pub room_more : {out mid : List ℕ} {at next : ℕ} → i < length xs → Put out at (flat_map f (take i xs)) next mid →
      at + length (flat_map f xs) ≤ length out → next + length (f (get_or xs i x)) ≤ length mid
  room_more h p room = omega (arith, length-flat_map-take f xs i x h, p.behind, put_length p)

-- the clauses of entries
module _ (layout : Layout) where
  clauses_append : (k : ℕ) (ds es : List Entry) → clauses_from layout k (ds ++ es) ≡ clauses_from layout k ds ++ clauses_from layout (k + length ds) es
  unfolding clauses_from
  clauses_append k [] es = let q : k + 0 ≡ k = omega arith in rw q
  clauses_append k (d ∷ ds) es =
      let q : k + suc (length ds) ≡ suc k + length ds = omega arith in
      rw q (ap (λ (cs : List (List Literal)). entry_clauses layout k d ++ cs) (clauses_append (suc k) ds es)
      ∙ sym (append_assoc (entry_clauses layout k d) (clauses_from layout (suc k) ds) (clauses_from layout (suc k + length ds) es)))

  module _ (es : List Entry) (i : ℕ) (e : Entry) (h : i < length es) where
    abbrev here : List (List Literal)
    here = entry_clauses layout i (get_or es i e)

    pub next_entry : clauses_in layout (take (i + 1) es) ≡ clauses_in layout (take i es) ++ here
    unfolding clauses_from
    next_entry =
        let long : length (take i es) ≡ i = length-take-le i es (omega arith) in
        rw (take_more es i e h, clauses_append 0 (take i es) (get_or es i e ∷ []), long, zero-add)
        (ap (λ (cs : List (List Literal)). clauses_in layout (take i es) ++ cs) (simp append-nil))

    entry_text : text_of (clauses_in layout (take (i + 1) es)) ≡ text_of (clauses_in layout (take i es)) ++ text_of here
    entry_text = ap text_of next_entry ∙ flat_map-append clause_text (clauses_in layout (take i es)) here

    entry_within : length (text_of (clauses_in layout (take i es))) + length (text_of here) ≤ length (text_of (clauses_in layout es))
    entry_within =
        let split = take-append-drop (i + 1) es in
        let all = clauses_append 0 (take (i + 1) es) (drop (i + 1) es) in
        let rest = clauses_from layout (0 + length (take (i + 1) es)) (drop (i + 1) es) in
        omega (
          arith,
          ap (λ (es : List Entry). length (text_of (clauses_in layout es))) (sym split),
          ap (λ (cs : List (List Literal)). length (text_of cs)) all,
          ap length (flat_map-append clause_text (clauses_in layout (take (i + 1) es)) rest),
          length-append (text_of (clauses_in layout (take (i + 1) es))) (text_of rest),
          ap length entry_text,
          length-append (text_of (clauses_in layout (take i es))) (text_of here),
        )

    pub put_entry : {out mid left : List ℕ} {at next last : ℕ} → Put out at (text_of (clauses_in layout (take i es))) next mid →
        Put mid next (text_of here) last left → Put out at (text_of (clauses_in layout (take (i + 1) es))) last left
    put_entry p q = rw entry_text (put_then (text_of (clauses_in layout (take i es))) (text_of here) p q)

    pub room_entry : {out mid : List ℕ} {at next : ℕ} → Put out at (text_of (clauses_in layout (take i es))) next mid →
        at + length (text_of (clauses_in layout es)) ≤ length out → next + length (text_of here) ≤ length mid
    room_entry p room = omega (arith, entry_within, p.behind, put_length p)

    -- how many clauses there are with one entry more, and how many bytes their lines have
    pub more_clauses : length (clauses_in layout (take (i + 1) es)) ≡ length (clauses_in layout (take i es)) + length here
    more_clauses = ap length next_entry ∙ length-append (clauses_in layout (take i es)) here

    pub more_bytes : length (text_of (clauses_in layout (take (i + 1) es))) ≡ length (text_of (clauses_in layout (take i es))) + length (text_of here)
    more_bytes = ap length entry_text ∙ length-append (text_of (clauses_in layout (take i es))) (text_of here)

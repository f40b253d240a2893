-- What a refusal of reading's says, and what its place points at (01, "When we say no"; 02, L1 and L6).
use Rattle.std.specs.Prelude.{ℕ, ◌+◌, ◌-◌, ◌≤◌, ◌<◌, ◌≡◌, Bool, true, List, [], ◌⊎◌, length, get_or, take, drop, Some}
use Rattle.kinds.specs.declared.Kind.{Kind}
use Rattle.table.specs.declared.steps.Tally.{Tally}
use Rattle.entries.specs.Refusals.{at_kind_byte, is_among}
use Rattle.entries.specs.Said.{answered, refusing, refusal}
use Rattle.kinds.specs.Kinds.{kind_of, form_of}
use Rattle.entries.specs.Entries.{number_limit, body_size}
use Rattle.table.specs.Steps.{limit, misnamed, begins_row, step_of}
use Rattle.table.specs.Contents.{Contents, tally_of, last_supplier, settled, encoded}
use Rattle.table.specs.Reading.{reading}

-- "From now on 3 and 4 give the place of the first offending body byte": it lies in the body of the entry whose kind byte stands at `start`, which is not cut
-- short; the number there is at or above the limit, and every number before it in that body is below the limit
pub record Misnames (s : List ℕ) (start : ℕ) (before : Tally) (number place : ℕ) : Type 0 where
  pub kind : Kind
  pub listed : kind_of (get_or s start 0) ≡ Some kind
  pub number_is : number ≡ misnamed (form_of kind).names
  pub whole : start + body_size kind < length s
  pub in_body : (start < place) × (place ≤ start + body_size kind)
  pub too_high : limit (form_of kind).names before ≤ get_or s place 0
  pub first : (i : ℕ) → start < i → i < place → get_or s i 0 < limit (form_of kind).names before

-- "all other places stay": the kind byte's
abbrev pub Points : List ℕ → ℕ → Tally → ℕ → ℕ → Type 0
Points s start before number place = ((is_among at_kind_byte number ≡ true) × (place ≡ start)) ⊎ Misnames s start before number place

-- no 60 waits for its row; or one does, which names a byte, a row follows, and there is no question yet (02, L6)
abbrev pub Awaits : Contents → Bool → Type 0
Awaits c follows = (c.supplier ≡ last_supplier c) ⊎ ((follows ≡ true) × (c.questions ≡ []) × (c.supplier < number_limit))

-- contents that reading has come to: an accepted table, or one and a 60 that waits
pub record Reached (c : Contents) (follows : Bool) : Type 0 where
  pub accepted : reading (encoded (settled c)) ≡ answered (settled c)
  pub awaits : Awaits c follows

-- "the first bad entry speaks": reading comes to its start, where it brings the refusal, and to it the place points. It lies within the table, past whose end
-- `get_or` would read 0, a kind that is listed.
pub record Speaks (s : List ℕ) (number place : ℕ) : Type 0 where
  pub start : ℕ
  pub before : Contents
  pub bytes : take start s ≡ encoded before
  pub reached : Reached before (begins_row (drop start s))
  pub brings : step_of (get_or s start 0) (drop (start + 1) s) before.supplier (tally_of before) ≡ refusing (refusal number (place - start))
  pub points : Points s start (tally_of before) number place
  pub within : place < length s

-- 02's L2, of the services' answers: what `pier_to_text` wrote, given to `pier_from_text`, writes the table's bytes, and the other way round; and two texts
-- that are read as the same bytes are the same.
-- Assumes nothing.
use mathlib.Core.Path.{◌≡◌, refl, sym, ap, ap₂, ◌∙◌}
use mathlib.Core.List.{List, ◌++◌}
use Prim.Native.Nat.{ℕ, ◌≤◌}
use lib.ListN.{length, take, drop}
use lib.Seq.{take-append_seam, drop-append_seam}
use borrow.Author.Tests.{lt-ltb, le-ltb, le-leb}
use Rattle.entries.specs.Said.{Said, answered, refusing}
use Rattle.entries.specs.Entries.{onto}
use Rattle.entries.specs.Output.{sent, output_of}
use Rattle.entries.proofs.Numbers.{by_order}
use Rattle.entries.proofs.Saying.{not_both}
use Rattle.text.specs.Calls.{to_text, from_text}
use Rattle.text.proofs.RoundTrips.{text_read_back, text_written_back, one_text}
use Rattle.pierstride.specs.declared.Written.{Written}
use Rattle.pierstride.specs.Services.{written_of, to_text_answer, to_text_output, from_text_answer, from_text_output}
use Rattle.pierstride.specs.Demands.{Wrote}
use Rattle.pierstride.proofs.FirstDemand.{to_text_tells, from_text_tells}

-- one that has bytes to write and room for them, and one that answered
module _ (x : Said (List ℕ)) (out : List ℕ) where
  abbrev answer : Written
  answer = written_of (sent x (length out))

  pub wrote : (bytes : List ℕ) → x ≡ answered bytes → length bytes ≤ length out → Wrote bytes out answer (output_of x out)
  unfolding sent output_of onto
  wrote bytes q l =
      let says : sent x (length out) ≡ answered (length bytes) = rw (q, le-ltb (length out) (length bytes) l) in
      let is : answer ≡ written_of (answered (length bytes)) = ap written_of says in
      let long = ap (λ (a : Written). a.length) is in
      let holds : output_of x out ≡ bytes ++ drop (length bytes) out = rw (q, le-leb (length bytes) (length out) l) in record {
        answers = ap (λ (a : Written). a.refusal) is;
        long = long;
        front = ap₂ take long holds ∙ take-append_seam bytes (drop (length bytes) out);
        behind = ap₂ drop long holds ∙ drop-append_seam bytes (drop (length bytes) out) ∙ ap (λ (n : ℕ). drop n out) (sym long);
      }

  pub had : (n : ℕ) → sent x (length out) ≡ answered n → (bytes : List ℕ) × (x ≡ answered bytes) × (length bytes ≤ length out)
  unfolding sent
  had n q = go x refl q
    where
      go : (y : Said (List ℕ)) → x ≡ y → sent y (length out) ≡ answered n → (bytes : List ℕ) × (x ≡ answered bytes)
          × (length bytes ≤ length out)
      go (refusing why) p q = not_both (sym q)
      go (answered bytes) p q =
          by_order (length out) (length bytes)
          (λ l. not_both (sym (rw (lt-ltb (length out) (length bytes) l) at q)))
          (λ l. (bytes, p, l))

-- what `pier_to_text` wrote, given to `pier_from_text` with room for the table
abbrev pub text_of : List ℕ → List ℕ → List ℕ
text_of s out = take (to_text_answer s out).length (to_text_output s out)

to_text_lem : (s out : List ℕ) → (to_text_answer s out).refusal ≡ 0 → to_text s ≡ answered (text_of s out)
to_text_lem s out done =
    let told = (to_text_tells s out).answers done in
    let h = had (to_text s) out told.0 told.1 in
    h.1 ∙ ap answered (sym (wrote (to_text s) out h.0 h.1 h.2).front)

pub table_comes_back : (s out : List ℕ) → (to_text_answer s out).refusal ≡ 0 → (room : List ℕ) → length s ≤ length room →
    Wrote s room (from_text_answer (text_of s out) room) (from_text_output (text_of s out) room)
table_comes_back s out done room l = wrote (from_text (text_of s out)) room s (text_read_back s (text_of s out) (to_text_lem s out done)) l

-- what `pier_from_text` wrote, given to `pier_to_text` with room for the text
abbrev pub read_from : List ℕ → List ℕ → List ℕ
read_from t out = take (from_text_answer t out).length (from_text_output t out)

from_text_lem : (t out : List ℕ) → (from_text_answer t out).refusal ≡ 0 → from_text t ≡ answered (read_from t out)
from_text_lem t out done =
    let told = (from_text_tells t out).answers done in
    let h = had (from_text t) out told.0 told.1 in
    h.1 ∙ ap answered (sym (wrote (from_text t) out h.0 h.1 h.2).front)

pub text_comes_back : (t out : List ℕ) → (from_text_answer t out).refusal ≡ 0 → (room : List ℕ) → length t ≤ length room →
    Wrote t room (to_text_answer (read_from t out) room) (to_text_output (read_from t out) room)
text_comes_back t out done room l = wrote (to_text (read_from t out)) room t (text_written_back t (read_from t out) (from_text_lem t out done)) l

-- "two texts that read as one table are the same text"
pub same_text : (t out u room : List ℕ) → (from_text_answer t out).refusal ≡ 0 → (from_text_answer u room).refusal ≡ 0 → read_from t out
    ≡ read_from u room → t ≡ u
same_text t out u room one two q = one_text t u (read_from t out) (from_text_lem t out one) (from_text_lem u room two ∙ ap answered (sym q))

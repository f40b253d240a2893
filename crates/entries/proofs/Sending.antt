-- What a call that writes says and leaves in its output, by each case: no bytes to write, bytes for which there is no room, and bytes that fit.
-- Assumes nothing.
use mathlib.Core.Path.{◌≡◌, refl}
use mathlib.Core.List.{List, ◌++◌}
use Prim.Native.Nat.{ℕ, ◌≤◌, ◌<◌}
use lib.ListN.{length, drop}
use borrow.Author.Tests.{lt-ltb, le-ltb, lt-leb, le-leb}
use Rattle.std.specs.Prelude.{Ok, Err}
use Rattle.entries.specs.declared.refusals.Refusal.{Refusal}
use Rattle.entries.specs.Refusals.{output_too_short}
use Rattle.entries.specs.Said.{Said, answered, refusing, refusal, told}
use Rattle.entries.specs.Entries.{onto}
use Rattle.entries.specs.Output.{sent, output_of, Sends}

module _ (x : Said (List ℕ)) (out : List ℕ) where
  pub sends_none : (why : Refusal) → x ≡ refusing (told why) → Sends x out (Err why) out
  unfolding sent output_of
  sends_none why q = rw q (refl, refl)

  pub sends_short : (bytes : List ℕ) (why : Refusal) → told why ≡ refusal output_too_short 0 → x ≡ answered bytes → length out < length bytes →
      Sends x out (Err why) out
  unfolding sent output_of onto
  sends_short bytes why w q l = rw (w, q, lt-ltb (length out) (length bytes) l, lt-leb (length bytes) (length out) l) (refl, refl)

  pub sends_all : (bytes : List ℕ) → x ≡ answered bytes → length bytes ≤ length out →
      Sends x out (Ok (length bytes)) (bytes ++ drop (length bytes) out)
  unfolding sent output_of onto
  sends_all bytes q l = rw (q, le-ltb (length out) (length bytes) l, le-leb (length bytes) (length out) l) (refl, refl)

-- What a call that writes says, and what its lent output holds then (01, "When we say no").
use Rattle.std.specs.Prelude.{ℕ, ◌≡◌, Bool, cond, List, length, ltb, Result}
use Rattle.entries.specs.declared.refusals.Refusal.{Refusal}
use Rattle.entries.specs.Refusals.{output_too_short}
use Rattle.entries.specs.Said.{Said, answered, refusing, said, and_then, unless}
use Rattle.entries.specs.Entries.{onto}

-- 11, "the output is shorter than the bytes to write"; 0 where it is not
abbrev pub if_short : Bool → ℕ
if_short short = cond short output_too_short 0

-- the bytes to write, or why there are none: then 11; otherwise "the length comes back"
unfoldable pub sent : Said (List ℕ) → ℕ → Said ℕ
sent x room = and_then x (λ bytes. unless (if_short (ltb room (length bytes))) (answered (length bytes)))

-- "bytes behind the last stay"; "a refusal changes no lent byte"
unfoldable pub output_of : Said (List ℕ) → List ℕ → List ℕ
output_of (answered bytes) out = onto bytes out
output_of (refusing why) out = out

-- an answer, and what the output holds, as the call says
abbrev pub Sends : Said (List ℕ) → List ℕ → Result ℕ Refusal → List ℕ → Type 0
Sends x out answer left = (said answer ≡ sent x (length out)) × (left ≡ output_of x out)

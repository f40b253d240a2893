-- Codes go both ways: each decision is the one with its code, and each number below 4 is the code of its decision. A code is the two claims as bits.
-- Assumes nothing.
use mathlib.Core.Path.{◌≡◌, refl}
use mathlib.Core.Bool.{Bool, true, false}
use Prim.Native.Nat.{ℕ, zero, suc, ◌+◌, ◌*◌, ◌<◌}
use native.Mathlib.Omega.{arith}
use mir.Val.{bool_byte}
use Rattle.belnap.specs.declared.Decision.{Decision}
use Rattle.belnap.specs.declared.Decision.TheVariants.{U, D, G, C}
use Rattle.belnap.specs.Decisions.{claiming, code, coded}

pub coded_code : (x : Decision) → coded (code x) ≡ x
unfolding coded
coded_code U = refl
coded_code D = refl
coded_code G = refl
coded_code C = refl

pub code_coded : (n : ℕ) → n < 4 → code (coded n) ≡ n
unfolding coded
code_coded zero h = refl
code_coded (suc zero) h = refl
code_coded (suc (suc zero)) h = refl
code_coded (suc (suc (suc zero))) h = refl
code_coded (suc (suc (suc (suc n)))) h = absurd (omega arith)

-- "denies" counts 1 in a code, and "grants" 2
pub code_claims : (p q : Bool) → code (claiming p q) ≡ 2 * bool_byte p + bool_byte q
code_claims true true = refl
code_claims true false = refl
code_claims false true = refl
code_claims false false = refl

-- What the defaults, implication and guard grant and deny, and when two decisions are the same: the rules that the code says (src/lib.rt), each computed
-- to be the definition's at every decision.
-- Assumes nothing.
use mathlib.Core.Path.{◌≡◌, refl}
use mathlib.Core.Bool.{Bool, beq, not, ◌&&◌, ◌||◌}
use Rattle.belnap.specs.declared.Decision.{Decision}
use Rattle.belnap.specs.declared.orders.Order.TheVariants.{Truth}
use Rattle.belnap.specs.Decisions.{grants, denies, claiming, same}
use Rattle.operators.specs.Operators.{closed_default, open_default, implication, guard}
use Rattle.belnap.proofs.Finite.{one_outcome, one_from_one, one_from_two}

abbrev closing : Decision → Decision
closing x = claiming (grants x && not (denies x)) (not (grants x) || denies x)

pub closed_default_claims : (x : Decision) → closing x ≡ closed_default x
closed_default_claims = one_from_one closing closed_default refl

abbrev opening : Decision → Decision
opening x = claiming (grants x || not (denies x)) (not (grants x) && denies x)

pub open_default_claims : (x : Decision) → opening x ≡ open_default x
open_default_claims = one_from_one opening open_default refl

abbrev implying : Decision → Decision → Decision
implying x y = claiming (not (grants x) || grants y) (grants x && denies y)

pub implication_claims : (x y : Decision) → implying x y ≡ implication x y
implication_claims = one_from_two implying implication refl

abbrev guarding : Decision → Decision → Decision
guarding x y = claiming (grants x && grants y) (grants x && denies y)

pub guard_claims : (x y : Decision) → guarding x y ≡ guard x y
guard_claims = one_from_two guarding guard refl

abbrev both_alike : Decision → Decision → Bool
both_alike x y = beq (grants x) (grants y) && beq (denies x) (denies y)

pub same_claims : (x y : Decision) → both_alike x y ≡ same x y
same_claims x y = one_outcome (λ o x y z. both_alike x y) (λ o x y z. same x y) refl Truth x y y

-- Each public call's promise leaves one answer (belnap/specs/One.antt).
-- Stated of the promises themselves, so that one that says less is refused here.
-- Assumes nothing.
use mathlib.Core.Path.{refl}
use native.Mathlib.Omega.{arith}
use Rattle.belnap.specs.One.{One, OneOutput}
use Rattle.belnap.proofs.Unique.{by_definition}
use Rattle.decide.proofs.Filled.{filled_same}
use Rattle.decide.proofs.bit_of.Reads as bit_of
use Rattle.decide.proofs.Facts.known_yes.Reads as known_yes
use Rattle.decide.proofs.decide.Reads as decide
use Rattle.decide.proofs.rows.value_at.Reads as value_at
use Rattle.decide.proofs.rows.fill.Reads as fill

pub one_bit : One bit_of.Post
one_bit κs args exit = by_definition

pub one_known : One known_yes.Post
one_known κs args exit = by_definition

pub one_decision : One decide.Post
one_decision κs args exit = by_definition

pub one_value : (T : _) (L : _) (C : _) (G : _) (D : _) → One (value_at.Post T L C G D)
one_value T L C G D κs args exit = by_definition

pub one_fill : (T R K : _) (L M N : _) (C : _) (G : _) (D : _) (H : _) (E : _) → OneOutput (fill.Post T R K L M N C G D H E) (λ κs exit. exit.1.1.1.0)
one_fill T R K L M N C G D H E κs args e f a b p q = (refl, filled_same (λ e. H.one _ (H.reads e.kind) e) p q (omega arith))

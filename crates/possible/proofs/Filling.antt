-- What the sets of rows say (the letter's third demand): the decision under every way of filling the missing facts in is a member, learning a fact
-- adds none, with nothing unknown only the true decision is left, and no set is empty.
-- Assumes nothing.
use mathlib.Core.Path.{◌≡◌, refl, sym, ap, ap₂, ◌∙◌}
use mathlib.Core.Bool.{Bool, true, false, cond}
use mathlib.Core.List.{List}
use Prim.Native.Nat.{ℕ, ◌≤◌, ◌<◌}
use native.Mathlib.Omega.{arith}
use lib.ListN.{get_or}
use Rattle.belnap.specs.declared.Decision.{Decision}
use Rattle.belnap.specs.declared.Decision.TheVariants.{U, D, G}
use Rattle.operators.specs.Operators.{one, two}
use Rattle.belnap.proofs.Finite.{never}
use Rattle.kinds.specs.declared.RowKind.{RowKind}
use Rattle.kinds.specs.declared.RowKind.TheVariants.{Always, DenyIf, GrantIf, One, Two}
use Rattle.kinds.specs.declared.Kind.TheVariants.{Row}
use Rattle.entries.specs.declared.Entry.{Entry}
use Rattle.kinds.specs.Kinds.{form_of, as_row}
use Rattle.entries.specs.Entries.{blank, equal_numbers, used_by}
use Rattle.table.specs.Contents.{Covers}
use Rattle.table.proofs.Laws.{row_uses}
use Rattle.decide.specs.Meaning.{bit, decide_by, decides, decision}
use Rattle.decide.specs.Requests.{Fills, Learns, AllKnown}
use Rattle.decide.proofs.RowByRow.{equal_values, side_by_side}
use Rattle.possible.specs.Sets.{decisions, Set, Within, single, either, image_one, image_two}
use Rattle.possible.specs.Possible.{fact_set, set_by, set_of, possible}
use Rattle.possible.proofs.Images.{single_has, either_left, either_right, one_has, two_has, one_single, two_single}
use Rattle.possible.proofs.Images.{Fewer, as_many, one_within, two_within}

-- the set of a fact, by whether it is known and whether it is yes; unknown, it has what is decided either way
abbrev fact_by : Decision → Bool → Bool → Set decisions
fact_by v known said = cond known (single (cond said v U)) (either (single U) (single v))

either_way : (v : Decision) (said : Bool) → Within (single {F = decisions} (cond said v U)) (either (single U) (single v))
either_way v true = either_right {F = decisions} (single U) (single v)
either_way v false = either_left {F = decisions} (single U) (single v)

-- a fact's set has what a filling decides
fact_has : (v : Decision) (p known request o : ℕ) → Fills known request o → (fact_set v p known request).has (cond (bit o p) v U) ≡ true
unfolding fact_set
fact_has v p known request o h = go (bit known p) refl
  where
    go : (k : Bool) → bit known p ≡ k → (fact_by v k (bit request p)).has (cond (bit o p) v U) ≡ true
    go true e = rw (h p e) (single_has decisions (cond (bit request p) v U))
    go false e = either_way v (bit o p) (cond (bit o p) v U) (single_has decisions (cond (bit o p) v U))

row_has : (k : RowKind) (a : ℕ) (equal : Bool) (known request o : ℕ) → Fills known request o → (x y : Decision) (s t : Set decisions) →
    s.has x ≡ true → t.has y ≡ true → (equal ≡ true → x ≡ y) → (set_by k a equal known request s t).has (decide_by k a o x y) ≡ true
unfolding set_by decide_by
row_has (Always v) a equal known request o h x y s t p q e = single_has decisions v
row_has DenyIf a equal known request o h x y s t p q e = fact_has D a known request o h
row_has GrantIf a equal known request o h x y s t p q e = fact_has G a known request o h
row_has (One op) a equal known request o h x y s t p q e = one_has decisions (one op) s x p
row_has (Two op) a equal known request o h x y s t p q e = two_has decisions (two op) equal s t x y p q e

pub filling_member : (rows : List Entry) (known request o r : ℕ) → Fills known request o → (possible rows known request r).has (decision rows o r) ≡ true
filling_member rows known request o r h =
    side_by_side (λ x s. s.has x ≡ true) (decides o) (set_of known request) U (single U) rows refl
    (λ i x s has. let e = get_or rows i blank in
    row_has (as_row e.kind) e.a (equal_numbers e) known request o h _ _ _ _ (has e.a) (has e.b) (equal_values x e)) r

-- no set is empty: it has what is decided where every missing fact is as the request says
pub member_there : (rows : List Entry) (known request r : ℕ) → (possible rows known request r).has (decision rows request r) ≡ true
member_there rows known request r = filling_member rows known request request r (λ p e. refl)

-- facts are learnt while the known ones stand
fact_within : (v : Decision) (p known request more then : ℕ) → Learns known request more then → Within (fact_set v p more then) (fact_set v p known request)
unfolding fact_set
fact_within v p known request more then h = go (bit known p) refl (bit more p) refl
  where
    go : (k : Bool) → bit known p ≡ k → (m : Bool) → bit more p ≡ m → Within (fact_by v m (bit then p)) (fact_by v k (bit request p))
    go true e true d = rw (h p e).1 (λ x q. q)
    go true e false d = never (sym (h p e).0 ∙ d)
    go false e true d = either_way v (bit then p)
    go false e false d = λ x q. q

pub row_within : (k : RowKind) (a : ℕ) (equal other : Bool) (known request more then : ℕ) → Learns known request more then →
    (s t u v : Set decisions) → Fewer equal other s t → Within s u → Within t v →
    Within (set_by k a equal more then s t) (set_by k a other known request u v)
unfolding set_by
row_within (Always w) a equal other known request more then h s t u v few p q = λ x e. e
row_within DenyIf a equal other known request more then h s t u v few p q = fact_within D a known request more then h
row_within GrantIf a equal other known request more then h s t u v few p q = fact_within G a known request more then h
row_within (One op) a equal other known request more then h s t u v few p q = one_within decisions (one op) s u p
row_within (Two op) a equal other known request more then h s t u v few p q = two_within decisions (two op) equal other s t u v few p q

pub learning_adds_none : (rows : List Entry) (known request more then r : ℕ) → Learns known request more then →
    Within (possible rows more then r) (possible rows known request r)
learning_adds_none rows known request more then r h =
    side_by_side Within (set_of more then) (set_of known request) (single U) (single U) rows (λ x e. e)
    (λ i s u within. let e = get_or rows i blank in
    row_within (as_row e.kind) e.a (equal_numbers e) (equal_numbers e) known request more then h _ _ _ _ (as_many (equal_numbers e) _ _)
    (within e.a) (within e.b)) r

-- nothing that the rows use is unknown
row_exact : (k : RowKind) (a : ℕ) (equal : Bool) (n known request : ℕ) → AllKnown n known → used_by (form_of (Row k)).names a ≤ n →
    (x y : Decision) (s t : Set decisions) → s ≡ single x → t ≡ single y → (equal ≡ true → x ≡ y) →
    set_by k a equal known request s t ≡ single (decide_by k a request x y)
unfolding set_by decide_by fact_set
row_exact (Always w) a equal n known request h u x y s t p q e = refl
row_exact DenyIf a equal n known request h u x y s t p q e = rw (h a (omega arith))
row_exact GrantIf a equal n known request h u x y s t p q e = rw (h a (omega arith))
row_exact (One op) a equal n known request h u x y s t p q e = ap (image_one (one op)) p ∙ one_single decisions decisions (one op) x
row_exact (Two op) a equal n known request h u x y s t p q e = ap₂ (image_two (two op) equal) p q ∙ two_single decisions decisions (two op) equal x y e

pub known_exact : (rows : List Entry) (n : ℕ) → Covers n rows → (known request r : ℕ) → AllKnown n known →
    possible rows known request r ≡ single (decision rows request r)
known_exact rows n covers known request r h =
    side_by_side (λ s x. s ≡ single x) (set_of known request) (decides request) (single U) U rows refl
    (λ i s x is. let e = get_or rows i blank in
    row_exact (as_row e.kind) e.a (equal_numbers e) n known request h (omega (arith, row_uses e, covers i)) _ _ _ _ (is e.a) (is e.b)
    (equal_values x e)) r

-- "Predicates from n up may be given and change nothing."
row_same : (k : RowKind) (a : ℕ) (equal : Bool) (n known request more then : ℕ) →
    ((p : ℕ) → p < n → (bit known p ≡ bit more p) × (bit request p ≡ bit then p)) → used_by (form_of (Row k)).names a ≤ n →
    (s t : Set decisions) → set_by k a equal known request s t ≡ set_by k a equal more then s t
unfolding set_by fact_set
row_same (Always w) a equal n known request more then h u s t = refl
row_same DenyIf a equal n known request more then h u s t = let e = h a (omega arith) in rw (e.0, e.1)
row_same GrantIf a equal n known request more then h u s t = let e = h a (omega arith) in rw (e.0, e.1)
row_same (One op) a equal n known request more then h u s t = refl
row_same (Two op) a equal n known request more then h u s t = refl

pub beyond_n : (rows : List Entry) (n : ℕ) → Covers n rows → (known request more then r : ℕ) →
    ((p : ℕ) → p < n → (bit known p ≡ bit more p) × (bit request p ≡ bit then p)) → possible rows known request r ≡ possible rows more then r
beyond_n rows n covers known request more then r h =
    side_by_side (λ s t. s ≡ t) (set_of known request) (set_of more then) (single U) (single U) rows refl
    (λ i s u same. let e = get_or rows i blank in
    ap₂ (set_by (as_row e.kind) e.a (equal_numbers e) known request) (same e.a) (same e.b)
    ∙ row_same (as_row e.kind) e.a (equal_numbers e) n known request more then h (omega (arith, row_uses e, covers i)) _ _) r

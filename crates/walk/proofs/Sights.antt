-- What a visit sees, from the sets and the truths that it filled; and that a walk goes by what stands at each number alone.
-- Assumes nothing.
use mathlib.Core.Path.{◌≡◌, sym, ap, fun_ext, ◌∙◌}
use mathlib.Core.Bool.{true}
use mathlib.Core.List.{List}
use Prim.Native.Nat.{ℕ, ◌+◌, ◌≤◌, ◌<◌, min}
use native.Mathlib.Omega.{arith}
use lib.ListN.{length, get_or, take}
use lib.Seq.{ext_get_or, length-take-le}
use Rattle.std.proofs.lemmas.List.{get_or-take}
use Rattle.belnap.specs.declared.Decision.TheVariants.{U}
use Rattle.entries.specs.declared.Entry.{Entry}
use Rattle.entries.specs.Entries.{blank}
use Rattle.table.specs.Steps.{row_limit, question_limit}
use Rattle.table.specs.Reading.{up_to}
use Rattle.table.proofs.Held.{first_length, first_at}
use Rattle.decide.specs.Rows.{value_at}
use Rattle.decide.proofs.RowByRow.{same_value, get_d_any}
use Rattle.possible.specs.Sets.{decisions, truths, Set, single, of_mask}
use Rattle.possible.specs.Possible.{set_of, possible}
use Rattle.possible.specs.Filled.{filled}
use Rattle.possible.proofs.SetLoop.{filled_set, filled_length}
use Rattle.questions.specs.Questions.{asks_set, truth_set}
use Rattle.questions.specs.Inner.{top, set_at}
use Rattle.questions.proofs.Tops.{only_top}
use Rattle.walk.specs.declared.Look.{Look}
use Rattle.constraints.specs.Constraints.{standing}
use Rattle.walk.specs.Walk.{look, heeding, sees, walk, walk_by}
use Rattle.walk.specs.Inner.{Lent}

pub visit_sees : (rows questions : List Entry) (sets₀ sets masks₀ masks : List ℕ) (j known facts : ℕ) → Lent rows questions j →
    length sets₀ ≡ row_limit → length masks₀ ≡ question_limit →
    sets ≡ filled decisions (set_of known facts) (single U) rows sets₀ →
    masks ≡ filled truths (asks_set (set_at sets)) (single true) questions masks₀ →
    look (of_mask truths (get_or masks j 0)) ≡ look (truth_set rows questions known facts j)
visit_sees rows questions sets₀ sets masks₀ masks j known facts lent m o p q =
    let f = set_of known facts in
    let seen = length rows in
    let all : min seen (length sets₀) ≡ seen = omega (arith, lent.0) in
    let asked : min (length questions) (length masks₀) ≡ length questions = omega (arith, lent.1) in
    let long : length sets ≡ row_limit = filled_length decisions f (single U) rows sets₀ sets p ∙ m in
    let each : (r : ℕ) → r < seen → set_at sets r ≡ possible rows known facts r =
    λ r h. ap (of_mask decisions) (get_d_any sets r 1 0 (omega (arith, long, lent.0)))
    ∙ filled_set decisions f (single U) rows seen sets₀ sets (rw all at p) r h in
    ap look (filled_set truths (asks_set (set_at sets)) (single true) questions (length questions) masks₀ masks (rw asked at q) j lent.2
    ∙ only_top questions seen (set_at sets) (possible rows known facts) each j lent.3)

-- the first n of a list's entries, as a struct's part is lent
pub taken : (es : List Entry) (n : ℕ) → n ≤ length es → take n es ≡ up_to es n
taken es n h =
    let long = length-take-le n es h in
    ext_get_or blank (take n es) (up_to es n) (long ∙ sym (first_length blank es n))
    (λ i l. let here = rw long at l in get_or-take n es i blank here ∙ sym (first_at blank es n i here))

-- a walk over the parts of a table's entries that are lent is the walk over the entries
module _ (constraints rows questions : List Entry) (seen j : ℕ) where
  abbrev asked : List Entry
  asked = take (j + 1) questions

  module _ (all : top asked j ≤ seen) where
    part_sees : (known facts : ℕ) → sees constraints (take seen rows) asked j known facts ≡ sees constraints rows questions j known facts
    part_sees known facts =
        let f = set_of known facts in
        let each : (r : ℕ) → r < seen → possible (take seen rows) known facts r ≡ possible rows known facts r =
        λ r h. same_value f (single U) (take seen rows) rows r (λ i l. get_or-take seen rows i blank (omega arith)) in
        ap (λ (t : Set truths). heeding (standing constraints known facts) (look t))
        (only_top asked seen (possible (take seen rows) known facts) (possible rows known facts) each j all
        ∙ same_value (asks_set (possible rows known facts)) (single true) asked questions j
        (λ i l. get_or-take (j + 1) questions i blank (omega arith)))

    pub part_same : sees constraints (take seen rows) asked j ≡ sees constraints rows questions j
    part_same = fun_ext (λ known. fun_ext (λ facts. part_sees known facts))

-- a visit, and so a walk, goes by what stands at each number alone
module _ (constraints rows fewer questions asked : List Entry) (p : (i : ℕ) → get_or rows i blank ≡ get_or fewer i blank)
    (q : (i : ℕ) → get_or questions i blank ≡ get_or asked i blank) (j : ℕ) where
  pub same_sees : sees constraints rows questions j ≡ sees constraints fewer asked j
  same_sees = fun_ext (λ known. fun_ext (λ facts.
      let sets = fun_ext (λ r. same_value (set_of known facts) (single U) rows fewer r (λ i l. p i)) in
      ap (λ (t : Set truths). heeding (standing constraints known facts) (look t))
      (ap (λ (f : ℕ → Set decisions). value_at (asks_set f) (single true) questions j) sets
      ∙ same_value (asks_set (possible fewer known facts)) (single true) questions asked j (λ i l. q i))))

pub same_walk : (constraints rows fewer questions asked : List Entry) → ((i : ℕ) → get_or rows i blank ≡ get_or fewer i blank) →
    ((i : ℕ) → get_or questions i blank ≡ get_or asked i blank) →
    (n j : ℕ) → walk constraints rows questions n j ≡ walk constraints fewer asked n j
same_walk constraints rows fewer questions asked p q n j =
    ap (λ (see : ℕ → ℕ → Look). walk_by see n) (same_sees constraints rows fewer questions asked p q j)

-- What 3 and 4 are good for (02, L1): with a number below its limit at their place, reading goes on. The number there is a byte: so it is no supplier's, which
-- every byte may be.
-- Assumes nothing.
use mathlib.Core.Path.{◌≡◌, refl, sym, ap, ◌∙◌}
use mathlib.Core.Bool.{true}
use mathlib.Core.List.{List, [], ◌∷◌}
use mathlib.Core.Logic.{⊎_elim}
use Prim.Native.Nat.{ℕ, zero, suc, ◌+◌, ◌-◌, ◌≤◌, ◌<◌}
use native.Mathlib.Omega.{arith}
use lib.ListN.{length, get_or, drop, set, length-drop, length-set, take-append-drop}
use lib.Seq.{take-set-le, get_or-set_same, get_or-set_other, get_or-drop}
use Rattle.entries.specs.Said.{Refusal}
use Rattle.kinds.specs.declared.Kind.{Kind}
use Rattle.kinds.specs.declared.Kind.TheVariants.{Supplier}
use Rattle.std.specs.Prelude.{Option, Some, None}
use Rattle.entries.specs.declared.Entry.{Entry}
use Rattle.table.specs.declared.steps.Tally.{Tally}
use Rattle.entries.specs.Said.{Said, answered, refusing, refusal}
use Rattle.kinds.specs.Kinds.{kind_of, form_of}
use Rattle.entries.specs.Entries.{number_limit, body_size, size_of}
use Rattle.table.specs.Steps.{entry_of, decoded_by, decoded, limit, offending, begins_row, placed, permitted, judged, step_of}
use Rattle.table.specs.Contents.{Contents, tally_of, with_entry}
use Rattle.table.specs.Reading.{after, read_on, reading}
use Rattle.table.specs.Places.{Misnames, Speaks}
use Rattle.kinds.proofs.KindTable.{kind_of_byte}
use Rattle.belnap.proofs.Finite.{never}
use Rattle.entries.proofs.Numbers.{by_order}
use Rattle.entries.proofs.OneEntry.{size}
use Rattle.entries.proofs.Saying.{not_both}
use Rattle.table.proofs.Permission.{placed_anyway, by_refusal, misnaming_refusing}
use Rattle.table.proofs.Decoding.{body_cut, body_whole, step_took, step_points}
use Rattle.table.proofs.Turns.{bytes_from}
use Rattle.table.proofs.Speaking.{room_refuses, kind_byte, behind, read_up_to}

-- a refusal at the kind byte does not look at the numbers, but at a 60
numbers_unseen : (k : ℕ) (body other : List ℕ) (force : ℕ) (before : Tally) (why : Refusal) → length body ≡ length other → why.place ≡ 0 →
    (kind_of k ≡ Some Supplier → ⊥) → step_of k body force before ≡ refusing why → step_of k other force before ≡ refusing why
unfolding step_of decoded judged placed permitted
numbers_unseen k body other force before why l z apart q = go (kind_of k) apart q
  where
    go : (a : Option Kind) → (a ≡ Some Supplier → ⊥) → judged (decoded_by a body) body force before ≡ refusing why →
        judged (decoded_by a other) other force before ≡ refusing why
    go None apart q = q
    go (Some kind) apart q =
        let own = entry_of kind body in
        let good = placed_anyway kind own.a force (begins_row (drop (form_of kind).numbers body)) (λ is. apart (ap Some is)) in
        by_order (length body) (form_of kind).numbers
        (λ c. rw (body_cut kind other (rw l at c)) (rw (body_cut kind body c) at q))
        (λ c. by_refusal own true before why (rw (body_whole kind body c, good) at q)
        (λ full same. room_refuses kind other force before full ∙ ap refusing same)
        (λ bad same. never bad)
        (λ names. let h = misnaming_refusing own (offending own before) why names in
        absurd (h.0 (ap (λ (r : Refusal). r.place) h.1 ∙ z))))

-- reading from a place on refuses nothing before it
reads_from : (more : ℕ) (c : Contents) (at : ℕ) (s : List ℕ) (why : Refusal) → read_on more c at s ≡ refusing why → at ≤ why.place
unfolding read_on after
reads_from zero c at s why q = not_both q
reads_from (suc more) c at [] why q = not_both q
reads_from (suc more) c at (k ∷ s) why q =
    go (step_of k s c.supplier (tally_of c)) (λ e. reads_from more (with_entry c e) (at + size_of e) (drop (size_of e) (k ∷ s)) why) q
  where
    go : (x : Said Entry) →
        ((e : Entry) → read_on more (with_entry c e) (at + size_of e) (drop (size_of e) (k ∷ s)) ≡ refusing why → at + size_of e ≤ why.place) →
        after x c at (λ size c. read_on more c (at + size) (drop size (k ∷ s))) ≡ refusing why → at ≤ why.place
    go (answered e) on q = omega (arith, on e q)
    go (refusing here) on q =
        let same : refusal here.number (at + here.place) ≡ why = cc in
        omega (arith, ap (λ (r : Refusal). r.place) same)

-- a number below the limit in the place of the first that is not: nothing up to that place is refused
module _ (s : List ℕ) (n p : ℕ) (w : Speaks s n p) (m : Misnames s w.start (tally_of w.before) n p) (x : ℕ)
    (byte : get_or s p 0 < number_limit) (low : x < limit (form_of m.kind).names (tally_of w.before)) where
  abbrev before : Tally
  before = tally_of w.before

  abbrev k : ℕ
  k = kind_byte s n p w

  abbrev mended_bytes : List ℕ
  mended_bytes = set s p x

  abbrev rest : List ℕ
  rest = drop (w.start + 1) mended_bytes

  abbrev force : ℕ
  force = w.before.supplier

  no_supplier : kind_of k ≡ Some Supplier → ⊥
  no_supplier q =
      let same : m.kind ≡ Supplier = cc (sym m.listed ∙ q) in
      let high : number_limit ≤ get_or s p 0 = rw same at m.too_high in
      omega (arith, high, byte)

  start_before : w.start < p
  start_before = m.in_body.0

  -- it is read up to the same entry
  split_mended : drop w.start mended_bytes ≡ k ∷ rest
  split_mended =
      let kind : get_or mended_bytes w.start 0 ≡ k = get_or-set_other s p w.start x 0 (λ z. omega (arith, start_before)) in
      rw (← kind) (bytes_from mended_bytes w.start (omega (arith, start_before, w.within, length-set s p x)))

  read_mended : reading mended_bytes ≡ read_on (suc (length rest)) w.before w.start (k ∷ rest)
  read_mended =
      ap reading (sym (take-append-drop w.start mended_bytes))
      ∙ rw (take-set-le w.start s p x (omega (arith, start_before)), split_mended) (read_up_to s n p w rest)

  -- and there every number up to the place is below the limit
  all_low : (i : ℕ) → w.start < i → i ≤ p → get_or mended_bytes i 0 < limit (form_of m.kind).names before
  all_low i l u =
      by_order i p
      (λ b. rw (get_or-set_other s p i x 0 (λ z. omega arith)) (m.first i l b))
      (λ b. let same : i ≡ p = omega arith in rw (same, get_or-set_same s p x 0 w.within) low)

  same_kind : (kind : Kind) → kind_of k ≡ Some kind → kind ≡ m.kind
  same_kind kind q = let both = sym q ∙ m.listed in cc both

  -- so what the entry still brings points beyond: at its kind byte it would have brought it before, and its numbers up to the place are low
  not_at_kind : (here : Refusal) → step_of k rest force before ≡ refusing here → here.place ≡ 0 → ⊥
  not_at_kind here q z =
      let as_long : length rest ≡ length (behind s n p w) =
      omega (arith, length-drop (w.start + 1) mended_bytes, length-drop (w.start + 1) s, length-set s p x) in
      let brought = sym w.brings ∙ numbers_unseen k rest (behind s n p w) force before here as_long z no_supplier q in
      let same : refusal n (p - w.start) ≡ here = cc brought in
      omega (arith, ap (λ (r : Refusal). r.place) same, start_before)

  misnames_beyond : (here : Refusal) → Misnames (k ∷ rest) 0 before here.number here.place → p < w.start + here.place
  misnames_beyond here h =
      let there : get_or (k ∷ rest) here.place 0 ≡ get_or mended_bytes (w.start + here.place) 0 =
      ap (λ (l : List ℕ). get_or l here.place 0) (sym split_mended) ∙ get_or-drop w.start mended_bytes here.place 0 in
      let high = rw (there, same_kind h.kind h.listed) at h.too_high in
      by_order p (w.start + here.place) (λ b. b)
      (λ b. absurd (omega (arith, high, all_low (w.start + here.place) (omega (arith, h.in_body.0)) b)))

  step_beyond : (here : Refusal) → step_of k rest force before ≡ refusing here → p < w.start + here.place
  step_beyond here q = ⊎_elim (λ e. absurd (not_at_kind here q e.1)) (misnames_beyond here) (step_points k rest force before here q)

  pub mended : (why : Refusal) → reading mended_bytes ≡ refusing why → p < why.place
  unfolding read_on after
  mended why q = go (step_of k rest force before) refl (sym read_mended ∙ q)
    where
      go : (y : Said Entry) → step_of k rest force before ≡ y →
          after y w.before w.start (λ size c. read_on (length rest) c (w.start + size) (drop size (k ∷ rest))) ≡ refusing why → p < why.place
      go (answered e) step q =
          let took = (step_took k rest force before e step).0 in
          let same = same_kind e.kind (rw took.byte at (kind_of_byte e.kind)) in
          let next = reads_from (length rest) (with_entry w.before e) (w.start + size_of e) (drop (size_of e) (k ∷ rest)) why q in
          omega (arith, next, size e, ap body_size same, m.in_body.1)
      go (refusing here) step q =
          let same : refusal here.number (w.start + here.place) ≡ why = cc q in
          omega (arith, ap (λ (r : Refusal). r.place) same, step_beyond here step)

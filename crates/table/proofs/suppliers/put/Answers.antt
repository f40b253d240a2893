-- That `suppliers::put` (src/suppliers.rt) keeps its promise.
use Rattle.std.proofs.Common.{arith, ◌≡◌, ◌∙◌, ◌∷◌, [], ◌++◌, ◌+◌, ◌≤◌, ℕ, List, refl, sym, ap, length, length-append}
use mathlib.Core.List.{append-nil}
use Rattle.entries.specs.declared.Entry.{Entry}
use Rattle.entries.specs.Entries.{bytes_of, size_of, onto}
use Rattle.entries.proofs.Putting.{onto_short, put_both}
use Rattle.table.specs.Suppliers.{supplying, change}
use Rattle.table.specs.Contents.{written}
use Rattle.table.proofs.Marking.{changed, unchanged}
use Rattle.table.proofs.Writing.{written_more}
use Rattle.table.proofs.suppliers.put.Goals as goal

-- the bytes to write, by whether the supplier changes
abbrev bytes : ℕ → ℕ → Entry → List ℕ
bytes force s e = written (change force s ++ (e ∷ []))

sized : (force s : ℕ) (e : Entry) (mark own : ℕ) → mark ≡ length (written (change force s)) → own ≡ size_of e →
    mark + own ≡ length (bytes force s e)
sized force s e mark own m o =
    omega (arith, m, o, ap length (written_more (change force s) e), length-append (written (change force s)) (bytes_of e))

same_bytes : (force s : ℕ) (e : Entry) → s ≡ force → bytes force s e ≡ bytes_of e
unfolding written
same_bytes force s e q = rw (unchanged force s q) (append-nil (bytes_of e))

other_bytes : (force s : ℕ) (e : Entry) → (s ≡ force → ⊥) → bytes force s e ≡ bytes_of (supplying s) ++ bytes_of e
unfolding written
other_bytes force s e q = rw (changed force s q) (ap (λ (l : List ℕ). bytes_of (supplying s) ++ l) (append-nil (bytes_of e)))

-- where it changes, by the sizes of both: all bytes
both_long : (force s : ℕ) (e : Entry) (n : ℕ) → (s ≡ force → ⊥) → n ≡ size_of (supplying s) → length (bytes force s e) ≡ n + size_of e
both_long force s e n q w = omega (arith, ap length (other_bytes force s e q) ∙ length-append (bytes_of (supplying s)) (bytes_of e), w)

pub returns-then-out-size : goal.returns-then-out-size
returns-then-out-size c =
    let a = c.args in
    let long = sized a.force a.s a.e c.change_size.result c.size_of.result c.change_size.ensures.0 c.size_of.ensures.0 in
    (long, onto_short (bytes a.force a.s a.e) a.out.now (omega (arith, long)))

pub returns-then-s-force : goal.returns-then-s-force
returns-then-s-force c = rw (same_bytes c.args.force c.args.s c.args.e c.if-s-force.true) c.put.ensures

-- so both fit where the size does
both_fit : (force s : ℕ) (e : Entry) (n mark own : ℕ) (out : List ℕ) → (s ≡ force → ⊥) → n ≡ size_of (supplying s) →
    mark ≡ length (written (change force s)) → own ≡ size_of e → mark + own ≤ length out → n + size_of e ≤ length out
both_fit force s e n mark own out q w m o fits = omega (arith, both_long force s e n q w, sized force s e mark own m o, fits)

pub slice_bounds-put-count : goal.slice_bounds-put-count
slice_bounds-put-count c =
    let n = c.put-n.ensures.0 ∙ ap size_of c.supplying.ensures in
    let fit = both_fit c.args.force c.args.s c.args.e c.put-n.result c.change_size.result c.size_of.result c.args.out.now c.if-s-force.false n
    c.change_size.ensures.0 c.size_of.ensures.0 c.if-out-size.false in
    omega (arith, fit, c.put-n.auto.out)

pub slice_bounds-put-start : goal.slice_bounds-put-start
slice_bounds-put-start c =
    let n = c.put-n.ensures.0 ∙ ap size_of c.supplying.ensures in
    let fit = both_fit c.args.force c.args.s c.args.e c.put-n.result c.change_size.result c.size_of.result c.args.out.now c.if-s-force.false n
    c.change_size.ensures.0 c.size_of.ensures.0 c.if-out-size.false in
    omega (arith, fit, c.put-n.auto.out)

pub overflow_add-result : goal.overflow_add-result
overflow_add-result c =
    let n = c.put-n.ensures.0 ∙ ap size_of c.supplying.ensures in
    let fit = both_fit c.args.force c.args.s c.args.e c.put-n.result c.change_size.result c.size_of.result c.args.out.now c.if-s-force.false n
    c.change_size.ensures.0 c.size_of.ensures.0 c.if-out-size.false in
    record { fits = omega (arith, fit, c.put-2.ensures.0) }

pub returns : goal.returns
returns c =
    let a = c.args in
    let first = bytes_of (supplying a.s) in
    let own = ap bytes_of c.supplying.ensures in
    let n = c.put-n.ensures.0 ∙ ap size_of c.supplying.ensures in
    let fit = both_fit a.force a.s a.e c.put-n.result c.change_size.result c.size_of.result a.out.now c.if-s-force.false n
    c.change_size.ensures.0 c.size_of.ensures.0 c.if-out-size.false in
    let room : length first + size_of a.e ≤ length a.out.now = omega (arith, fit, n) in
    let one = c.put-n.ensures.1 ∙ ap (λ (b : List ℕ). onto b a.out.now) own in (
      omega (arith, c.put-2.ensures.0, both_long a.force a.s a.e c.put-n.result c.if-s-force.false n),
      put_both a.out.now first (bytes_of a.e) c.put-n.result _ c.put-n.new.out c.put-2.new.out room n one refl c.put-2.ensures.1
          ∙ ap (λ (b : List ℕ). onto b a.out.now) (sym (other_bytes a.force a.s a.e c.if-s-force.false)),
    )

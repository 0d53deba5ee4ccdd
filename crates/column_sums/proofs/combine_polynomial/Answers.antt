use mathlib.Core.Path.{◌∙◌, ◌≡◌, ap, subst, sym}
use mathlib.Core.List.{List}
use Prim.Native.Nat.{◌+◌, ◌<◌, ◌≤◌, ℕ}
use lib.ListN.{length, get_or, length-set, take}
use Rattle.lists.specs.Pieces.{piece}
use Rattle.lists.specs.Fill.{fill_next, fill-rest, filled_none}
use Rattle.algebra.specs.Prime.{q}
use Rattle.algebra.specs.Dot.{dot_n, dots_length}
use Rattle.scheme.specs.Matrix.{column_of, polynomial}
use Rattle.commitment.specs.Shape.{sizes_in}
use Rattle.column_sums.proofs.Columns.{before_below, before_next, coefficients_sum, column-sum, front_count, none_before, polynomial_asks, polynomial_fits, sums-filled, weights_count}
use borrow.Author.Rules.{rules}
use native.Mathlib.Omega.{arith}
use Rattle.column_sums.proofs.combine_polynomial.Goals as goal

pub slice_bounds-dots-end : goal.slice_bounds-dots-end
slice_bounds-dots-end c =
    let s = c.args in
    front_count (sizes_in s.s) s.witness.now.coefficients.now s.witness.now.blinds.now c.requires.0 s.weights.now c.requires.1 s.s.mu (omega arith)

pub offset_bounds-witness-from : goal.offset_bounds-witness-from
offset_bounds-witness-from c =
    let s = c.args in
    let n = c.coefficient_count in
    let f = polynomial_fits (sizes_in s.s) s.witness.now.coefficients.now s.witness.now.blinds.now c.requires.0 s.weights.now c.requires.1 s.i c.requires.3 n.result n.ensures in
    search rules

pub slice_bounds-dots-count : goal.slice_bounds-dots-count
slice_bounds-dots-count c =
    let s = c.args in
    let n = c.coefficient_count in
    let f = polynomial_fits (sizes_in s.s) s.witness.now.coefficients.now s.witness.now.blinds.now c.requires.0 s.weights.now c.requires.1 s.i c.requires.3 n.result n.ensures in
    search rules

pub slice_bounds-dots-start : goal.slice_bounds-dots-start
slice_bounds-dots-start c =
    let s = c.args in
    let n = c.coefficient_count in
    let f = polynomial_fits (sizes_in s.s) s.witness.now.coefficients.now s.witness.now.blinds.now c.requires.0 s.weights.now c.requires.1 s.i c.requires.3 n.result n.ensures in
    search rules

pub dots-requires : goal.dots-requires
dots-requires c =
    let s = c.args in
    let n = c.coefficient_count in
    polynomial_asks (sizes_in s.s) s.witness.now.coefficients.now s.witness.now.blinds.now c.requires.0 s.weights.now c.requires.1 s.i c.requires.3 n.result n.ensures (length s.out.now) c.requires.4

pub bounds-weights-mu : goal.bounds-weights-mu
bounds-weights-mu c =
    let s = c.args in
    let l : length s.weights.now ≡ s.s.mu + s.s.beta = weights_count (sizes_in s.s) s.witness.now.coefficients.now s.witness.now.blinds.now c.requires.0 s.weights.now c.requires.1 in
    search rules

pub loop-t-init : goal.loop-t-init
loop-t-init c =
    let s = c.args in
    let n = c.coefficient_count in
    let dots = c.dots in (
      omega arith,
      none_before (sizes_in s.s) s.witness.now.coefficients.now s.witness.now.blinds.now s.weights.now s.i,
      filled_none (λ j. dot_n s.weights.now (column_of (sizes_in s.s) s.witness.now.coefficients.now s.witness.now.blinds.now s.i j))
          dots.new.out 0 0 (omega arith),
      λ j m u. ap (λ (x : List ℕ). get_or x j 0) dots.ensures
          ∙ coefficients_sum (sizes_in s.s) s.witness.now.coefficients.now s.witness.now.blinds.now c.requires.0 s.weights.now c.requires.1 s.i c.requires.3 n.result n.ensures (length s.out.now) j c.requires.4 (omega (arith, c.requires.4)),
      ap length dots.ensures ∙ dots_length _ (length s.out.now) _ ∙ c.requires.4,
    )

pub slice_bounds-blinding_sum-end : goal.slice_bounds-blinding_sum-end
slice_bounds-blinding_sum-end c =
    let s = c.args in
    front_count (sizes_in s.s) s.witness.now.coefficients.now s.witness.now.blinds.now c.requires.0 s.weights.now c.requires.1 s.s.beta (omega arith)

pub blinding_sum-sum-requires : goal.blinding_sum-sum-requires
blinding_sum-sum-requires c =
    let s = c.args in
    (c.requires.0, sym (front_count (sizes_in s.s) s.witness.now.coefficients.now s.witness.now.blinds.now c.requires.0 s.weights.now c.requires.1 s.s.beta (omega arith)), c.requires.3, omega arith)

pub subtract-lowered-requires : goal.subtract-lowered-requires
subtract-lowered-requires c =
    let s = c.args in
    subst (λ (n : ℕ). n ≤ q) (sym c.loop-t.invariant.1) (before_below (sizes_in s.s) s.witness.now.coefficients.now s.witness.now.blinds.now s.weights.now s.i c.loop-t.t)

pub loop-t-preserved : goal.loop-t-preserved
loop-t-preserved c =
    let s = c.args in
    let loop = c.loop-t in
    let sum = c.blinding_sum-sum in
    let t : ℕ = loop.t in
    let v : ℕ = c.multiply_add.result.0 in
    let l : t < s.s.nu = omega arith in
    let e : v ≡ dot_n s.weights.now (column_of (sizes_in s.s) s.witness.now.coefficients.now s.witness.now.blinds.now s.i t) =
    column-sum (sizes_in s.s) s.witness.now.coefficients.now s.witness.now.blinds.now c.requires.0 s.weights.now c.requires.1 s.i c.requires.3 t (get_or loop.out t 0) loop.before.0 sum.result.0
    c.subtract-lowered.result.0 v l c.requires.2 (loop.invariant.3 t (omega arith) l) loop.invariant.1 sum.ensures c.subtract-lowered.ensures c.multiply_add.ensures in (
      omega arith,
      before_next (sizes_in s.s) s.witness.now.coefficients.now s.witness.now.blinds.now s.weights.now s.i t sum.result.0 sum.ensures,
      fill_next (λ j. dot_n s.weights.now (column_of (sizes_in s.s) s.witness.now.coefficients.now s.witness.now.blinds.now s.i j)) loop.out 0 t v (omega (arith, loop.invariant.4)) e loop.invariant.2,
      fill-rest (λ j. dot_n (take s.s.mu s.weights.now) (piece s.s.mu j (polynomial (sizes_in s.s) s.witness.now.coefficients.now s.witness.now.blinds.now s.i))) loop.out t s.s.nu v loop.invariant.3,
      length-set loop.out t v
          ∙ loop.invariant.4,
    )

pub returns : goal.returns
returns c =
    let s = c.args in
    let e : c.loop-t.t ≡ s.s.nu = omega arith in
    sums-filled (sizes_in s.s) s.witness.now.coefficients.now s.witness.now.blinds.now s.weights.now s.i c.loop-t.out c.loop-t.t e (c.loop-t.invariant.4 ∙ sym e) c.loop-t.invariant.2

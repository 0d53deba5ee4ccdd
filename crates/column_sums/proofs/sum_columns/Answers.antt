use Rattle.commitment.specs.Shape.{sizes_in}
use borrow.Rule.Slice.PartMut.{same_len_mid}
use Rattle.lists.specs.Parts.{row_fits}
use Rattle.column_sums.specs.Sums.{polynomial_sums}
use Rattle.lists.specs.Rows.{front_all, part_length, row_turn, rows_start, rows_of}
use lib.ListN.{drop}
use Rattle.column_sums.proofs.Columns.{columns_by_polynomials, sums-sized}
use mathlib.Core.Path.{◌∙◌, ◌≡◌, ap, refl}
use Prim.Native.Nat.{◌*◌, ◌+◌, ◌-◌, ◌≤◌, ℕ}
use mathlib.Core.List.{List, ◌++◌}
use borrow.Author.Rules.{rules}
use native.Mathlib.Omega.{arith}
use Rattle.column_sums.proofs.sum_columns.Goals as goal

pub loop-i-init : goal.loop-i-init
loop-i-init c =
    let s = c.args in
    (omega arith, rows_start s.s.nu (polynomial_sums (sizes_in s.s) s.witness.now.coefficients.now s.witness.now.blinds.now s.weights.now) s.out.now, refl)

pub overflow_add-to : goal.overflow_add-to
overflow_add-to c =
    let s = c.args in
    let r : s.s.nu * c.loop-i.i + s.s.nu ≤ s.s.nu * s.s.w = row_fits s.s.nu c.loop-i.i s.s.w (omega arith) in
    search rules

pub combine_polynomial-requires : goal.combine_polynomial-requires
combine_polynomial-requires c =
    let s = c.args in
    let r : s.s.nu * c.loop-i.i + s.s.nu ≤ s.s.nu * s.s.w = row_fits s.s.nu c.loop-i.i s.s.w (omega arith) in
    (c.requires.0, c.requires.1, c.requires.2, omega arith, part_length s.s.nu c.loop-i.i c.loop-i.out (omega (arith, c.requires.3)))

pub loop-i-preserved : goal.loop-i-preserved
loop-i-preserved c =
    let s = c.args in
    let loop = c.loop-i in
    let sums = c.combine_polynomial in
    let n : ℕ = s.s.nu in
    let r : List ℕ = sums.new.out in
    let f : ℕ → List ℕ = polynomial_sums (sizes_in s.s) s.witness.now.coefficients.now s.witness.now.blinds.now s.weights.now in (
      omega arith,
      row_turn n f (sums-sized (sizes_in s.s) s.witness.now.coefficients.now s.witness.now.blinds.now s.weights.now) s.out.now loop.out r loop.i loop.invariant.1 sums.ensures,
      same_len_mid (n * loop.i) (n * loop.i + n - n * loop.i) loop.out r sums.auto.out ∙ loop.invariant.2,
    )

pub shape_of-out : goal.shape_of-out
shape_of-out c = c.loop-i.invariant.2

pub returns : goal.returns
returns c =
    let s = c.args in
    let e : c.loop-i.i ≡ s.s.w = omega arith in
    let f : ℕ → List ℕ = polynomial_sums (sizes_in s.s) s.witness.now.coefficients.now s.witness.now.blinds.now s.weights.now in
    c.loop-i.invariant.1
    ∙ ap (λ (k : ℕ). rows_of f k ++ drop (s.s.nu * k) s.out.now) e
    ∙ front_all (rows_of f s.s.w) s.out.now (s.s.nu * s.s.w) (omega (arith, c.requires.3))
    ∙ columns_by_polynomials (sizes_in s.s) s.witness.now.coefficients.now s.witness.now.blinds.now c.requires.0 s.weights.now c.requires.1

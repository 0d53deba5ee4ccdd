-- `planner::work_with` meets its contract.
use mathlib.Core.Path.{ap, ap₂, ◌∙◌}
use Prim.Native.Nat.{ℕ, ◌+◌, ◌-◌, ◌*◌, ◌≤◌}
use native.Mathlib.Nat.{mul-le-mul, mul-one}
use native.Mathlib.Omega.{arith}
use Rattle.tree.specs.Leaf.{record_start}
use Rattle.tree.specs.Work.{permutations_for}
use Rattle.scheme.proofs.Work.{leaf_high}
use Rattle.commitment.specs.Shape.{sizes_in}
use Rattle.planner.proofs.work_with.Goals as goal

pub overflow_mul-result : goal.overflow_mul-result
overflow_mul-result c =
    let s = c.args in
    let g = c.requires.0 in
    let leaf : c.permutations_for-leaf.result ≤ 3 = omega (arith, c.permutations_for-leaf.ensures, ap (λ (n : ℕ). permutations_for (record_start + n)) c.record_length.ensures, leaf_high (sizes_in s.s) g) in
    omega (arith, mul-le-mul {n₂ = 64} {m₂ = 3} g.ℓ-high leaf)

pub overflow_mul-result-2 : goal.overflow_mul-result-2
overflow_mul-result-2 c =
    let s = c.args in
    omega (arith, ap (λ (k : ℕ). (s.s.l + s.missing - 1) * k) c.permutations_for.ensures, mul-one (s.s.l + s.missing - 1), c.requires.1, c.requires.0.ℓ-high)

pub overflow_add-result : goal.overflow_add-result
overflow_add-result c =
    let s = c.args in
    let g = c.requires.0 in
    let leaf : c.permutations_for-leaf.result ≤ 3 = omega (arith, c.permutations_for-leaf.ensures, ap (λ (n : ℕ). permutations_for (record_start + n)) c.record_length.ensures, leaf_high (sizes_in s.s) g) in
    omega (arith, mul-le-mul {n₂ = 64} {m₂ = 3} g.ℓ-high leaf, ap (λ (k : ℕ). (s.s.l + s.missing - 1) * k) c.permutations_for.ensures, mul-one (s.s.l + s.missing - 1), c.requires.1, g.ℓ-high)

pub returns : goal.returns
returns c =
    let s = c.args in
    ap₂ (λ (j k : ℕ). s.s.l * j + (s.s.l + s.missing - 1) * k) (c.permutations_for-leaf.ensures ∙ ap (λ (n : ℕ). permutations_for (record_start + n)) c.record_length.ensures) c.permutations_for.ensures

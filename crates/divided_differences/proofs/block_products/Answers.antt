use mathlib.Core.Path.{◌≡◌, subst}
use Prim.Native.Nat.{ℕ, ◌+◌}
use lib.ListN.{length}
use Rattle.lists.specs.Fill.{Filled, filled_is}
use Rattle.algebra.specs.Rests.{product_n}
use native.Mathlib.Omega.{arith}
use Rattle.divided_differences.proofs.block_products.Goals as goal

pub returns : goal.returns
returns c =
    let loop = c.loop-i in
    let f : ℕ → ℕ = λ j. product_n c.args.points.now (c.args.from + j) (c.args.from + j) in
    let n : ℕ = length c.args.out.now in
    let e : loop.i ≡ n = omega arith in
    filled_is f loop.out n loop.invariant.0 (subst (λ (k : ℕ). Filled f loop.out 0 k) e loop.invariant.1)

use mathlib.Core.Path.{◌≡◌, subst}
use Prim.Native.Nat.{ℕ}
use lib.ListN.{length}
use Rattle.lists.specs.Fill.{Filled, filled_is}
use Rattle.algebra.specs.Sums.{reduced_at}
use native.Mathlib.Omega.{arith}
use Rattle.row_sums.proofs.reduce_sums.Goals as goal

pub returns : goal.returns
returns c =
    let loop = c.loop-i in
    let s = c.args in
    let f : ℕ → ℕ = reduced_at s.low.now s.high.now in
    let e : loop.i ≡ length s.out.now = omega arith in
    filled_is f loop.out (length s.out.now) loop.invariant.0 (subst (λ (k : ℕ). Filled f loop.out 0 k) e loop.invariant.1)

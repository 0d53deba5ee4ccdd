use Prim.Native.Nat.{ℕ}
use Rattle.algebra.specs.BarycentricTurns.{weighed_done}
use native.Mathlib.Omega.{arith}
use Rattle.barycentric.proofs.weigh.Goals as goal

pub returns : goal.returns
returns c =
    let loop = c.loop-i in
    weighed_done c.args.weights.now c.args.values.now loop.values (omega arith) (λ (j : ℕ) m u. loop.invariant.1 j m (omega arith))

use Prim.Native.Nat.{ℕ}
use lib.ListN.{length-set}
use Rattle.algebra.specs.Inverse.{inv_n}
use Rattle.algebra.specs.BarycentricTurns.{inverse_first, inverse_turn}
use Rattle.lists.specs.Fill.{fill_next}
use native.Mathlib.Omega.{arith}
use Rattle.barycentric.proofs.inverses.Goals as goal

pub loop-k-init : goal.loop-k-init
loop-k-init c = (length-set c.args.out.now 1 1, inverse_first c.args.out.now c.requires.0)

pub loop-k-preserved : goal.loop-k-preserved
loop-k-preserved c =
    let loop = c.loop-k in
    let v : ℕ = c.multiply.result.0 in
    (simp length-set loop.invariant.0, fill_next inv_n loop.out 1 loop.k v (omega arith) (inverse_turn loop.k loop.out v (omega arith) (omega arith) loop.invariant.1 c.multiply.ensures) loop.invariant.1)

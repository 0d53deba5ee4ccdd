-- `prover::proof_bound` meets its contract.
use native.Mathlib.Nat.{mul-le-mul}
use Rattle.commitment.specs.Shape.{sizes_in}
use Rattle.commitment.proofs.Places.{nodes_high}
use Prim.Native.Nat.{◌*◌, ◌≤◌}
use borrow.Author.Rules.{rules}
use native.Mathlib.Omega.{arith}
use Rattle.prover.proofs.proof_bound.Goals as goal

pub overflow_mul-nodes : goal.overflow_mul-nodes
overflow_mul-nodes c =
    let nodes : c.args.s.l * c.args.s.h ≤ 768 = mul-le-mul {n₂ = 64} {m₂ = 12} c.requires.0.ℓ-high c.requires.0.h_high in search rules

pub overflow_mul-reply : goal.overflow_mul-reply
overflow_mul-reply c =
    let nodes : c.args.s.l * c.args.s.h ≤ 768 = mul-le-mul {n₂ = 64} {m₂ = 12} c.requires.0.ℓ-high c.requires.0.h_high in search rules

pub overflow_add-reply : goal.overflow_add-reply
overflow_add-reply c =
    let nodes : c.args.s.l * c.args.s.h ≤ 768 = mul-le-mul {n₂ = 64} {m₂ = 12} c.requires.0.ℓ-high c.requires.0.h_high in
    let high = nodes_high (sizes_in c.args.s) c.requires.0 c.args.m c.requires.1 in
    omega (arith, nodes, high, c.nodes_at.ensures)

pub overflow_add-result : goal.overflow_add-result
overflow_add-result c =
    let nodes : c.args.s.l * c.args.s.h ≤ 768 = mul-le-mul {n₂ = 64} {m₂ = 12} c.requires.0.ℓ-high c.requires.0.h_high in
    let high = nodes_high (sizes_in c.args.s) c.requires.0 c.args.m c.requires.1 in
    omega (arith, nodes, high, c.nodes_at.ensures)

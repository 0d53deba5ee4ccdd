-- `planner::length_with` meets its contract.
use mathlib.Core.Path.{sym, subst}
use Prim.Native.Nat.{ℕ, ◌≤◌}
use Rattle.commitment.specs.Shape.{sizes_in}
use Rattle.commitment.proofs.Places.{nodes_high}
use borrow.Author.Rules.{rules}
use Rattle.planner.proofs.length_with.Goals as goal

pub overflow_add-result : goal.overflow_add-result
overflow_add-result c =
    let s = c.args in
    let i : c.nodes_at.result ≤ 34816 = subst (λ (k : ℕ). k ≤ 34816) (sym c.nodes_at.ensures) (nodes_high (sizes_in s.s) c.requires.0 s.m c.requires.1) in
    search rules

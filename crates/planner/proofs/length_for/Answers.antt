-- `planner::length_for` meets its contract.
use mathlib.Core.Path.{sym, subst}
use Prim.Native.Nat.{ℕ, ◌≤◌}
use Rattle.commitment.proofs.Places.{missing-high}
use Rattle.planner.specs.Planned.{most_missing}
use Rattle.planner.proofs.length_for.Goals as goal

pub length_with-requires : goal.length_with-requires
length_with-requires c =
    let s = c.args in
    let p = c.requires in
    (p.0, p.1, subst (λ (k : ℕ). k ≤ most_missing) (sym c.count_missing.ensures) (missing-high s.s.h s.indices.now p.2))

-- `commitment::answers_at` meets its contract.
use mathlib.Core.Path.{sym, ap, subst}
use Prim.Native.Nat.{ℕ, ◌*◌, ◌≤◌}
use Rattle.commitment.specs.Shape.{sizes_in}
use Rattle.commitment.proofs.Places.{answers_high}
use borrow.Author.Rules.{rules}
use Rattle.commitment.proofs.answers_at.Goals as goal

pub overflow_mul-result-2 : goal.overflow_mul-result-2
overflow_mul-result-2 c =
    let s = c.args.s in
    let h : 4 * c.row_width.result * s.eta ≤ 5120 = subst (λ (k : ℕ). 4 * k * s.eta ≤ 5120) (sym c.row_width.ensures) (answers_high (sizes_in s) c.requires) in
    search rules

pub returns : goal.returns
returns c = ap (λ (k : ℕ). 4 * k * c.args.s.eta) c.row_width.ensures

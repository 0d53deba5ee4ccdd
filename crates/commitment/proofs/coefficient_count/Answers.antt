-- `commitment::coefficient_count` meets its contract.
use Rattle.commitment.specs.Shape.{sizes_in}
use Rattle.commitment.proofs.Places.{rows_of_coefficients_high}
use Prim.Native.Nat.{◌*◌, ◌≤◌}
use borrow.Author.Rules.{rules}
use Rattle.commitment.proofs.coefficient_count.Goals as goal

pub overflow_mul-result : goal.overflow_mul-result
overflow_mul-result c =
    let h : c.args.s.mu * c.args.s.nu ≤ 16384 = rows_of_coefficients_high (sizes_in c.args.s) c.requires in search rules

pub overflow_add-result : goal.overflow_add-result
overflow_add-result c =
    let h : c.args.s.mu * c.args.s.nu ≤ 16384 = rows_of_coefficients_high (sizes_in c.args.s) c.requires in search rules

-- `commitment::blind_count` meets its contract.
use Rattle.commitment.specs.Shape.{sizes_in}
use Rattle.commitment.proofs.Places.{blinds_high}
use Prim.Native.Nat.{◌*◌, ◌-◌, ◌≤◌}
use borrow.Author.Rules.{rules}
use Rattle.commitment.proofs.blind_count.Goals as goal

pub overflow_mul-result : goal.overflow_mul-result
overflow_mul-result c =
    let h : (c.args.s.nu - 1) * c.args.s.beta ≤ 4080 = blinds_high (sizes_in c.args.s) c.requires in search rules

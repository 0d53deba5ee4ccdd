use Rattle.std.proofs.Common.{◌≤◌, ◌%◌, ◌^◌, arith}
use Rattle.std.proofs.lemmas.Nat.{pow_pos}
use Rattle.std.proofs.Math.Pow.{pow_mono}
use Rattle.runs.proofs.sizes.leaves_of.Goals as goal

pub returns : goal.returns
returns c =
    let h = c.args.h % 13 in
    let low = pow_pos h in
    let high : 2 ^ h ≤ 2 ^ 12 = pow_mono {i = h} {j = 12} (omega arith) in
    (omega (arith, low, c.leaf_count.ensures), omega (arith, high, c.leaf_count.ensures))

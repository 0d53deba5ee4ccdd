-- `extrapolation::extrapolate` meets its contract: two walks, the first to the differences, the second over the points before.
use Prim.Native.Nat.{◌+◌, ◌*◌, ◌/◌}
use Rattle.extrapolation.proofs.Walks.{enough_lines, extrapolated}
use Rattle.extrapolation.proofs.extrapolate.Goals as goal

pub returns : goal.returns
returns c =
    let s = c.args
    in let pre = c.requires
    in (
      c.walk-2.ensures.0,
      c.walk-2.ensures.1,
      extrapolated s.values.now s.lanes s.width (5 * ((s.width + 4) / 5)) s.n s.lo s.stride
          c.load.new.t
          c.walk.new.out
          c.load-2.new.t c.walk-2.new.out pre.0 (enough_lines s.width)
          c.load.ensures.1
          c.walk.ensures.2
          c.load-2.ensures.1 c.walk-2.ensures.2,
    )

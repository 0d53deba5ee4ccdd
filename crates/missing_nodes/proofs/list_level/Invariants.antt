-- `list_level` meets its contract.
use Prim.Native.Nat.{◌-◌}
use lib.ListN.{length, take}
use Rattle.missing_nodes.proofs.ListedLevels.{LevelInv}
use Rattle.missing_nodes.proofs.list_level.Given as goal

abbrev pub invariant-loop-a : goal.invariant-loop-a
invariant-loop-a l =
    LevelInv l.b (take (length l.set) l.set) (length l.set) l.tree l.start l.initial.out l.t-2 l.out l.a l.t

abbrev pub decreases-loop-a : goal.decreases-loop-a
decreases-loop-a l = length l.set - l.a

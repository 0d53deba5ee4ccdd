-- `fill_levels` meets its contract.
use Prim.Native.Nat.{◌-◌}
use Rattle.tree_fill.proofs.Filling.{FillLevelsInv}
use Rattle.tree_fill.proofs.fill_levels.Given as goal

abbrev pub invariant-loop : goal.invariant-loop
invariant-loop l =
    FillLevelsInv l.b l.h l.n-2 l.initial.tree l.initial.buf l.off l.tree l.buf (l.h - l.counter) l.n l.start

-- `count_nodes` meets its contract.
use Prim.Native.Nat.{◌-◌}
use Rattle.missing_nodes.proofs.Counting.{CountInv}
use Rattle.missing_nodes.proofs.count_nodes.Given as goal

abbrev pub invariant-loop : goal.invariant-loop
invariant-loop l = CountInv l.b l.bits l.h l.indices l.n l.t l.shift (l.h - l.counter)

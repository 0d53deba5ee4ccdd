-- `expansion::expand_singly` meets its contract. The invariant: the form from the point k on is expanded.
use mathlib.Core.Path.{◌≡◌}
use Prim.Native.Nat.{◌≤◌}
use lib.ListN.{length}
use Rattle.algebra.specs.Divided.{expanded}
use Rattle.expansion.proofs.expand_singly.Given as goal

abbrev pub invariant-loop-k : goal.invariant-loop-k
invariant-loop-k l = (l.k ≤ length l.points) × (l.s ≡ expanded l.points l.initial.s l.k) × (length l.s ≡ length l.points)

-- `codec::elements_ok` meets its contract. The invariant: `ok` is the test of the words so far.
use mathlib.Core.Path.{◌≡◌}
use Prim.Native.Nat.{◌≤◌}
use lib.ListN.{length, take}
use Rattle.scheme.specs.Sizes.{elements}
use Rattle.codec.proofs.elements_ok.Given as goal

abbrev pub invariant-loop-x : goal.invariant-loop-x
invariant-loop-x l = (l.x-index ≤ length l.xs) × (l.ok ≡ elements (take l.x-index l.xs))

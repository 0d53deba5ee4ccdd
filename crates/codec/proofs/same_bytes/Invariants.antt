-- `codec::same_bytes` meets its contract. The invariant: `ok` is the test of the bytes so far.
use mathlib.Core.Path.{◌≡◌}
use lib.ListN.{length, take}
use Rattle.lists.specs.Tests.{same}
use Rattle.codec.proofs.same_bytes.Given as goal

abbrev pub invariant-loop-x : goal.invariant-loop-x
invariant-loop-x l = l.ok ≡ same (take (length l.yielded) l.a) (take (length l.yielded) l.b)

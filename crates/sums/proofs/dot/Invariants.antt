-- `sums::dot` meets its contract. The invariant: the two sums are those of the products so far.
use lib.ListN.{length}
use Rattle.algebra.specs.Wrapped.{Wrapped}
use Rattle.sums.proofs.dot.Given as goal

abbrev pub invariant-loop-x : goal.invariant-loop-x
invariant-loop-x l = Wrapped l.a l.b (length l.yielded) l.s.all l.s.upper

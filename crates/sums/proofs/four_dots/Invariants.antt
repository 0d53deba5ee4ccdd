-- `sums::four_dots` meets its contract. The invariant: the sums are those of the products so far.
use Rattle.algebra.specs.Wrapped.{Wrapped}
use Rattle.sums.proofs.four_dots.Given as goal

abbrev pub invariant-loop-i : goal.invariant-loop-i
invariant-loop-i l =
    Wrapped l.weights l.a l.i l.s.all l.s.upper × Wrapped l.weights l.b l.i l.t.all l.t.upper × Wrapped l.weights l.c l.i l.u.all l.u.upper × Wrapped l.weights l.d l.i l.v.all l.v.upper

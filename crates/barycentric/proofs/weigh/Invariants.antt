-- `barycentric::weigh` meets its contract. The invariant: the places below i are weighed, the others are as they were.
use mathlib.Core.Path.{◌≡◌}
use Prim.Native.Nat.{◌*◌, ◌%◌}
use lib.ListN.{length, get_or}
use Rattle.algebra.specs.Prime.{q}
use Rattle.lists.specs.Fill.{Filled, entry_of}
use Rattle.barycentric.proofs.weigh.Given as goal

abbrev pub invariant-loop-i : goal.invariant-loop-i
invariant-loop-i l =
    (length l.values ≡ length l.initial.values) × Filled (λ j. get_or l.weights j 0 * get_or l.initial.values j 0 % q) l.values 0 l.i × Filled (entry_of l.initial.values) l.values l.i (length l.initial.values)

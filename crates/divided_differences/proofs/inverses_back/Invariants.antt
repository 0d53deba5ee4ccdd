-- `divided_differences::inverses_back` meets its contract. The invariant: a is the inverse of the product of the first i entries; from place i on stand inverses.
use mathlib.Core.Path.{◌≡◌}
use Prim.Native.Nat.{◌*◌, ◌%◌, ◌≤◌}
use lib.ListN.{length, get_or}
use Rattle.lists.specs.Fill.{Filled, entry_of}
use Rattle.algebra.specs.Prime.{q}
use Rattle.algebra.specs.Inverse.{inv_n}
use Rattle.algebra.specs.Inverses.{before_n}
use Rattle.divided_differences.proofs.inverses_back.Given as goal

abbrev pub invariant-loop-i : goal.invariant-loop-i
invariant-loop-i l =
    (l.i ≤ length l.initial.s) × (length l.before ≡ length l.initial.s) × (length l.s ≡ length l.initial.s) × ((l.a.0 * before_n l.initial.s l.i) % q ≡ 1) × Filled (entry_of l.initial.s) l.s 0 l.i × Filled (λ j. inv_n (get_or l.initial.s j 0)) l.s l.i (length l.initial.s)

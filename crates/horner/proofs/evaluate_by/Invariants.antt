-- `horner::evaluate_by` meets its contract. The invariant: whole spans are left in front, and `value` is the value of the coefficients behind them.
use mathlib.Core.Path.{◌≡◌}
use Prim.Native.Nat.{◌%◌, ◌≤◌}
use lib.ListN.{length, take, drop}
use Rattle.std.specs.Slice.Exact.{rchunks_exact_rest, rchunks_exact_size}
use Rattle.algebra.specs.Numbers.{eval_n}
use Rattle.horner.proofs.evaluate_by.Given as goal

abbrev pub invariant-loop-part : goal.invariant-loop-part
invariant-loop-part l =
    let left = rchunks_exact_rest l.part-iterator in
    (rchunks_exact_size l.part-iterator ≡ length l.powers) × (left ≡ take (length left) l.coefficients) × (length left ≤ length l.coefficients) × (length left % length l.powers ≡ 0) × (l.value.0 ≡ eval_n (drop (length left) l.coefficients) l.fn.x.0)

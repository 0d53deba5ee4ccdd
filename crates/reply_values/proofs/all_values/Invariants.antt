-- `reply_values::all_values` meets its contract: after p turns the values of the first p points are written.
use mathlib.Core.Path.{◌≡◌}
use mathlib.Core.List.{◌++◌}
use Prim.Native.Nat.{◌*◌}
use lib.ListN.{length, drop}
use Rattle.lists.specs.Bytes.{words}
use Rattle.lists.specs.Rows.{rows_of}
use Rattle.reply_values.specs.Values.{values_at}
use Rattle.reply_values.proofs.all_values.Given as goal

abbrev pub invariant-loop-p : goal.invariant-loop-p
invariant-loop-p l =
    l.values ≡ rows_of (values_at l.s.mu l.s.nu l.s.w (length l.initial.answer) l.points (words (length l.initial.answer * length l.points) (drop l.at l.reply))) l.p ++ drop (l.s.w * l.p) l.initial.values

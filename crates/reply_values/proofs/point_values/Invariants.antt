-- `reply_values::point_values` meets its contract: after i turns the first i values are written.
use mathlib.Core.Path.{◌≡◌}
use mathlib.Core.List.{◌++◌}
use lib.ListN.{drop}
use Rattle.reply_values.specs.Values.{point_values}
use Rattle.reply_values.proofs.point_values.Given as goal

abbrev pub invariant-loop-i : goal.invariant-loop-i
invariant-loop-i l = l.out ≡ point_values l.nu l.base.0 l.answer l.i ++ drop l.i l.initial.out

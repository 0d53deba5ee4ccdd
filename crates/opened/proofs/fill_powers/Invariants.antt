-- `opened::fill_powers` meets its contract: after a turns the first a rows are written.
use mathlib.Core.Path.{◌≡◌}
use mathlib.Core.List.{◌++◌}
use Prim.Native.Nat.{◌*◌}
use lib.ListN.{drop}
use Rattle.lists.specs.Rows.{rows_of}
use Rattle.opened.specs.Powers.{powers_at}
use Rattle.opened.proofs.fill_powers.Given as goal

abbrev pub invariant-loop-a : goal.invariant-loop-a
invariant-loop-a l = l.table ≡ rows_of (powers_at l.n l.xs) l.a ++ drop (l.n * l.a) l.initial.table

-- `codec::put_halves` meets its contract.
use Rattle.lists.specs.Bytes.{little_endian}
use lib.ListN.{length}
use mathlib.Core.Path.{◌≡◌}
use Rattle.lists.specs.Spliced.{up_to}
use Rattle.codec.proofs.put_halves.Given as goal

abbrev pub invariant-loop-i : goal.invariant-loop-i
invariant-loop-i l = (length l.out ≡ length l.initial.out) × (l.out ≡ up_to (little_endian 2) l.numbers 2 l.at l.initial.out l.i)

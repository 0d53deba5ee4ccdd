-- `codec::put_words` meets its contract.
use mathlib.Core.Path.{◌≡◌}
use Prim.Native.Nat.{◌*◌}
use lib.ListN.{length, take}
use Rattle.lists.specs.Bytes.{bytes_of}
use Rattle.lists.specs.Spliced.{spliced}
use Rattle.codec.proofs.put_words.Given as goal

abbrev pub invariant-loop-i : goal.invariant-loop-i
invariant-loop-i l = (length l.out ≡ length l.initial.out) × (l.out ≡ spliced l.at (4 * l.i) (bytes_of (take l.i l.words)) l.initial.out)

-- `opener::put_records` meets its contract. The invariant: the first a records are written.
use mathlib.Core.Path.{◌≡◌}
use Prim.Native.Nat.{◌-◌, ◌≤◌}
use lib.ListN.{length}
use Rattle.scheme.specs.Reply.{record_length}
use Rattle.scheme.specs.Commit.{leaf_record}
use Rattle.commitment.specs.Shape.{sizes_in}
use Rattle.lists.specs.Spliced.{up_to}
use Rattle.opener.proofs.put_records.Given as goal

abbrev pub invariant-loop-a : goal.invariant-loop-a
invariant-loop-a l = (l.a-end ≡ length l.indices) × (l.a ≤ l.a-end) × (l.out ≡ up_to (leaf_record (sizes_in l.s) l.table l.nonces) l.indices (record_length (sizes_in l.s)) l.at l.initial.out l.a) × (length l.out ≡ length l.initial.out)

abbrev pub decreases-loop-a : goal.decreases-loop-a
decreases-loop-a l = l.a-end - l.a

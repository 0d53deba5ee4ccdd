-- `reply_root::leaf_digests` meets its contract: after a turns the digests of the first a leaves are written, and their permutations counted.
use mathlib.Core.Path.{◌≡◌}
use mathlib.Core.List.{◌++◌}
use Prim.Native.Nat.{◌+◌, ◌*◌}
use lib.ListN.{drop}
use Rattle.lists.specs.Rows.{rows_of}
use Rattle.tree.specs.Leaf.{record_start}
use Rattle.tree.specs.Work.{permutations_for}
use Rattle.reply_root.specs.Root.{leaf_digest_at}
use Rattle.reply_root.proofs.leaf_digests.Given as goal

abbrev pub invariant-loop-a : goal.invariant-loop-a
invariant-loop-a l =
    (l.out ≡ rows_of (leaf_digest_at l.salt l.records.at l.records.size l.indices l.records.reply.now) l.a ++ drop (32 * l.a) l.initial.out) × (l.ran ≡ l.a * permutations_for (record_start + l.records.size))

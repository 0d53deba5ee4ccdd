-- `committer::hash_leaves` meets its contract: after i turns the digests of the first i leaves are written.
use mathlib.Core.Path.{◌≡◌}
use mathlib.Core.List.{◌++◌}
use Prim.Native.Nat.{◌*◌, ◌≤◌}
use lib.ListN.{length, drop}
use Rattle.lists.specs.Rows.{rows_of}
use Rattle.committer.specs.Clauses.{digest_of}
use Rattle.committer.proofs.hash_leaves.Given as goal

abbrev pub invariant-loop-index : goal.invariant-loop-index
invariant-loop-index l = (l.index ≤ l.n) × (length l.tree ≡ length l.initial.tree) × (l.tree ≡ rows_of (digest_of l.values l.table l.nonces l.salt) l.index ++ drop (32 * l.index) l.initial.tree)

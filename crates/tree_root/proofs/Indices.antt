-- From a set of leaf indices to what `root_from` asks for, and from what it gives to what `root_of` gives.
use mathlib.Core.List.{List}
use mathlib.Core.Path.{◌≡◌, ap}
use Prim.Native.Nat.{ℕ, ◌*◌, ◌≤◌}
use native.Mathlib.Nat.{mul-le-mul, one-mul}
use native.Mathlib.Omega.{arith}
use lib.ListN.{length}
use lib.Seq.{take-length}
use Rattle.lists.specs.Bytes.{Bytes}
use Rattle.tree.specs.Clauses.{IndexSet}
use Rattle.tree.specs.Ancestors.{nodes_above}
use Rattle.tree.specs.Leaf.{prefix_length}
use Rattle.tree.specs.Sets.{missing}
use Rattle.tree.specs.Work.{permutations_for}
use Rattle.tree.proofs.Above.{above_bound}
use Rattle.node_sets.proofs.Sets.{index_nodes}
use Rattle.tree_root.specs.Clauses.{CanRoot}

pub index_root : {h : ℕ} {s : List ℕ} → IndexSet h s
    → {dig nodes buf : Bytes} → 32 * length s ≤ length dig → length buf ≡ 97 → 32 * length (missing 2 h s) ≤ length nodes
    → CanRoot 2 h s (length s) dig nodes buf prefix_length
index_root {h} {s} i {nodes = nodes} {buf = buf} d b n = record {
  set = index_nodes i;
  some = i.some;
  digests = d;
  leaves = rw take-length i.leaves;
  room = omega arith;
  listed = rw take-length (omega arith);
  countable = rw take-length (omega (arith, above_bound 2 h s, mul-le-mul {n₂ = 64} {m₂ = 12} i.few i.depth, ap permutations_for b, one-mul (length (nodes_above 2 h s)), ap (λ (k : ℕ). length (nodes_above 2 h s) * k) (ap permutations_for b)));
}

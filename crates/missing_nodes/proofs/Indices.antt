-- From a set of leaf indices to what the inner functions ask for.
use mathlib.Core.List.{List}
use mathlib.Core.Path.{◌≡◌, refl, ap}
use Prim.Native.Nat.{ℕ, ◌*◌, ◌^◌, ◌≤◌}
use native.Mathlib.Nat.{mul-one, mul-le-mul}
use native.Mathlib.Omega.{arith}
use lib.ListN.{length}
use lib.Seq.{take-length}
use Rattle.lists.specs.Bytes.{Bytes}
use Rattle.lists.specs.Rising.{Rising}
use Rattle.tree.specs.Clauses.{IndexSet}
use Rattle.tree.specs.Sets.{missing, tree_size}
use Rattle.tree.proofs.Counts.{missing_bound}
use Rattle.node_sets.proofs.Sets.{index_nodes}
use Rattle.missing_nodes.specs.Clauses.{CanCount, CanListNodes}

-- at most one node for each index and level
missing_few : (h : ℕ) (s : List ℕ) → Rising s → length (missing 2 h s) ≤ length s * h
missing_few h s r = omega (arith, missing_bound 1 h s r, ap (λ (k : ℕ). k * h) (mul-one (length s)))

pub index_count : {h : ℕ} {s : List ℕ} → IndexSet h s → CanCount 2 1 h s
index_count {h} {s} i = record {
  arity = refl;
  few = omega arith;
  deep = omega (arith, i.depth);
  some = i.some;
  count = i.few;
  rising = i.rising;
  total = omega (arith, missing_few h s i.rising, mul-le-mul i.few i.depth);
}

pub index_list : {h : ℕ} {s : List ℕ} → IndexSet h s
    → {width : ℕ} {tree out : Bytes} → width ≡ 2 ^ h → length tree ≡ 32 * tree_size 2 h → 32 * length (missing 2 h s) ≤ length out
    → CanListNodes 2 h width s (length s) tree out
index_list i w t o = record {
  set = index_nodes i;
  wide = w;
  leaves = rw take-length i.leaves;
  tree_has = omega (arith, t);
  room = rw take-length o;
}

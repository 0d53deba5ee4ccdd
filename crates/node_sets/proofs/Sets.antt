-- Sets of nodes: leaf indices are one, and the parents of one are one.
use mathlib.Core.List.{List, ◌++◌}
use mathlib.Core.Path.{◌≡◌, ◌∙◌}
use Prim.Native.Nat.{ℕ, ◌^◌, ◌≤◌, ◌<◌}
use native.Mathlib.Nat.{div-le_self}
use native.Mathlib.Omega.{arith}
use lib.ListN.{length, take, drop, length-take, length-drop, length-append}
use lib.Seq.{take-length, length-take-le}
use Rattle.std.proofs.lemmas.List.{take-append-le}
use lib.Pow.{pow_mono}
use Rattle.lists.specs.All.{Below, all_imp, below_mem, mem_below}
use Rattle.tree.specs.Clauses.{IndexSet}
use Rattle.tree.specs.Sets.{parents}
use Rattle.tree.proofs.Counts.{parents-rising, parents_count}
use Rattle.tree.proofs.Members.{parents_of}
use Rattle.node_sets.specs.Clauses.{NodeSet}

pub index_nodes : {h : ℕ} {s : List ℕ} → IndexSet h s → NodeSet 2 s (length s)
index_nodes {h} {s} i = record {
  arity = omega arith;
  few = omega arith;
  indices = omega arith;
  rising = rw take-length i.rising;
  small = rw take-length (all_imp (λ (k : ℕ) (l : k < 2 ^ h). omega (arith, pow_mono i.depth)) s i.leaves);
}

-- the set alone, a slice of its own
pub set-alone : {b : ℕ} {idx : List ℕ} {n : ℕ} → NodeSet b idx n → NodeSet b (take n idx) (length (take n idx))
set-alone {b} {idx} {n} o = record {
  arity = o.arity;
  few = o.few;
  indices = omega arith;
  rising = rw (take-length (take n idx)) o.rising;
  small = rw (take-length (take n idx)) o.small;
}

-- leaf indices fit in two bytes
pub indices_small : {h : ℕ} {s : List ℕ} → IndexSet h s → Below 65536 s
indices_small {h} {s} i = all_imp (λ (k : ℕ) (l : k < 2 ^ h). omega (arith, pow_mono i.depth)) s i.leaves

-- the parents
pub set-kept : {b : ℕ} {idx idx' : List ℕ} {n w : ℕ} → NodeSet b idx n → w ≡ length (parents b (take n idx)) → take w idx' ≡ parents b (take n idx)
    → length idx' ≡ length idx → NodeSet b idx' w
set-kept {b} {idx} {idx'} {n} {w} o e q l =
    let s : List ℕ = take n idx in
    record {
      arity = o.arity;
      few = o.few;
      indices = omega (arith, o.indices, parents_count b s, length-take n idx);
      rising = rw q (parents-rising b s o.arity o.rising);
      small = rw q (mem_below 2147483648 (parents b s) (λ p m. let r = parents_of b s m in omega (arith, below_mem 2147483648 s o.small r.0 r.1, div-le_self r.0 b, r.2)));
    }

pub set_fewer : {b : ℕ} {idx : List ℕ} {n w : ℕ} → NodeSet b idx n → w ≡ length (parents b (take n idx)) → w ≤ n
set_fewer {b} {idx} {n} o e = omega (arith, parents_count b (take n idx), length-take n idx)

-- the parents have come back in front of a slice that held the set, new, of which idx has the rest
module _ {b : ℕ} {idx : List ℕ} {n : ℕ} (o : NodeSet b idx n) (new : List ℕ) (same : length new ≡ length (take n idx)) where
  pub parents-put : {w : ℕ} → w ≡ length (parents b (take n idx)) → take w new ≡ parents b (take n idx) → take w (new ++ drop n idx) ≡ parents b (take n idx)
  parents-put {w} e q =
      let fits : w ≤ length new = omega (arith, set_fewer o e, same, length-take-le n idx o.indices) in
      take-append-le w new (drop n idx) fits ∙ q

  pub parents-room : length (new ++ drop n idx) ≡ length idx
  parents-room = length-append new (drop n idx) ∙ omega (arith, same, length-take-le n idx o.indices, length-drop n idx, o.indices)

-- `reply_root::reply_root` meets its contract.
use mathlib.Core.Path.{◌∙◌}
use Prim.Native.Nat.{◌+◌, ◌*◌, ◌≤◌}
use native.Mathlib.Nat.{mul-le-mul}
use lib.ListN.{length, drop, replicate}
use Rattle.tree.specs.Leaf.{record_start}
use Rattle.tree.specs.Work.{permutations_for}
use Rattle.tree.proofs.Above.{above_bound}
use Rattle.reply_root.proofs.Roots.{root_read}
use Rattle.node_sets.proofs.Sets.{indices_small}
use native.Mathlib.Omega.{arith}
use Rattle.reply_root.proofs.reply_root.Goals as goal

pub leaf_digests-leaves-requires : goal.leaf_digests-leaves-requires
leaf_digests-leaves-requires c =
    let p = c.requires in
    (p.0, indices_small p.1, p.2, omega arith, omega (arith, p.1.few))

pub overflow_add-result : goal.overflow_add-result
overflow_add-result c =
    let s = c.args in
    let p = c.requires in
    let i = p.1 in
    let leaf : permutations_for (record_start + s.size) ≤ 3 = omega (arith, p.2) in
    let leaves : c.leaf_digests-leaves.result ≤ 64 * 3 = omega (arith, c.leaf_digests-leaves.ensures.value, mul-le-mul {n₂ = 64} {m₂ = 3} i.few leaf) in
    let nodes : c.root_of-nodes.result ≤ 64 * 12 = omega (arith, c.root_of-nodes.ensures.value, above_bound 2 s.h s.indices.now, mul-le-mul {n₂ = 64} {m₂ = 12} i.few i.depth) in
    omega arith

pub returns-clause-digest_value : goal.returns-clause-digest_value
returns-clause-digest_value c =
    let s = c.args in
    root_read s.salt.now s.h s.at s.size s.indices.now s.reply.now c.leaf_digests-leaves.new.out (drop (32 * length s.indices.now) (replicate 2048 0)) c.first_digest-digest.result
    c.leaf_digests-leaves.ensures.out_after (c.first_digest-digest.ensures ∙ c.root_of-nodes.ensures.digests_after)

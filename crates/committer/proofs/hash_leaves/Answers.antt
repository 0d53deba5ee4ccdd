use mathlib.Core.Path.{◌≡◌, refl, ◌∙◌}
use mathlib.Core.List.{List}
use Prim.Native.Nat.{ℕ, ◌+◌, ◌-◌, ◌*◌}
use borrow.Rule.Slice.PartMut.{same_len_mid}
use Rattle.lists.specs.Parts.{span_length}
use Rattle.lists.specs.Rows.{rows_start, row_turn}
use Rattle.scheme.specs.Sizes.{leaves}
use Rattle.commitment.specs.Shape.{sizes_in}
use Rattle.committer.specs.Clauses.{digest_of}
use Rattle.committer.proofs.Digests.{digest_of-length, digest_is, digests_done, leaf_fits}
use borrow.Author.Rules.{rules}
use native.Mathlib.Omega.{arith}
use Rattle.committer.proofs.hash_leaves.Goals as goal

pub loop-index-init : goal.loop-index-init
loop-index-init c =
    let s = c.args in
    (omega arith, refl, rows_start 32 (digest_of c.record_values-values.result s.table.now s.nonces.now s.salt.now) s.tree.now)

pub slice_bounds-hash_leaf-end : goal.slice_bounds-hash_leaf-end
slice_bounds-hash_leaf-end c =
    let f = leaf_fits (sizes_in c.args.s) c.args.table.now
    c.args.nonces.now c.args.salt.now c.args.tree.now c.record_values-values.result
    c.leaf_count-n.result c.loop-index.index c.requires c.record_values-values.ensures
    c.leaf_count-n.ensures c.loop-index-test.true in
    search rules

pub hash_leaf-requires : goal.hash_leaf-requires
hash_leaf-requires c =
    let s = c.args in
    let f = leaf_fits (sizes_in c.args.s) c.args.table.now
    c.args.nonces.now c.args.salt.now c.args.tree.now
    c.record_values-values.result c.leaf_count-n.result c.loop-index.index
    c.requires c.record_values-values.ensures
    c.leaf_count-n.ensures c.loop-index-test.true in
    let k : ℕ = c.record_values-values.result in
    let i : ℕ = c.loop-index.index in (
      c.requires.salt_length_lem,
      omega (arith, f.index_small),
      omega (arith, span_length (k * i) k s.table.now f.values, f.few_values),
      span_length (32 * i) 32 s.nonces.now f.nonce,
      span_length (32 * i) 32 c.loop-index.tree (omega (arith, f.node, c.loop-index.invariant.1)),
    )

pub overflow_step-index : goal.overflow_step-index
overflow_step-index c =
    let f = leaf_fits (sizes_in c.args.s)
    c.args.table.now
    c.args.nonces.now c.args.salt.now
    c.args.tree.now c.record_values-values.result
    c.leaf_count-n.result c.loop-index.index
    c.requires c.record_values-values.ensures
    c.leaf_count-n.ensures c.loop-index-test.true in
    omega (arith, f.index_small)

pub loop-index-preserved : goal.loop-index-preserved
loop-index-preserved c =
    let s = c.args in
    let k : ℕ = c.record_values-values.result in
    let i : ℕ = c.loop-index.index in
    let t : List ℕ = c.loop-index.tree in
    let r : List ℕ = c.hash_leaf.new.out in (
      omega (arith, c.loop-index-test.true),
      same_len_mid (32 * i) (32 * i + 32 - 32 * i) t r c.hash_leaf.auto.out ∙ c.loop-index.invariant.1,
      row_turn 32 (digest_of k s.table.now s.nonces.now s.salt.now) (digest_of-length k s.table.now s.nonces.now s.salt.now) s.tree.now t r i c.loop-index.invariant.2
          (digest_is k i s.table.now s.nonces.now s.salt.now r c.hash_leaf.ensures),
    )

pub returns : goal.returns
returns c =
    let s = c.args in
    let n : c.loop-index.index ≡ leaves (sizes_in s.s) = omega (arith, c.loop-index.invariant.0, c.loop-index-test.false, c.leaf_count-n.ensures) in
    c.loop-index.invariant.2 ∙ digests_done (sizes_in s.s) c.record_values-values.result c.loop-index.index s.table.now s.nonces.now s.salt.now s.tree.now c.record_values-values.ensures n

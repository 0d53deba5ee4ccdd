-- `committer::hash_leaf` meets its contract: the front of the room has the record.
use mathlib.Core.Path.{refl, sym, ap, ◌∙◌}
use Prim.Native.Nat.{◌+◌, ◌*◌, ◌≤◌}
use lib.ListN.{length, replicate, take}
use Rattle.lists.specs.Bytes.{Bytes}
use Rattle.sponge.specs.Digest.{digest}
use Rattle.tree.specs.Leaf.{leaf_string}
use Rattle.committer.proofs.Digests.{record_is, record_length_lem}
use native.Mathlib.Omega.{arith}
use Rattle.committer.proofs.hash_leaf.Goals as goal

pub slice_bounds-leaf_digest-end : goal.slice_bounds-leaf_digest-end
slice_bounds-leaf_digest-end c =
    let args = c.args in
    sym (record_length_lem args.values.now args.nonce.now (replicate 304 0) c.put_words.new.out
    c.put_bytes.new.out (4 * length args.values.now) refl c.requires.3
    c.put_words.ensures c.put_bytes.ensures)

pub leaf_digest-requires : goal.leaf_digest-requires
leaf_digest-requires c =
    let args = c.args in
    let e = record_length_lem args.values.now args.nonce.now (replicate 304 0) c.put_words.new.out
    c.put_bytes.new.out (4 * length args.values.now) refl c.requires.3
    c.put_words.ensures c.put_bytes.ensures in
    let l : length (take (4 * length args.values.now + 32) c.put_bytes.new.out) ≤ 304 = omega
    (arith, e, c.requires.2) in
    (c.requires.0, c.requires.1, l, c.requires.4)

pub returns : goal.returns
returns c =
    let args = c.args in
    c.leaf_digest.ensures.out_after
    ∙ ap (λ (x : Bytes). digest (leaf_string args.salt.now args.index.0 x))
    (record_is args.values.now args.nonce.now (replicate 304 0)
    c.put_words.new.out c.put_bytes.new.out (4 * length args.values.now) refl
    c.requires.3
    c.put_words.ensures c.put_bytes.ensures)

-- `leaf_string` meets its contract.
use mathlib.Core.Path.{sym, ap, ◌∙◌}
use Prim.Native.Nat.{ℕ, ◌+◌, ◌-◌, ◌/◌, ◌%◌}
use native.Mathlib.Nat.{le_of_eq}
use native.Mathlib.Omega.{arith}
use borrow.Rule.Slice.PartMut.{put_mid}
use lib.ListN.{length, take, set}
use lib.Seq.{paste, take-length, take_all}
use Rattle.lists.specs.Bytes.{Bytes}
use Rattle.tree.specs.Leaf.{salt_length, prefix_length, record_start}
use Rattle.digests.proofs.Copies.{put_copied}
use Rattle.digests.proofs.Leaves.{leaf_string_is}
use Rattle.digests.proofs.leaf_string.Goals as goal

pub returns : goal.returns
returns c =
    let a = c.args in
    let i : ℕ = a.index.0 in
    let leaf = a.leaf.now in
    let salt = a.salt.now in
    let n : ℕ = length leaf in
    let marked : Bytes → Bytes = λ x. set (set x prefix_length (i % 256)) (prefix_length + 1) (i / 256 % 256) in
    let before : Bytes = set a.buf.now 0 0 in
    ap (take (record_start + n))
    (put_copied (marked (put_mid 1 32 before c.copy_from_slice.new.self)) leaf c.copy_from_slice-2.new.self record_start (record_start + n - record_start) n
    (omega arith) (c.copy_from_slice-2.ensures.after ∙ sym (take-length leaf))
    ∙ ap (λ (x : Bytes). paste (marked x) record_start leaf n)
    (put_copied before salt c.copy_from_slice.new.self 1 32 salt_length (omega arith) (c.copy_from_slice.ensures.after ∙ sym (take_all salt_length salt (le_of_eq c.requires.0)))))
    ∙ leaf_string_is a.buf.now salt leaf i c.requires.0 c.requires.1

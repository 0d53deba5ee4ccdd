-- `node_buffer` meets its contract.
use mathlib.Core.Path.{sym, ap, ◌∙◌}
use native.Mathlib.Nat.{le_of_eq}
use native.Mathlib.Omega.{arith}
use lib.ListN.{length, take, replicate}
use lib.Seq.{take_all}
use Rattle.lists.specs.Parts.{put_length}
use Rattle.tree.specs.Leaf.{salt_length, prefix_length}
use Rattle.digests.proofs.Copies.{put_copied}
use Rattle.digests.proofs.Leaves.{salted_front}
use Rattle.digests.proofs.node_buffer.Goals as goal

pub returns : goal.returns
returns c =
    let salt = c.args.salt.now in
    let k = c.copy_from_slice in
    let copied = put_copied (replicate 97 1) salt k.new.self 1 32 salt_length (omega arith) (k.ensures.after ∙ sym (take_all salt_length salt (le_of_eq c.requires))) in (
      put_length 1 32 (replicate 97 1) k.new.self (omega arith) (ap length k.ensures.after ∙ c.requires),
      ap (take prefix_length) copied ∙ salted_front (replicate 97 1) salt (omega arith) c.requires,
    )

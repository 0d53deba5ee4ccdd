-- `leaf_digest` meets its contract.
use mathlib.Core.Path.{◌≡◌, ap, ◌∙◌}
use Prim.Native.Nat.{ℕ, ◌+◌, ◌/◌}
use native.Mathlib.Nat.{sub-zero}
use lib.ListN.{length, take}
use lib.Seq.{length-take-le}
use Rattle.sponge.specs.Digest.{digest}
use Rattle.tree.specs.Leaf.{record_start}
use borrow.Author.Rules.{rules}
use Rattle.digests.proofs.leaf_digest.Goals as goal

pub returns : goal.returns
returns c =
    let a = c.args in
    let g = c.digest_into.ensures in
    let f = c.leaf_string in
    let n : ℕ = record_start + length a.leaf.now in
    let buf = f.new.buf in
    let size : length (take n buf) ≡ n = length-take-le n buf (search rules) in
    record { out_after = g.out_after ∙ ap digest (rw (sub-zero) f.ensures); value = g.value ∙ ap (λ (k : ℕ). k / 136 + 1) (rw (sub-zero) size) }

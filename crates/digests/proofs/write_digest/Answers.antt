-- `write_digest` meets its contract.
use Prim.Native.Nat.{◌*◌}
use Rattle.sponge.specs.Digest.{digest}
use Rattle.lists.specs.Parts.{span_length}
use Rattle.tree.proofs.Digests.{row_put}
use Rattle.digests.proofs.write_digest.Goals as goal

pub digest_into-requires : goal.digest_into-requires
digest_into-requires c =
    let a = c.args in
    span_length (32 * a.p) 32 a.row.now c.requires

pub returns : goal.returns
returns c =
    let a = c.args in
    let g = c.digest_into in
    record { row_after = row_put a.row.now g.new.out (digest a.s.now) a.p g.ensures.out_after; value = g.ensures.value }

-- `sponge::xor_last_block` meets its contract.
use native.Mathlib.Omega.{arith}
use Rattle.sponge.proofs.LastBlock.{last_block}
use Rattle.sponge.proofs.xor_last_block.Goals as goal

pub xor_words-requires : goal.xor_words-requires
xor_words-requires c = (omega arith, omega arith)

pub returns : goal.returns
returns c =
    rw c.xor_words.ensures
    (last_block c.args.a.now c.args.s.now (λ i. omega (arith, c.shared_slice_known-1.given i)) c.requires.1)

-- `sponge::xor_word` meets its contract.
use Rattle.sponge.specs.Step.{xor_word}
use Rattle.sponge.proofs.xor_word.Goals as goal

pub returns : goal.returns
unfolding xor_word
returns c = rw c.word.ensures

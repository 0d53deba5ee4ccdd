-- `sponge::absorb_blocks` meets its contract: before each turn the state has absorbed the blocks passed.
use mathlib.Core.Path.{◌≡◌}
use lib.ListN.{length}
use Rattle.sponge.specs.Resume.{absorbed_from}
use Rattle.sponge.proofs.absorb_blocks.Given as goal

abbrev pub invariant-loop-block : goal.invariant-loop-block
invariant-loop-block l = (length l.a ≡ 25) × (l.a ≡ absorbed_from l.initial.a l.s l.block)

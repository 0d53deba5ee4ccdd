-- `sponge::absorb` meets its contract: before each turn the state has absorbed the blocks passed, each by one permutation.
use mathlib.Core.Path.{◌≡◌}
use lib.ListN.{length}
use Rattle.sponge.specs.Shake.{padded, absorbed}
use Rattle.sponge.proofs.absorb.Given as goal

abbrev pub invariant-loop-block : goal.invariant-loop-block
invariant-loop-block l = (length l.a ≡ 25) × (l.ran ≡ l.block) × (l.a ≡ absorbed (padded l.s) l.block)

-- `sponge::absorb_prefix` meets its contract.
use mathlib.Core.Path.{refl, sym, ◌∙◌}
use Prim.Native.Nat.{◌/◌}
use lib.ListN.{length}
use Rattle.sponge.specs.Draw.{prefix_state_is}
use Rattle.sponge.proofs.Resumed.{absorbed_from_lem}
use Rattle.sponge.proofs.absorb_prefix.Goals as goal

pub absorb_blocks-requires : goal.absorb_blocks-requires
absorb_blocks-requires c = refl

pub returns : goal.returns
returns c =
    let s = c.args.s.now in
    c.absorb_blocks.ensures.1 ∙ absorbed_from_lem s (length s / 136) ∙ sym (prefix_state_is s)

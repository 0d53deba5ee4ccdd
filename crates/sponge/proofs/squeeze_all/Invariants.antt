-- `sponge::squeeze_all` meets its contract.
use mathlib.Core.Path.{◌≡◌}
use Prim.Native.Nat.{◌*◌}
use lib.ListN.{length}
use Rattle.sponge.proofs.Squeezed.{Begun}
use Rattle.sponge.proofs.squeeze_all.Given as goal

abbrev pub invariant-loop-block : goal.invariant-loop-block
invariant-loop-block l = (length l.b ≡ 25) × (length l.out ≡ length l.initial.out) × Begun l.initial.b (length l.initial.out) l.out (136 * l.block) l.b

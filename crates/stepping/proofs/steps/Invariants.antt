-- `stepping::steps` meets its contract. The invariant: the blocks below b are done.
use mathlib.Core.Path.{◌≡◌}
use Prim.Native.Nat.{◌*◌, ◌≤◌}
use lib.ListN.{length}
use Rattle.stepping.specs.Lanes.{run}
use Rattle.stepping.proofs.Stepping.{TableInv}
use Rattle.stepping.proofs.steps.Given as goal

abbrev pub invariant-loop-b : goal.invariant-loop-b
invariant-loop-b l = (l.b ≤ l.blocks) × (l.lanes ≤ 4) × (20 * l.blocks ≤ length l.t) × (length l.t ≡ length l.initial.t) × (length l.w ≡ 4 * run) × TableInv l.initial.t l.blocks l.lanes l.t l.w l.b

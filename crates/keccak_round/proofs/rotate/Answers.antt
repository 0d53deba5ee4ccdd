-- `keccak_round::rotate` meets its contract.
use mathlib.Core.Path.{◌≡◌}
use Prim.Native.Nat.{ℕ, ◌%◌}
use native.Mathlib.Omega.{arith}
use lib.Bits.{bit_and, and_mask}
use Rattle.keccak.proofs.Rotation.{shifts}
use Rattle.keccak_round.proofs.rotate.Goals as goal

masked : (k : ℕ) → bit_and k 63 ≡ k % 64
masked k = and_mask k 6

pub overflow_cast-result-2 : goal.overflow_cast-result-2
overflow_cast-result-2 c = rw masked (omega arith)

pub overflow_shr-result : goal.overflow_shr-result
overflow_shr-result c = rw masked (omega arith)

pub returns : goal.returns
returns c = shifts c.args.x c.args.n c.ranges.x.fits c.requires

-- `squeezing::squeeze_block` meets its contract: before each turn the first i bytes are those of the state.
use mathlib.Core.Path.{◌≡◌}
use mathlib.Core.List.{List}
use Prim.Native.Nat.{ℕ, ◌/◌, ◌%◌, ◌^◌}
use lib.ListN.{get_or}
use Rattle.lists.specs.Tabulate.{filled}
use Rattle.squeezing.proofs.squeeze_block.Given as goal

abbrev pub byte : List ℕ → ℕ → ℕ
byte a i = get_or a (i / 8) 0 / 256 ^ (i % 8) % 256

abbrev pub invariant-loop-i : goal.invariant-loop-i
invariant-loop-i l = l.out ≡ filled (byte l.a) l.i l.initial.out

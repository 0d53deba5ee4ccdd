-- A counter tried: whether a string and the counter's four bytes qualify. Two bytes of the draw say so, since at most 16 bits are asked.
use Rattle.std.specs.Prelude.{Bool, List, ◌++◌, ℕ}
use Rattle.sponge.specs.Draw.{draw, drawn_after}
use Rattle.lists.specs.Bytes.{Bytes}
use Rattle.fiat_shamir.specs.Draw.{qualifies}
use Rattle.fiat_shamir.specs.Prove.{counter_bytes}

unfoldable pub tried : ℕ → Bytes → ℕ → Bool
tried κ string c = qualifies κ (draw (string ++ counter_bytes c) 2)

-- the same, from the state after a string's full blocks and the bytes that are left of it
unfoldable pub tried_after : ℕ → List ℕ → Bytes → ℕ → Bool
tried_after κ a rest c = qualifies κ (drawn_after a (rest ++ counter_bytes c) 2)

-- What the functions ask for, and what `hash_level` gives.
use Rattle.std.specs.Prelude.{◌≡◌, List, ◌++◌, ℕ, zero, ◌+◌, ◌*◌, ◌/◌, ◌^◌, ◌≤◌, ◌<◌, length, take, drop}
use Rattle.lists.specs.Bytes.{Bytes}
use Rattle.tree.specs.Sets.{tree_size}
use Rattle.tree.specs.Tree.{above}

-- `hash_level`: part has whole digests, b * w of a level and room for w above it; buf has room for b digests
pub record CanHashLevel (b w : ℕ) (part buf : Bytes) (off : ℕ) : Type 0 where
  pub whole : length part ≡ 32 * (length part / 32)
  pub levels : b * w + w ≤ length part / 32
  pub room : off + 32 * b ≡ length buf

-- a row that begins with a level of b * w digests, with the level above written behind them
unfoldable pub with_level : (Bytes → Bytes) → ℕ → Bytes → ℕ → List Bytes → List Bytes
with_level hash b pre w ds = take (b * w) ds ++ (above hash b pre w (take (b * w) ds) ++ drop (b * w + w) ds)

-- `fill_levels`: the tree over n = b ^ h leaves has its exact size
pub record CanFillLevels (b h n : ℕ) (tree buf : Bytes) (off : ℕ) : Type 0 where
  pub arity : zero < b
  pub leaves : n ≡ b ^ h
  pub whole : length tree ≡ 32 * tree_size b h
  pub room : off + 32 * b ≡ length buf

-- What functions ask of a set of leaves.
use Rattle.std.specs.Prelude.{List, ℕ, zero, ◌^◌, ◌≤◌, ◌<◌, length}
use Rattle.lists.specs.All.{Below}
use Rattle.lists.specs.Rising.{Rising}

-- some leaves of a tree of depth h: from 1 to 64 indices, in rising order
pub record IndexSet (h : ℕ) (s : List ℕ) : Type 0 where
  pub depth : h ≤ 12
  pub some : zero < length s
  pub few : length s ≤ 64
  pub rising : Rising s
  pub leaves : Below (2 ^ h) s

-- What functions ask of a set of nodes.
use Rattle.std.specs.Prelude.{List, ℕ, zero, ◌≤◌, ◌<◌, length, take}
use Rattle.lists.specs.All.{Below}
use Rattle.lists.specs.Rising.{Rising}

-- a set of nodes, the first n of idx, small enough that the numbers of the children of its parents fit
pub record NodeSet (b : ℕ) (idx : List ℕ) (n : ℕ) : Type 0 where
  pub arity : zero < b
  pub few : b ≤ 16
  pub indices : n ≤ length idx
  pub rising : Rising (take n idx)
  pub small : Below 2147483648 (take n idx)

-- The turn at place a of a set.
use mathlib.Core.List.{List, Memᴰ as Mem}
use mathlib.Core.Path.{◌≡◌, sym, ap, ◌∙◌, subst}
use Prim.Native.Nat.{ℕ, ◌+◌, ◌*◌, ◌/◌, ◌≤◌, ◌<◌}
use native.Mathlib.Nat.{mul-div-le, add-zero}
use native.Mathlib.Omega.{arith}
use lib.ListN.{length, get_or, take, drop, length-drop}
use lib.Seq.{get_or-drop, length-take-le, get_or-take}
use Rattle.lists.specs.All.{below_mem}
use Rattle.lists.specs.Maps.{get_or_in}
use Rattle.tree.specs.Walk.{used}
use Rattle.lists.specs.Drops.{rising-drop}
use Rattle.tree.proofs.Turns.{Turn, turn}
use Rattle.node_sets.specs.Clauses.{NodeSet}

module _ {b : ℕ} {idx : List ℕ} {n : ℕ} (can : NodeSet b idx n) where
  pub set-length : length (take n idx) ≡ n
  set-length = length-take-le n idx can.indices

  module _ {a : ℕ} (more : a < n) where
    next_index : get_or (drop a (take n idx)) 0 0 ≡ get_or idx a 0
    next_index = get_or-drop a (take n idx) 0 0 ∙ ap (λ (k : ℕ). get_or (take n idx) k 0) (add-zero a) ∙ get_or-take n idx a 0 more

    pub turn_at : Turn b (drop a (take n idx)) (get_or idx a 0 / b) (used (b * (get_or idx a 0 / b)) b (drop a (take n idx)))
    turn_at =
        subst (λ (i : ℕ). Turn b (drop a (take n idx)) (i / b) (used (b * (i / b)) b (drop a (take n idx)))) next_index
        (turn b can.arity (drop a (take n idx)) (rising-drop a (take n idx) can.rising) (omega (arith, length-drop a (take n idx), set-length)))

    pub index_in : Mem (get_or idx a 0) (take n idx)
    index_in =
        subst (λ (x : ℕ). Mem x (take n idx)) (get_or-take n idx a 0 more) (get_or_in (take n idx) a (subst (λ (k : ℕ). a < k) (sym set-length) more))

    -- the numbers of its children fit
    pub children_fit : b * (get_or idx a 0 / b) + b ≤ 4294967296
    children_fit = omega (arith, mul-div-le (get_or idx a 0) b, below_mem 2147483648 (take n idx) can.small (get_or idx a 0) index_in, can.few)

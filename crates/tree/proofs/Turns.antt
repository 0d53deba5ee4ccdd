-- One turn over a set: the first parent of what is left of it.
use mathlib.Core.List.{List, [], ◌∷◌, ◌++◌, flatten}
use mathlib.Core.Path.{◌≡◌, refl, sym, ap, ◌∙◌}
use Prim.Native.Nat.{ℕ, zero, ◌+◌, ◌*◌, ◌/◌, ◌≤◌, ◌<◌, ◌-◌}
use native.Mathlib.Nat.{not-suc-le-zero}
use lib.ListN.{length, get_or, drop, length-append}
use Rattle.lists.specs.Bytes.{Bytes}
use Rattle.lists.specs.Rising.{Rising}
use Rattle.tree.specs.Sets.{children, parents, siblings, below, without}
use Rattle.tree.specs.Tree.{strings}
use Rattle.tree.specs.Walk.{used, skipped, fill}
use Rattle.tree.proofs.Walk as Walk

-- p is the first node above the set, and u of the set's nodes are under it
pub record Turn (b : ℕ) (s : List ℕ) (p u : ℕ) : Type 0 where
  pub parents_are : parents b s ≡ p ∷ parents b (drop u s)
  pub siblings_are : siblings b s ≡ skipped (b * p) b s ++ siblings b (drop u s)
  pub missing_are : length (siblings b s) ≡ (b - u) + length (siblings b (drop u s))
  pub strings_are : (digest : Bytes → Bytes) (pre : Bytes) (ds ns : List Bytes) → length s ≡ length ds
      → strings digest b pre s ds ns ≡ (pre ++ flatten (fill (b * p) b s ds ns)) ∷ strings digest b pre (drop u s) (drop u ds) (drop (b - u) ns)
  pub some : zero < u
  pub within : u ≤ length s

pub turn : (b : ℕ) → zero < b → (s : List ℕ) → Rising s → zero < length s → Turn b s (get_or s 0 0 / b) (used (b * (get_or s 0 0 / b)) b s)
unfolding children
turn b pos [] r h = absurd (not-suc-le-zero h)
turn b pos (i ∷ s) r h = record {
  parents_are = Walk.parents-step b pos i s r;
  siblings_are =
      Walk.siblings-step b pos i s r
      ∙ ap (λ (x : List ℕ). x ++ siblings b (Walk.rest b pos i s r)) (sym (Walk.skipped_is (b * (i / b)) b (i ∷ s) r (Walk.low b pos i s r)));
  missing_are =
      ap length (Walk.siblings-step b pos i s r) ∙ length-append (Walk.listed b pos i s r) (siblings b (Walk.rest b pos i s r))
      ∙ ap (λ (k : ℕ). k + length (siblings b (Walk.rest b pos i s r))) (Walk.listed_step b pos i s r);
  strings_are = λ digest pre ds ns l. Walk.strings_step b pos i s r digest pre ds ns l;
  some = Walk.cut_pos b pos i s r;
  within = Walk.used_le (b * (i / b)) b (i ∷ s);
}

-- nothing is above an empty set
pub no_parents : (b : ℕ) → parents b [] ≡ []
unfolding parents
no_parents b = refl

pub no_siblings : (b : ℕ) → siblings b [] ≡ []
unfolding siblings parents below without
no_siblings b = refl

pub no_strings : (digest : Bytes → Bytes) (b : ℕ) (pre : Bytes) (ds ns : List Bytes) → strings digest b pre [] ds ns ≡ []
unfolding strings parents
no_strings digest b pre ds ns = refl

-- The tree as a row of digests: how many it has, and that the root stands last.
use mathlib.Core.List.{List, [], ◌++◌}
use mathlib.Core.Path.{◌≡◌, refl, sym, ap, ap₂, ◌∙◌}
use Prim.Native.Nat.{ℕ, zero, suc, ◌+◌, ◌*◌, ◌^◌, ◌<◌}
use native.Mathlib.Nat.{pow-suc, pow-zero}
use native.Mathlib.Omega.{arith}
use lib.ListN.{length, length-append}
use lib.Seq.{get_or-append-add}
use Rattle.lists.specs.All.{Sized, all_append, all_each}
use Rattle.lists.specs.Bytes.{Bytes}
use Rattle.lists.specs.Range.{up_from}
use Rattle.tree.specs.Sets.{start, tree_size}
use Rattle.tree.specs.Tree.{at, node_string, above, tree, root}
use Rattle.tree.proofs.Complete.{length_above}

-- 2 N - 1 for two children, (4 N - 1) / 3 for four
pub tree_size_lem : (c h : ℕ) → c * tree_size (suc c) h + 1 ≡ suc c ^ suc h
unfolding tree_size
tree_size_lem c zero = omega (arith, pow-suc (suc c) 0 ∙ ap (λ (x : ℕ). x * suc c) (pow-zero (suc c)))
tree_size_lem c (suc h) = omega (arith, pow-suc (suc c) (suc h), tree_size_lem c h)

pub root_place : (b h : ℕ) → start b h h + 1 ≡ tree_size b h
unfolding tree_size start
root_place b zero = refl
root_place b (suc h) = omega (arith, root_place b h)

module _ (digest : Bytes → Bytes) (b : ℕ) (pre : Bytes) (pos : zero < b) where
  pub tree_length : (h : ℕ) (level : List Bytes) → length level ≡ b ^ h → length (tree digest b pre h level) ≡ tree_size b h
  unfolding tree tree_size
  tree_length zero level e = e ∙ pow-zero b
  tree_length (suc h) level e =
      length-append level (tree digest b pre h (above digest b pre (b ^ h) level))
      ∙ ap₂ (λ (x y : ℕ). x + y) e (tree_length h (above digest b pre (b ^ h) level) (length_above digest b pre (b ^ h) level))

  -- the root stands last
  pub tree_root : (h : ℕ) (level : List Bytes) → length level ≡ b ^ h → at (tree digest b pre h level) (start b h h) ≡ root digest b pre h level
  unfolding tree root start
  tree_root zero level e = refl
  tree_root (suc h) level e =
      let up : List Bytes = above digest b pre (b ^ h) level in
      ap (λ (k : ℕ). at (level ++ tree digest b pre h up) (k + start b h h)) (sym e)
      ∙ get_or-append-add level (tree digest b pre h up) (start b h h) []
      ∙ tree_root h up (length_above digest b pre (b ^ h) level)

  pub tree_sized : (h : ℕ) (level : List Bytes) → ((x : Bytes) → length (digest x) ≡ 32) → Sized 32 level → Sized 32 (tree digest b pre h level)
  unfolding tree above
  tree_sized zero level hd hl = hl
  tree_sized (suc h) level hd hl =
      all_append (λ (d : Bytes). length d ≡ 32) level (tree digest b pre h (above digest b pre (b ^ h) level)) hl
      (tree_sized h (above digest b pre (b ^ h) level) hd
      (all_each (λ (d : Bytes). length d ≡ 32) (λ p. digest (node_string b pre (at level) p)) (up_from 0 (b ^ h)) (λ p. hd (node_string b pre (at level) p))))

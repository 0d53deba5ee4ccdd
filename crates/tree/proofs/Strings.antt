-- The strings of nodes: each begins with what it is to begin with, a tree holds their digests, and the root of an opening is that of one of them.
use mathlib.Core.Path.{◌≡◌, refl, sym, ap, ◌∙◌, subst}
use mathlib.Core.List.Memᴰ.{append_left as in_left, append_right as in_right}
use mathlib.Core.List.{List, ◌++◌, map, flatten, map-map, map-append, append-nil, Memᴰ as Mem}
use Prim.Native.Nat.{ℕ, zero, suc, ◌/◌, ◌^◌, ◌<◌}
use native.Mathlib.Nat.{not-suc-le-zero, pow-suc, pow-zero}
use native.Mathlib.Omega.{arith}
use lib.ListN.{length, drop}
use Rattle.lists.specs.All.{All, Below, below_mem, all_append, all_each}
use Rattle.lists.specs.Maps.{map_in}
use Rattle.lists.specs.Bytes.{Bytes}
use Rattle.lists.specs.Range.{up_from}
use Rattle.tree.specs.Sets.{children, parents, siblings}
use Rattle.tree.specs.Tree.{at, found, node_string, above, tree, node_strings, strings, root_from, hashed}
use Rattle.tree.proofs.Found.{found_all}
use Rattle.tree.proofs.Members.{parents_in, parents_below}

abbrev pub Begins : Bytes → Bytes → Type 0
Begins pre x = (rest : Bytes) × (x ≡ pre ++ rest)

node_begins : (b : ℕ) (pre : Bytes) (v : ℕ → Bytes) (p : ℕ) → Begins pre (node_string b pre v p)
unfolding node_string
node_begins b pre v p = (flatten (map v (children b p)), refl)

module _ (digest : Bytes → Bytes) (b : ℕ) (pre : Bytes) where
  -- those that are hashed to fill a tree
  pub nodes_begin : (h : ℕ) (level : List Bytes) → All (Begins pre) (node_strings digest b pre h level)
  unfolding node_strings
  nodes_begin zero level = tt
  nodes_begin (suc h) level =
      all_append (Begins pre) (map (node_string b pre (at level)) (up_from 0 (b ^ h))) (node_strings digest b pre h (above digest b pre (b ^ h) level))
      (all_each (Begins pre) (node_string b pre (at level)) (up_from 0 (b ^ h)) (node_begins b pre (at level)))
      (nodes_begin h (above digest b pre (b ^ h) level))

  -- those that are hashed on the way to an opening's root
  pub hashed_begin : (h : ℕ) (s : List ℕ) (ds nodes : List Bytes) → All (Begins pre) (hashed digest b pre h s ds nodes)
  unfolding hashed strings
  hashed_begin zero s ds nodes = tt
  hashed_begin (suc h) s ds nodes =
      let v : ℕ → Bytes = found (s ++ siblings b s) (ds ++ nodes) in
      let xs : List Bytes = map (node_string b pre v) (parents b s) in
      let left : List Bytes = drop (length (siblings b s)) nodes in
      all_append (Begins pre) xs (hashed digest b pre h (parents b s) (map digest xs) left)
      (all_each (Begins pre) (node_string b pre v) (parents b s) (node_begins b pre v))
      (hashed_begin h (parents b s) (map digest xs) left)

  -- the tree over the digests of some strings holds these digests, then those of its nodes' strings
  pub tree_digests : (h : ℕ) (xs : List Bytes) → tree digest b pre h (map digest xs) ≡ map digest (xs ++ node_strings digest b pre h (map digest xs))
  unfolding tree node_strings above
  tree_digests zero xs = ap (map digest) (sym (append-nil xs))
  tree_digests (suc h) xs =
      let level : List Bytes = map digest xs in
      let ys : List Bytes = map (node_string b pre (at level)) (up_from 0 (b ^ h)) in
      let e : above digest b pre (b ^ h) level ≡ map digest ys = sym (map-map digest (node_string b pre (at level)) (up_from 0 (b ^ h))) in
      ap (λ (l : List Bytes). level ++ l)
      (ap (tree digest b pre h) e ∙ tree_digests h ys ∙ ap (λ (l : List Bytes). map digest (ys ++ node_strings digest b pre h l)) (sym e))
      ∙ sym (map-append digest xs (ys ++ node_strings digest b pre h (above digest b pre (b ^ h) level)))

  -- the digest of a node above the set is that of its string, which is hashed
  pub found_above : (s : List ℕ) (ds nodes : List Bytes) (p : ℕ) → Mem p (parents b s)
      → found (parents b s) (map digest (strings digest b pre s ds nodes)) p ≡ digest (node_string b pre (found (s ++ siblings b s) (ds ++ nodes)) p)
  unfolding strings
  found_above s ds nodes p m = simp map-map (found_all _ m)

  -- and its string is one of those hashed
  pub string_in : (s : List ℕ) (ds nodes : List Bytes) (p : ℕ) → Mem p (parents b s)
      → Mem (node_string b pre (found (s ++ siblings b s) (ds ++ nodes)) p) (strings digest b pre s ds nodes)
  unfolding strings
  string_in s ds nodes p m = map_in _ m

  -- the root of an opening is the digest of a node's string, one of those hashed on the way
  pub root_hashed : (h : ℕ) → zero < h → (s : List ℕ) (ds nodes : List Bytes) → zero < b → Below (b ^ h) s → (i : ℕ) → Mem i s
      → (x : Bytes) × Mem x (hashed digest b pre h s ds nodes) × (root_from digest b pre h s ds nodes ≡ digest x)
  unfolding hashed root_from
  root_hashed zero l s ds nodes pos under i m = absurd (not-suc-le-zero l)
  root_hashed (suc zero) l s ds nodes pos under i m =
      let up : Below (b ^ 0) (parents b s) = parents_below b (b ^ 0) s pos (subst (λ (n : ℕ). Below n s) (pow-suc b 0) under) in
      let top : i / b ≡ 0 = omega (arith, pow-zero b, below_mem (b ^ 0) (parents b s) up (i / b) (parents_in b m)) in
      let p : Mem 0 (parents b s) = subst (λ (k : ℕ). Mem k (parents b s)) top (parents_in b m) in
      (node_string b pre (found (s ++ siblings b s) (ds ++ nodes)) 0, in_left _ (string_in s ds nodes 0 p), found_above s ds nodes 0 p)
  root_hashed (suc (suc h)) l s ds nodes pos under i m =
      let r = root_hashed (suc h) (omega arith) (parents b s) (map digest (strings digest b pre s ds nodes)) (drop (length (siblings b s)) nodes) pos
      (parents_below b (b ^ suc h) s pos (subst (λ (n : ℕ). Below n s) (pow-suc b (suc h)) under)) (i / b) (parents_in b m) in
      (r.0, in_right (strings digest b pre s ds nodes) r.1, r.2)

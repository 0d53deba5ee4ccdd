-- Completeness: the missing nodes of a set, read from a tree, and the digests of the set's leaves give the tree's root.
use mathlib.Core.List.Memᴰ.{cast as in-cast}
use mathlib.Core.List.{List, [], ◌++◌, map, flatten, map-map, map-append, append_assoc, Memᴰ as Mem}
use mathlib.Core.Path.{◌≡◌, sym, ap, ap₂, ◌∙◌, subst}
use Prim.Native.Nat.{ℕ, zero, suc, ◌+◌, ◌*◌, ◌/◌, ◌^◌, ◌<◌}
use native.Mathlib.Nat.{zero-add, add_assoc, pow-suc, pow-zero}
use native.Mathlib.Omega.{arith}
use lib.ListN.{length, drop, length-map, get_or-append}
use lib.Seq.{drop_at, get_or-drop}
use Rattle.lists.specs.All.{Below, below_mem}
use Rattle.lists.specs.Bytes.{Bytes}
use Rattle.lists.specs.Maps.{map_cong}
use Rattle.lists.specs.Range.{length-up_from, up_from, at_run}
use Rattle.tree.specs.Sets.{children, parents, siblings, missing, start}
use Rattle.tree.specs.Tree.{at, node_string, above, tree, root, strings, root_from, opened}
use Rattle.tree.proofs.Found.{found_map, found_all}
use Rattle.tree.proofs.Members.{parents_in, known, parents_below, siblings_below}

-- an opening's nodes: those of the lowest level, then those of the levels above it
pub opened-suc : (b h : ℕ) (t : List Bytes) (s : List ℕ) → opened b (suc h) t s ≡ map (at t) (siblings b s) ++ opened b h (drop (b ^ suc h) t) (parents b s)
unfolding opened missing start
opened-suc b h t s =
    simp (map-append, map-map)
    (ap₂ (λ (x y : List Bytes). x ++ y)
    (map_cong (siblings b s) (λ c m. ap (at t) (zero-add c)))
    (map_cong (missing b h (parents b s)) (λ n m.
    ap (at t) (add_assoc (b ^ suc h) (start b h n.0) n.1) ∙ sym (get_or-drop (b ^ suc h) t (start b h n.0 + n.1) []))))

-- the same, where the lowest level stands in front
opened_level : (b h : ℕ) (level t : List Bytes) (s : List ℕ) → length level ≡ b ^ suc h → Below (b ^ suc h) (siblings b s)
    → opened b (suc h) (level ++ t) s ≡ map (at level) (siblings b s) ++ opened b h t (parents b s)
opened_level b h level t s e l =
    opened-suc b h (level ++ t) s
    ∙ ap₂ (λ (x : List Bytes) (y : List Bytes). x ++ opened b h y (parents b s))
    (map_cong (siblings b s) (λ c m. get_or-append level t [] c (subst (λ (n : ℕ). c < n) (sym e) (below_mem (b ^ suc h) (siblings b s) l c m))))
    (drop_at level t (b ^ suc h) e)

pub length_above : (digest : Bytes → Bytes) (b : ℕ) (pre : Bytes) (w : ℕ) (level : List Bytes) → length (above digest b pre w level) ≡ w
unfolding above
length_above digest b pre w level = length-map (up_from 0 w) _ ∙ length-up_from 0 w

module _ (digest : Bytes → Bytes) (b : ℕ) (pre : Bytes) (pos : zero < b) where
  -- where all digests are those that v gives, so are the strings of the parents
  strings_known : (v : ℕ → Bytes) (s : List ℕ) (rest : List Bytes)
      → strings digest b pre s (map v s) (map v (siblings b s) ++ rest) ≡ map (node_string b pre v) (parents b s)
  unfolding strings node_string
  strings_known v s rest =
      map_cong (parents b s) (λ p h. ap (λ (r : List Bytes). pre ++ flatten r) (map_cong (children b p) (λ c m.
      rw (← append_assoc, ← map-append) (found_map v rest (known b s h m)))))

  -- and their digests are those of the level above
  digests_known : (w : ℕ) (level : List Bytes) (ps : List ℕ) → Below w ps
      → map digest (map (node_string b pre (at level)) ps) ≡ map (at (above digest b pre w level)) ps
  unfolding above
  digests_known w level ps l =
      simp map-map (map_cong ps (λ p m. sym (at_run (λ q. digest (node_string b pre (at level) q)) 0 w p [] (below_mem w ps l p m) ∙ ap (λ (q : ℕ). digest (node_string b pre (at level) q)) (zero-add p))))

  -- for a set with a leaf i: the digests of its leaves and the missing nodes, read from the tree, give the root; what is listed behind them does not count
  pub complete : (h : ℕ) (level : List Bytes) (s : List ℕ) (rest : List Bytes) → length level ≡ b ^ h → Below (b ^ h) s → (i : ℕ) → Mem i s
      → root_from digest b pre h s (map (at level) s) (opened b h (tree digest b pre h level) s ++ rest) ≡ root digest b pre h level
  unfolding root_from root tree
  complete zero level s rest e l i m = found_all (at level) (in-cast (omega (arith, pow-zero b, below_mem (b ^ 0) s l i m)) m)
  complete (suc h) level s rest e l i m =
      let l' : Below (b ^ h * b) s = subst (λ (n : ℕ). Below n s) (pow-suc b h) l in
      let up : List Bytes = above digest b pre (b ^ h) level in
      let t : List Bytes = tree digest b pre h up in
      let k : Below (b ^ suc h) (siblings b s) = subst (λ (n : ℕ). Below n (siblings b s)) (sym (pow-suc b h)) (siblings_below b (b ^ h) s pos l') in
      let ps : Below (b ^ h) (parents b s) = parents_below b (b ^ h) s pos l' in
      rw (
        opened_level b h level t s e k,
        append_assoc,
        strings_known (at level) s,
        digests_known (b ^ h) level (parents b s) ps,
        drop_at (map (at level) (siblings b s)) (opened b h t (parents b s) ++ rest) (length (siblings b s)) (length-map (siblings b s) (at level)),
      )
      (complete h up (parents b s) rest (length_above digest b pre (b ^ h) level) ps (i / b) (parents_in b m))

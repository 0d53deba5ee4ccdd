-- Binding: two openings that give one root agree on every leaf that both open, unless two different strings that they hash share a digest.
use mathlib.Core.List.Memᴰ.{append_cases as in-cases, append_left as in_left, append_right as in_right}
use mathlib.Core.List.{List, ◌++◌, map, Memᴰ as Mem}
use mathlib.Core.Logic.{⊎_elim}
use mathlib.Core.Path.{◌≡◌, sym, ap, ◌∙◌, subst}
use Prim.Native.Nat.{ℕ, zero, suc, ◌/◌, ◌^◌, ◌≤◌, ◌<◌}
use native.Mathlib.Nat.{pow-suc, pow-zero, le_of_eq}
use native.Mathlib.Omega.{arith}
use lib.ListN.{length, drop, length-append, length-map, length-drop}
use Rattle.lists.specs.All.{Below, below_mem, Sized, all_drop, sized-mem, mem-sized, all_each}
use Rattle.lists.specs.Bytes.{Bytes}
use Rattle.lists.specs.Maps.{map_of, map_agree, append-cancel}
use Rattle.lists.specs.Pieces.{flatten_inj}
use Rattle.tree.specs.Sets.{children, parents, siblings, missing}
use Rattle.tree.specs.Tree.{found, node_string, strings, root_from, hashed}
use Rattle.tree.proofs.Counts.{missing_count}
use Rattle.tree.proofs.Found.{found_left, found_in, found_under}
use Rattle.tree.proofs.Strings.{found_above, string_in}
use Rattle.tree.proofs.Members.{child_in, parents_in, known, parents_below}

-- an opening of the shape that its set asks for: a string of the right size for each node of the set and for each missing node
pub record Fits (b size h : ℕ) (s : List ℕ) (ds nodes : List Bytes) : Type 0 where
  pub bound : Below (b ^ h) s
  pub digests : length s ≡ length ds
  pub sizes : Sized size ds
  pub listed : length nodes ≡ length (missing b h s)
  pub node_sizes : Sized size nodes

-- no two different strings, one of each list, share a digest: a hypothesis of the theorems
abbrev pub Apart : (Bytes → Bytes) → List Bytes → List Bytes → Type 0
Apart digest xs ys = (x y : Bytes) → Mem x xs → Mem y ys → digest x ≡ digest y → x ≡ y

-- the same with the strings of the leaves in place of their digests
pub record Opening (b size h : ℕ) (s : List ℕ) (leaves nodes : List Bytes) : Type 0 where
  pub bound : Below (b ^ h) s
  pub counted : length s ≡ length leaves
  pub listed : length nodes ≡ length (missing b h s)
  pub node_sizes : Sized size nodes

module _ (digest : Bytes → Bytes) (size : ℕ) (sized : (x : Bytes) → length (digest x) ≡ size) (b : ℕ) (pos : zero < b) (pre : Bytes) where
  -- one level up
  pub fits_up : (h : ℕ) (s : List ℕ) (ds nodes : List Bytes) → Fits b size (suc h) s ds nodes
      → Fits b size h (parents b s) (map digest (strings digest b pre s ds nodes)) (drop (length (siblings b s)) nodes)
  unfolding strings missing
  fits_up h s ds nodes f = record {
    bound = parents_below b (b ^ h) s pos (subst (λ (n : ℕ). Below n s) (pow-suc b h) f.bound);
    digests = sym (simp length-map);
    sizes = all_each (λ (d : Bytes). length d ≡ size) digest (strings digest b pre s ds nodes) sized;
    listed = omega (arith, length-drop (length (siblings b s)) nodes, f.listed, missing_count b h s);
    node_sizes = all_drop (λ (d : Bytes). length d ≡ size) (length (siblings b s)) nodes f.node_sizes;
  }

  -- the digests of the children, as the opening gives them
  pub children-sized : (h : ℕ) (s : List ℕ) (ds nodes : List Bytes) → Fits b size (suc h) s ds nodes → (p : ℕ) → Mem p (parents b s)
      → Sized size (map (found (s ++ siblings b s) (ds ++ nodes)) (children b p))
  children-sized h s ds nodes f p m =
      let long : length (s ++ siblings b s) ≤ length (ds ++ nodes) =
      simp length-append (omega (arith, f.digests, f.listed, missing_count b h s)) in
      mem-sized size (map (found (s ++ siblings b s) (ds ++ nodes)) (children b p))
      (λ d k.
      let o = map_of (children b p) k in
      ap length o.2
      ∙ ⊎_elim (sized-mem size ds f.sizes (found (s ++ siblings b s) (ds ++ nodes) o.0)) (sized-mem size nodes f.node_sizes (found (s ++ siblings b s) (ds ++ nodes) o.0))
      (in-cases ds (found_in (ds ++ nodes) (known b s m o.1) long)))

  -- a node's string has its children's digests in it
  node_inj : (v₁ v₂ : ℕ → Bytes) (p c : ℕ) → Sized size (map v₁ (children b p)) → Sized size (map v₂ (children b p)) → Mem c (children b p)
      → node_string b pre v₁ p ≡ node_string b pre v₂ p → v₁ c ≡ v₂ c
  unfolding node_string
  node_inj v₁ v₂ p c z₁ z₂ m e =
      map_agree v₁ v₂ m
      (flatten_inj size (map v₁ (children b p)) (map v₂ (children b p)) z₁ z₂ (simp length-map) (append-cancel pre _ _ e))

  -- two openings that give one root, digests: they agree on every node that is in both sets
  binding : (h : ℕ) (s₁ s₂ : List ℕ) (ds₁ ds₂ n₁ n₂ : List Bytes) → Fits b size h s₁ ds₁ n₁ → Fits b size h s₂ ds₂ n₂
      → Apart digest (hashed digest b pre h s₁ ds₁ n₁) (hashed digest b pre h s₂ ds₂ n₂)
      → root_from digest b pre h s₁ ds₁ n₁ ≡ root_from digest b pre h s₂ ds₂ n₂
      → (i : ℕ) → Mem i s₁ → Mem i s₂ → found s₁ ds₁ i ≡ found s₂ ds₂ i
  unfolding root_from hashed
  binding zero s₁ s₂ ds₁ ds₂ n₁ n₂ f₁ f₂ a e i m₁ m₂ =
      subst (λ (x : ℕ). found s₁ ds₁ x ≡ found s₂ ds₂ x) (omega (arith, pow-zero b, below_mem (b ^ 0) s₁ f₁.bound i m₁)) e
  binding (suc h) s₁ s₂ ds₁ ds₂ n₁ n₂ f₁ f₂ a e i m₁ m₂ =
      let v₁ : ℕ → Bytes = found (s₁ ++ siblings b s₁) (ds₁ ++ n₁) in
      let v₂ : ℕ → Bytes = found (s₂ ++ siblings b s₂) (ds₂ ++ n₂) in
      let p₁ = parents_in b m₁ in
      let p₂ = parents_in b m₂ in
      let up : found (parents b s₁) (map digest (strings digest b pre s₁ ds₁ n₁)) (i / b) ≡ found (parents b s₂) (map digest (strings digest b pre s₂ ds₂ n₂)) (i / b) =
      binding h (parents b s₁) (parents b s₂) _ _ _ _ (fits_up h s₁ ds₁ n₁ f₁) (fits_up h s₂ ds₂ n₂ f₂)
      (λ x y k₁ k₂. a x y (in_right (strings digest b pre s₁ ds₁ n₁) k₁) (in_right (strings digest b pre s₂ ds₂ n₂) k₂)) e (i / b) p₁ p₂ in
      let same : node_string b pre v₁ (i / b) ≡ node_string b pre v₂ (i / b) =
      a _ _ (in_left _ (string_in digest b pre s₁ ds₁ n₁ (i / b) p₁)) (in_left _ (string_in digest b pre s₂ ds₂ n₂ (i / b) p₂))
      (sym (found_above digest b pre s₁ ds₁ n₁ (i / b) p₁) ∙ up ∙ found_above digest b pre s₂ ds₂ n₂ (i / b) p₂) in
      sym (found_left (siblings b s₁) ds₁ n₁ m₁ f₁.digests)
      ∙ node_inj v₁ v₂ (i / b) i (children-sized h s₁ ds₁ n₁ f₁ (i / b) p₁) (children-sized h s₂ ds₂ n₂ f₂ (i / b) p₂) (child_in b i pos) same
      ∙ found_left (siblings b s₂) ds₂ n₂ m₂ f₂.digests

  pub fits : (h : ℕ) (s : List ℕ) (leaves nodes : List Bytes) → Opening b size h s leaves nodes → Fits b size h s (map digest leaves) nodes
  fits h s leaves nodes o = record {
    bound = o.bound;
    digests = o.counted ∙ simp length-map;
    sizes = all_each (λ (d : Bytes). length d ≡ size) digest leaves sized;
    listed = o.listed;
    node_sizes = o.node_sizes;
  }

  -- two openings that give one root, leaf strings: they agree on every leaf that is in both sets
  pub leaf_binding : (h : ℕ) (s₁ s₂ : List ℕ) (l₁ l₂ n₁ n₂ : List Bytes) → Opening b size h s₁ l₁ n₁ → Opening b size h s₂ l₂ n₂
      → Apart digest (l₁ ++ hashed digest b pre h s₁ (map digest l₁) n₁) (l₂ ++ hashed digest b pre h s₂ (map digest l₂) n₂)
      → root_from digest b pre h s₁ (map digest l₁) n₁ ≡ root_from digest b pre h s₂ (map digest l₂) n₂
      → (i : ℕ) → Mem i s₁ → Mem i s₂ → found s₁ l₁ i ≡ found s₂ l₂ i
  leaf_binding h s₁ s₂ l₁ l₂ n₁ n₂ o₁ o₂ a e i m₁ m₂ =
      a _ _ (in_left _ (found_in l₁ m₁ (le_of_eq o₁.counted))) (in_left _ (found_in l₂ m₂ (le_of_eq o₂.counted)))
      (sym (found_under digest l₁ m₁ (le_of_eq o₁.counted))
      ∙ binding h s₁ s₂ (map digest l₁) (map digest l₂) n₁ n₂ (fits h s₁ l₁ n₁ o₁) (fits h s₂ l₂ n₂ o₂)
      (λ x y k₁ k₂. a x y (in_right l₁ k₁) (in_right l₂ k₂)) e i m₁ m₂
      ∙ found_under digest l₂ m₂ (le_of_eq o₂.counted))

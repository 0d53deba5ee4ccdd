-- The nodes above a set of leaves: all of them, each once; how many there are; and that to find the root of an opening one string is hashed for each.
use mathlib.Core.Path.{◌≡◌, refl, sym, ap, ap₂, ◌∙◌, subst, subst₂}
use mathlib.Core.List.Memᴰ.{append_cases as in-cases, append_left as in_left, append_right as in_right, head as here, not-nil}
use mathlib.Core.List.{List, [], ◌∷◌, ◌++◌, map, flatten, map-map, map-append, Memᴰ as Mem}
use mathlib.Core.Logic.{inl, ⊎_elim}
use Prim.Native.Nat.{ℕ, zero, suc, ◌+◌, ◌*◌, ◌^◌, ◌≤◌, ◌<◌, zero-le, suc-le-suc}
use native.Mathlib.Nat.{add-mul, zero-mul, not-suc-le-zero, le_of_suc-le-suc, mul-le-mul_right, mul-suc, pow-zero, pow-suc, zero-lt-suc}
use native.Mathlib.Omega.{arith}
use lib.ListN.{length, drop, length-append, length-map}
use Rattle.lists.specs.All.{Below, Sized, all_append, mem-sized}
use Rattle.lists.specs.Bytes.{Bytes}
use Rattle.lists.specs.Drops.{in_length}
use Rattle.lists.specs.Maps.{get_or_in, map_cong, map_in, map_of}
use Rattle.lists.specs.Pieces.{length-flatten}
use Rattle.lists.specs.Range.{length-up_from}
use Rattle.lists.specs.Rising.{Rising}
use Rattle.tree.specs.Ancestors.{nodes_above}
use Rattle.tree.specs.Sets.{Node, raised, children, parents, siblings, missing}
use Rattle.tree.specs.Tree.{found, node_string, strings, hashed}
use Rattle.tree.proofs.Binding.{Fits, fits_up, children-sized}
use Rattle.tree.proofs.Counts.{parents-rising, parents_count, siblings_count, missing_count, missing_none}
use Rattle.tree.proofs.Members.{parents_in, parents_below}
use Rattle.tree.proofs.Missing.{Above, Before, InOrder, above_parents, parents_above, above_zero, zero_above, level_order, raised-order, append-order}

-- ---- which they are

-- every listed node is above the set, and not higher than the root
pub above_of : (b h : ℕ) (s : List ℕ) (n : Node) → Mem n (nodes_above b h s) → (0 < n.0) × (n.0 ≤ h) × Above b s n
unfolding nodes_above
above_of b zero s n m = absurd (not-nil m)
above_of b (suc h) s n m = ⊎_elim
    (λ (k : Mem n (map (λ p. (1, p)) (parents b s))).
    let p = map_of (parents b s) k in
    subst (Listed (suc h)) (sym p.2) (zero-lt-suc 0, suc-le-suc zero-le, above_parents b s 0 p.0 (zero_above b (parents b s) p.0 p.1)))
    (λ (k : Mem n (map raised (nodes_above b h (parents b s)))).
    let o = map_of (nodes_above b h (parents b s)) k in
    let r = above_of b h (parents b s) o.0 o.1 in
    subst (Listed (suc h)) (sym o.2) (zero-lt-suc o.0.0, suc-le-suc r.1, above_parents b s o.0.0 o.0.1 r.2))
    (in-cases (map (λ p. (1, p)) (parents b s)) m)
  where
    Listed : ℕ → Node → Type 0
    Listed k n = (0 < n.0) × (n.0 ≤ k) × Above b s n

-- every node above the set is listed
pub above_in : (b h : ℕ) (s : List ℕ) (k p : ℕ) → 0 < k → k ≤ h → Above b s (k, p) → Mem (k, p) (nodes_above b h s)
unfolding nodes_above
above_in b h s zero p l m a = absurd (not-suc-le-zero l)
above_in b zero s (suc k) p l m a = absurd (not-suc-le-zero m)
above_in b (suc h) s (suc zero) p l m a =
    in_left (map raised (nodes_above b h (parents b s))) (map_in (λ q. (1, q)) (above_zero b (parents b s) p (parents_above b s 0 p a)))
above_in b (suc h) s (suc (suc k)) p l m a =
    in_right (map (λ q. (1, q)) (parents b s)) (map_in raised (above_in b h (parents b s) (suc k) p (zero-lt-suc k) (le_of_suc-le-suc m) (parents_above b s (suc k) p a)))

-- the list is in order, so that no node is listed twice
pub above_order : (b h : ℕ) (s : List ℕ) → zero < b → Rising s → InOrder (nodes_above b h s)
unfolding nodes_above
above_order b zero s pos r = tt
above_order b (suc h) s pos r =
    append-order (map (λ p. (1, p)) (parents b s)) (map raised (nodes_above b h (parents b s)))
    (level_order 1 (parents b s) (parents-rising b s pos r))
    (raised-order (nodes_above b h (parents b s)) (above_order b h (parents b s) pos (parents-rising b s pos r)))
    (λ x y m k.
    let o = map_of (parents b s) m in
    let q = map_of (nodes_above b h (parents b s)) k in
    subst₂ Before (sym o.2) (sym q.2) (inl (suc-le-suc (above_of b h (parents b s) q.0 q.1).0)))

-- ---- how many they are

above_count : (b h : ℕ) (s : List ℕ) → length (nodes_above b (suc h) s) ≡ length (parents b s) + length (nodes_above b h (parents b s))
unfolding nodes_above
above_count b h s = simp (length-append, length-map)

-- times a number
pub above_times : (b h : ℕ) (s : List ℕ) (n : ℕ) → length (nodes_above b (suc h) s) * n ≡ length (parents b s) * n + length (nodes_above b h (parents b s)) * n
above_times b h s n = ap (λ (k : ℕ). k * n) (above_count b h s) ∙ add-mul (length (parents b s)) (length (nodes_above b h (parents b s))) n

pub above_none : (b : ℕ) (s : List ℕ) → length (nodes_above b 0 s) ≡ 0
unfolding nodes_above
above_none b s = refl

-- at most one for each leaf of the set and each level
pub above_bound : (b h : ℕ) (s : List ℕ) → length (nodes_above b h s) ≤ length s * h
above_bound b zero s = unfold nodes_above in zero-le
above_bound b (suc h) s =
    let up : length (parents b s) ≤ length s = parents_count b s in
    omega (arith, above_count b h s, above_bound b h (parents b s), up, mul-le-mul_right h up, mul-suc (length s) h)

-- a set of leaves under b ^ 0 has one
single : (b : ℕ) (s : List ℕ) → Rising s → 0 < length s → Below (b ^ 0) s → length s ≡ 1
single b [] r l u = absurd (not-suc-le-zero l)
single b (i ∷ []) r l u = refl
single b (i ∷ j ∷ s) r l u = absurd (omega (arith, pow-zero b, u.1.0, r.0 j (here refl)))

-- with c + 1 children to a node: all children of the nodes above are the nodes above but the root, the leaves of the set and the missing nodes
pub above_missing : (c h : ℕ) (s : List ℕ) → Rising s → 0 < length s → Below (suc c ^ h) s
    → length (nodes_above (suc c) h s) * c + 1 ≡ length s + length (missing (suc c) h s)
above_missing c zero s r l u = omega (arith, ap (λ (n : ℕ). n * c) (above_none (suc c) s) ∙ zero-mul c, missing_none (suc c) s, single (suc c) s r l u)
above_missing c (suc h) s r l u =
    let b : ℕ = suc c in
    let pos : zero < b = zero-lt-suc c in
    let up : Rising (parents b s) = parents-rising b s pos r in
    let some : 0 < length (parents b s) = in_length (parents_in b (get_or_in s 0 l)) in
    omega (
      arith,
      above_times b h s c,
      mul-suc (length (parents b s)) c,
      missing_count b h s,
      siblings_count b s pos r,
      above_missing c h (parents b s) up some (parents_below b (b ^ h) s pos (subst (λ (n : ℕ). Below n s) (pow-suc b h) u)),
    )

-- ---- the strings that are hashed

module _ (digest : Bytes → Bytes) (b : ℕ) (pre : Bytes) where
  -- one for each node above the set, in their order: v k gives the digests of the level below level k
  pub hashed_above : (h : ℕ) (s : List ℕ) (ds nodes : List Bytes)
      → (v : ℕ → ℕ → Bytes) × (hashed digest b pre h s ds nodes ≡ map (λ n. node_string b pre (v n.0) n.1) (nodes_above b h s))
  unfolding hashed strings nodes_above
  hashed_above zero s ds nodes = (λ k c. [], refl)
  hashed_above (suc h) s ds nodes =
      let own : ℕ → Bytes = found (s ++ siblings b s) (ds ++ nodes) in
      let ih = hashed_above h (parents b s) (map digest (strings digest b pre s ds nodes)) (drop (length (siblings b s)) nodes) in
      let v : ℕ → ℕ → Bytes = up own ih.0 in
      let f : Node → Bytes = λ n. node_string b pre (v n.0) n.1 in
      let ns : List Node = nodes_above b h (parents b s) in
      let same : map (λ n. node_string b pre (ih.0 n.0) n.1) ns ≡ map (λ n. f (raised n)) ns =
      map_cong ns (λ n m. ap (λ (w : ℕ → Bytes). node_string b pre w n.1) (higher own ih.0 n.0 (above_of b h (parents b s) n m).0)) in
      (v, ap₂ (λ (x y : List Bytes). x ++ y) (sym (map-map f (λ p. (1, p)) (parents b s))) (ih.1 ∙ same ∙ sym (map-map f raised ns)) ∙ sym (map-append f (map (λ p. (1, p)) (parents b s)) (map raised ns)))
    where
      up : (ℕ → Bytes) → (ℕ → ℕ → Bytes) → ℕ → ℕ → Bytes
      up own rest zero = own
      up own rest (suc zero) = own
      up own rest (suc (suc k)) = rest (suc k)

      higher : (own : ℕ → Bytes) (rest : ℕ → ℕ → Bytes) (k : ℕ) → 0 < k → rest k ≡ up own rest (suc k)
      higher own rest zero l = absurd (not-suc-le-zero l)
      higher own rest (suc k) l = refl

  pub hashed_count : (h : ℕ) (s : List ℕ) (ds nodes : List Bytes) → length (hashed digest b pre h s ds nodes) ≡ length (nodes_above b h s)
  hashed_count h s ds nodes = ap length (hashed_above h s ds nodes).1 ∙ length-map (nodes_above b h s) _

  -- each has the digests of b children
  module _ (size : ℕ) (sized : (x : Bytes) → length (digest x) ≡ size) (pos : zero < b) where
    pub hashed_sized : (h : ℕ) (s : List ℕ) (ds nodes : List Bytes) → Fits b size h s ds nodes → Sized (length pre + size * b) (hashed digest b pre h s ds nodes)
    unfolding hashed strings node_string children
    hashed_sized zero s ds nodes f = tt
    hashed_sized (suc h) s ds nodes f =
        let v : ℕ → Bytes = found (s ++ siblings b s) (ds ++ nodes) in
        all_append (λ (x : Bytes). length x ≡ length pre + size * b) (strings digest b pre s ds nodes) (hashed digest b pre h (parents b s) (map digest (strings digest b pre s ds nodes)) (drop (length (siblings b s)) nodes))
        (mem-sized (length pre + size * b) (strings digest b pre s ds nodes) (λ x m.
        let o = map_of (parents b s) m in
        ap length o.2
        ∙ length-append pre (flatten (map v (children b o.0)))
        ∙ ap (λ (n : ℕ). length pre + n) (length-flatten size (map v (children b o.0)) (children-sized digest size sized b pos pre h s ds nodes f o.0 o.1))
        ∙ ap (λ (n : ℕ). length pre + size * n) (length-map (children b o.0) v ∙ length-up_from (b * o.0) b)))
        (hashed_sized h (parents b s) (map digest (strings digest b pre s ds nodes)) (drop (length (siblings b s)) nodes) (fits_up digest size sized b pos pre h s ds nodes f))

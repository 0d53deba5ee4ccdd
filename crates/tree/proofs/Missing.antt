-- The missing nodes are those that are not above (or in) the set and whose parent is; level by level from the leaves, left to right.
use mathlib.Core.Bool.{true, false, false≢true}
use mathlib.Core.List.Memᴰ.{append_cases as in-cases, append_left as in_left, append_right as in_right, cast as in-cast, head as here, not-nil, tail as there}
use mathlib.Core.List.{List, [], ◌∷◌, ◌++◌, map, Memᴰ as Mem}
use mathlib.Core.Logic.{◌⊎◌, inl, inr, ⊎_elim}
use mathlib.Core.Path.{◌≡◌, refl, sym, ap, ◌∙◌, subst, subst₂}
use Prim.Native.Nat.{ℕ, zero, suc, ◌+◌, ◌-◌, ◌*◌, ◌/◌, ◌%◌, ◌^◌, ◌<◌, suc-le-suc}
use native.Mathlib.Nat.{pow-zero, not-suc-le-zero, zero-lt-suc, pow-succ', le_of_suc-le-suc, div-one, div-div-eq-div-mul, pow-suc}
use native.Mathlib.Omega.{arith}
use Rattle.lists.specs.Choice.{tested}
use Rattle.lists.specs.Maps.{map_of, map_in}
use Rattle.lists.specs.Rising.{Rising}
use Rattle.tree.specs.Sets.{parents, siblings, missing, raised, Node, below, mem, without}
use Rattle.tree.proofs.Counts.{below_rising, parents-rising}
use Rattle.tree.proofs.Members.{child_in, below_in, below_of, mem_in, mem_true, without_in, without_of, parents_in, parents_of}

-- a node lies above (or in) a set of leaves
abbrev pub Above : ℕ → List ℕ → Node → Type 0
Above b s n = (i : ℕ) × Mem i s × (i / b ^ n.0 ≡ n.1)

pub above_parents : (b : ℕ) (s : List ℕ) (k p : ℕ) → Above b (parents b s) (k, p) → Above b s (suc k, p)
above_parents b s k p a =
    let o = parents_of b s a.1 in
    (o.0, o.1, (ap (λ (x : ℕ). o.0 / x) (pow-succ' b k) ∙ sym (div-div-eq-div-mul o.0 b (b ^ k))) ∙ ap (λ (x : ℕ). x / b ^ k) (sym o.2) ∙ a.2)

pub parents_above : (b : ℕ) (s : List ℕ) (k p : ℕ) → Above b s (suc k, p) → Above b (parents b s) (k, p)
parents_above b s k p a = (a.0 / b, parents_in b a.1, div-div-eq-div-mul a.0 b (b ^ k) ∙ ap (λ (x : ℕ). a.0 / x) (sym (pow-succ' b k)) ∙ a.2)

pub above_zero : (b : ℕ) (s : List ℕ) (p : ℕ) → Above b s (0, p) → Mem p s
above_zero b s p a = in-cast (sym a.2 ∙ ap (λ (x : ℕ). a.0 / x) (pow-zero b) ∙ div-one a.0) a.1

pub zero_above : (b : ℕ) (s : List ℕ) (p : ℕ) → Mem p s → Above b s (0, p)
zero_above b s p m = (p, m, ap (λ (x : ℕ). p / x) (pow-zero b) ∙ div-one p)

-- a node under the root, not above (or in) the set, whose parent is above it
pub record Missing (b h : ℕ) (s : List ℕ) (n : Node) : Type 0 where
  pub under : n.0 < h
  pub not_above : Above b s n → ⊥
  pub parent_above : Above b s (suc n.0, n.1 / b)

-- every listed node is missing
pub missing_of : (b h : ℕ) (s : List ℕ) (n : Node) → zero < b → Mem n (missing b h s) → Missing b h s n
unfolding missing siblings
missing_of b zero s n pos m = absurd (not-nil m)
missing_of b (suc h) s n pos m = ⊎_elim
    (λ (k : Mem n (map (λ c. (0, c)) (siblings b s))).
    let c = map_of (siblings b s) k in
    let o = without_of s (below b (parents b s)) c.1 in
    let q : Missing b (suc h) s (0, c.0) = record {
      under = zero-lt-suc h;
      not_above = λ a. false≢true (sym o.1 ∙ mem_true (above_zero b s c.0 a));
      parent_above = above_parents b s 0 (c.0 / b) (zero_above b (parents b s) (c.0 / b) (below_of b (parents b s) pos o.0));
    } in
    subst (Missing b (suc h) s) (sym c.2) q)
    (λ (k : Mem n (map raised (missing b h (parents b s)))).
    let c = map_of (missing b h (parents b s)) k in
    let o = missing_of b h (parents b s) c.0 pos c.1 in
    let q : Missing b (suc h) s (raised c.0) = record {
      under = suc-le-suc o.under;
      not_above = λ a. o.not_above (parents_above b s c.0.0 c.0.1 a);
      parent_above = above_parents b s (suc c.0.0) (c.0.1 / b) o.parent_above;
    } in
    subst (Missing b (suc h) s) (sym c.2) q)
    (in-cases (map (λ c. (0, c)) (siblings b s)) m)

-- every missing node is listed
pub missing_in : (b h : ℕ) (s : List ℕ) (k p : ℕ) → zero < b → Missing b h s (k, p) → Mem (k, p) (missing b h s)
unfolding missing siblings
missing_in b zero s k p pos o = absurd (not-suc-le-zero o.under)
missing_in b (suc h) s zero p pos o =
    in_left (map raised (missing b h (parents b s)))
    (map_in (λ c. (0, c)) (without_in s
    (below_in b (above_zero b (parents b s) (p / b) (parents_above b s 0 (p / b) o.parent_above)) (child_in b p pos))
    (⊎_elim (λ (e : mem p s ≡ true). absurd (o.not_above (zero_above b s p (mem_in p s e)))) (λ (e : mem p s ≡ false). e) (tested (mem p s)))))
missing_in b (suc h) s (suc k) p pos o =
    in_right (map (λ c. (0, c)) (siblings b s))
    (map_in raised (missing_in b h (parents b s) k p pos record {
      under = le_of_suc-le-suc o.under;
      not_above = λ a. o.not_above (above_parents b s k p a);
      parent_above = parents_above b s (suc k) (p / b) o.parent_above;
    }))

-- ---- two children: a node is missing when it is not above the set and its sibling is

-- the other child of its parent
abbrev pub sibling : ℕ → ℕ
sibling p = p + 1 - 2 * (p % 2)

pub missing-sibling : (h : ℕ) (s : List ℕ) (k p : ℕ) → Missing 2 h s (k, p) → Above 2 s (k, sibling p)
missing-sibling h s k p m =
    let a = m.parent_above in
    let i : ℕ = a.0 in
    let halved : i / 2 ^ k / 2 ≡ p / 2 = div-div-eq-div-mul i (2 ^ k) 2 ∙ ap (λ (x : ℕ). i / x) (sym (pow-suc 2 k)) ∙ a.2 in
    let other : i / 2 ^ k ≡ p → ⊥ = λ e. m.not_above (i, a.1, e) in
    (i, a.1, omega (arith, halved, other))

pub sibling-missing : (h : ℕ) (s : List ℕ) (k p : ℕ) → k < h → (Above 2 s (k, p) → ⊥) → Above 2 s (k, sibling p) → Missing 2 h s (k, p)
sibling-missing h s k p l n a =
    let i : ℕ = a.0 in
    let halved : i / 2 ^ k / 2 ≡ p / 2 = omega (arith, a.2) in
    record {
      under = l;
      not_above = n;
      parent_above = (i, a.1, ap (λ (x : ℕ). i / x) (pow-suc 2 k) ∙ sym (div-div-eq-div-mul i (2 ^ k) 2) ∙ halved);
    }

-- ---- the order: level by level, and on a level left to right

-- n comes before m
abbrev pub Before : Node → Node → Type 0
Before n m = (n.0 < m.0) ⊎ ((n.0 ≡ m.0) × (n.1 < m.1))

abbrev pub InOrder : List Node → Type 0
InOrder [] = Unit {0}
InOrder (n ∷ ns) = ((m : Node) → Mem m ns → Before n m) × InOrder ns

without_rising : (s cs : List ℕ) → Rising cs → Rising (without s cs)
unfolding without
without_rising s [] r = tt
without_rising s (c ∷ cs) r =
    let ih = without_rising s cs r.1 in
    ⊎_elim
    (λ (e : mem c s ≡ true). rw (e, without) ih)
    (λ (e : mem c s ≡ false). rw (e, without) (λ j m. r.0 j (without_of s cs m).0, ih))
    (tested (mem c s))

siblings-rising : (b : ℕ) (s : List ℕ) → zero < b → Rising s → Rising (siblings b s)
unfolding siblings
siblings-rising b s h r = without_rising s (below b (parents b s)) (below_rising b (parents b s) h (parents-rising b s h r))

pub level_order : (k : ℕ) (cs : List ℕ) → Rising cs → InOrder (map (λ c. (k, c)) cs)
level_order k [] r = tt
level_order k (c ∷ cs) r = (λ m i. let o = map_of cs i in subst (Before (k, c)) (sym o.2) (inr (refl, r.0 o.0 o.1)), level_order k cs r.1)

pub raised-order : (ns : List Node) → InOrder ns → InOrder (map raised ns)
raised-order [] r = tt
raised-order (n ∷ ns) r = (
  λ m k.
      let o = map_of ns k in
      subst (Before (raised n)) (sym o.2) (⊎_elim {C = Before (raised n) (raised o.0)} (λ l. inl (suc-le-suc l)) (λ e. inr (ap suc e.0, e.1)) (r.0 o.0 o.1)),
  raised-order ns r.1,
)

pub append-order : (xs ys : List Node) → InOrder xs → InOrder ys → ((x y : Node) → Mem x xs → Mem y ys → Before x y) → InOrder (xs ++ ys)
append-order [] ys rx ry h = ry
append-order (x ∷ xs) ys rx ry h = (
  λ j m. ⊎_elim (λ k. rx.0 j k) (λ k. h x j (here refl) k) (in-cases xs m),
  append-order xs ys rx.1 ry (λ u v m k. h u v (there m) k),
)

-- the list is in order, so that no node is listed twice
pub missing-order : (b h : ℕ) (s : List ℕ) → zero < b → Rising s → InOrder (missing b h s)
unfolding missing
missing-order b zero s pos r = tt
missing-order b (suc h) s pos r =
    append-order (map (λ c. (0, c)) (siblings b s)) (map raised (missing b h (parents b s)))
    (level_order 0 (siblings b s) (siblings-rising b s pos r))
    (raised-order (missing b h (parents b s)) (missing-order b h (parents b s) pos (parents-rising b s pos r)))
    (λ x y m k.
    let o = map_of (siblings b s) m in
    let q = map_of (missing b h (parents b s)) k in
    subst₂ Before (sym o.2) (sym q.2) (inl (zero-lt-suc q.0.0)))

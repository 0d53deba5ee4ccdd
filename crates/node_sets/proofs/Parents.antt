-- What a turn of `skip_children` and of `to_parents` does, on lists.
use mathlib.Core.Bool.{true, false}
use mathlib.Core.List.{List, [], ◌∷◌, ◌++◌, append-nil}
use mathlib.Core.Path.{◌≡◌, refl, sym, ap, ◌∙◌, subst}
use Prim.Native.Nat.{ℕ, zero, suc, ◌+◌, ◌*◌, ◌/◌, ◌≤◌, ◌<◌, ◌-◌}
use native.Mathlib.Nat.{add-zero, not-suc-le-zero}
use native.Mathlib.Numerals.{add-one}
use native.Mathlib.Omega.{arith}
use lib.ListN.{length, get_or, take, drop, length-drop, drop_of_length-le, set, length-set}
use lib.Seq.{get_or-drop, drop-drop, length-take-le, take_all, get_or-take, take-set-lt, drop-set-lt, take-suc-set, append_snoc}
use Rattle.tree.specs.Sets.{parents}
use Rattle.tree.specs.Walk.{used, heads}
use Rattle.tree.proofs.Children.{used_own, used_listed}
use Rattle.lists.specs.Drops.{tail-drop}
use Rattle.tree.proofs.Turns.{Turn, no_parents}
use Rattle.node_sets.specs.Clauses.{NodeSet}
use Rattle.node_sets.proofs.Turns.{set-length, turn_at, children_fit}

-- ---- the children of one parent

pub skip_own : (s : List ℕ) (a c left : ℕ) → 0 < left → heads (drop a s) c ≡ true → a + used c left (drop a s) ≡ a + 1 + used (c + 1) (left - 1) (drop (a + 1) s)
skip_own s a c left p e = omega (arith, used_own c left (drop a s) p e ∙ ap (λ (r : List ℕ). suc (used (c + 1) (left - 1) r)) (tail-drop s a))

pub skip_listed : (s : List ℕ) (a c left : ℕ) → 0 < left → heads (drop a s) c ≡ false → a + used c left (drop a s) ≡ a + used (c + 1) (left - 1) (drop a s)
skip_listed s a c left p e = ap (λ (k : ℕ). a + k) (used_listed c left (drop a s) p e)

pub skip_done : (s : List ℕ) (a c left : ℕ) → left ≤ 0 → a + used c left (drop a s) ≡ a
unfolding used
skip_done s a c zero p = add-zero a
skip_done s a c (suc k) p = absurd (not-suc-le-zero p)

-- ---- the parents

pub record ParentsInv (b : ℕ) (idx₀ : List ℕ) (n : ℕ) (idx : List ℕ) (a w : ℕ) : Type 0 where
  pub behind : w ≤ a
  pub bounded : a ≤ n
  pub same_idx : length idx ≡ length idx₀
  pub rest-set : drop a (take n idx) ≡ drop a (take n idx₀)
  pub parents_are : take w idx ++ parents b (drop a (take n idx₀)) ≡ parents b (take n idx₀)

module _ {b : ℕ} {idx₀ : List ℕ} {n : ℕ} (can : NodeSet b idx₀ n) where
  pub set_holds : ParentsInv b idx₀ n idx₀ 0 0
  set_holds = record { behind = omega arith; bounded = omega arith; same_idx = refl; rest-set = refl; parents_are = refl }

  -- a set that is a whole slice
  pub set_whole : {idx : List ℕ} {a w : ℕ} → ParentsInv b idx₀ (length idx₀) idx a w → take (length idx₀) idx ≡ idx
  set_whole {idx} v = take_all (length idx₀) idx (omega (arith, v.same_idx))

  module _ {idx : List ℕ} {a w : ℕ} (v : ParentsInv b idx₀ n idx a w) (more : a < n) where
    same_index : get_or idx₀ a 0 ≡ get_or idx a 0
    same_index =
        sym (get_or-take n idx₀ a 0 more) ∙ ap (λ (k : ℕ). get_or (take n idx₀) k 0) (sym (add-zero a)) ∙ sym (get_or-drop a (take n idx₀) 0 0)
        ∙ ap (λ (x : List ℕ). get_or x 0 0) (sym v.rest-set)
        ∙ get_or-drop a (take n idx) 0 0 ∙ ap (λ (k : ℕ). get_or (take n idx) k 0) (add-zero a) ∙ get_or-take n idx a 0 more

    the_turn : Turn b (drop a (take n idx₀)) (get_or idx a 0 / b) (used (b * (get_or idx a 0 / b)) b (drop a (take n idx)))
    the_turn =
        subst (λ (x : List ℕ). Turn b (drop a (take n idx₀)) (get_or idx a 0 / b) (used (b * (get_or idx a 0 / b)) b x)) (sym v.rest-set)
        (subst (λ (i : ℕ). Turn b (drop a (take n idx₀)) (i / b) (used (b * (i / b)) b (drop a (take n idx₀)))) same_index (turn_at can more))

    pub set_room : w < length idx
    set_room = omega (arith, v.behind, v.same_idx, can.indices)

    pub set_skip : (n ≤ length idx) × (b * (get_or idx a 0 / b) + b ≤ 4294967296)
    set_skip =
        (omega (arith, can.indices, v.same_idx), subst (λ (i : ℕ). b * (i / b) + b ≤ 4294967296) same_index (children_fit can more))

    pub set_moves : {a' : ℕ} → a' ≡ a + used (b * (get_or idx a 0 / b)) b (drop a (take n idx)) → a < a'
    set_moves e = omega (arith, the_turn.some)

    pub set_again : {idx' : List ℕ} {a' : ℕ} → a' ≡ a + used (b * (get_or idx a 0 / b)) b (drop a (take n idx)) → idx' ≡ set idx w (get_or idx a 0 / b)
        → ParentsInv b idx₀ n idx' a' (w + 1)
    set_again {idx'} {a'} ea ei =
        let s : List ℕ = take n idx₀ in
        let p : ℕ = get_or idx a 0 / b in
        let u : ℕ = used (b * p) b (drop a (take n idx)) in
        let k : Turn b (drop a s) p u = the_turn in
        let lt : w < a' = omega (arith, k.some, v.behind) in
        let rs : drop u (drop a s) ≡ drop a' s = drop-drop u a s ∙ ap (λ (j : ℕ). drop j s) (sym ea) in
        let ri : drop u (drop a (take n idx)) ≡ drop a' (take n idx) = drop-drop u a (take n idx) ∙ ap (λ (j : ℕ). drop j (take n idx)) (sym ea) in
        record {
          behind = omega arith;
          bounded = omega (arith, k.within, length-drop a s, set-length can);
          same_idx = ap length ei ∙ length-set idx w p ∙ v.same_idx;
          rest-set =
              ap (λ (x : List ℕ). drop a' (take n x)) ei ∙ ap (drop a') (take-set-lt n idx w p (omega (arith, v.behind)))
              ∙ drop-set-lt a' (take n idx) w p lt ∙ sym ri ∙ ap (drop u) v.rest-set ∙ rs;
          parents_are =
              ap (λ (x : List ℕ). x ++ parents b (drop a' s))
              (ap (λ (x : List ℕ). take (w + 1) x) ei ∙ ap (λ (j : ℕ). take j (set idx w p)) (add-one w) ∙ take-suc-set idx w p set_room)
              ∙ append_snoc (take w idx) p (parents b (drop a' s))
              ∙ ap (λ (x : List ℕ). take w idx ++ x) (ap (λ (x : List ℕ). p ∷ parents b x) (sym rs) ∙ sym k.parents_are)
              ∙ v.parents_are;
        }

  pub set_done : {idx : List ℕ} {a w : ℕ} → ParentsInv b idx₀ n idx a w → n ≤ a → (w ≡ length (parents b (take n idx₀))) × (take w idx ≡ parents b (take n idx₀))
  set_done {idx} {a} {w} v h =
      let s : List ℕ = take n idx₀ in
      let short : length s ≤ a = omega (arith, length-take-le n idx₀ can.indices) in
      let nil : drop a s ≡ [] = drop_of_length-le s short in
      let up : take w idx ≡ parents b s =
      sym (append-nil (take w idx)) ∙ ap (λ (x : List ℕ). take w idx ++ x) (sym (ap (parents b) nil ∙ no_parents b)) ∙ v.parents_are in
      (sym (length-take-le w idx (omega (arith, v.behind, v.bounded, v.same_idx, can.indices))) ∙ ap length up, up)

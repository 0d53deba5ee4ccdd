-- 24 steps of five lines, lane by lane, and of a whole table, five lines after the other.
use mathlib.Core.Path.{◌≡◌, refl, sym, ap, ◌∙◌, subst}
use mathlib.Core.Bool.{true, false}
use mathlib.Core.Logic.{◌⊎◌, inl, inr}
use mathlib.Core.List.{List}
use Prim.Native.Nat.{ℕ, suc, ◌+◌, ◌-◌, ◌*◌, ◌≤◌, ◌<◌}
use native.Mathlib.Nat.{not-suc-le-zero}
use native.Mathlib.Decide.{ℕ_discrete}
use native.Mathlib.Omega.{arith}
use lib.Dec.{ltb}
use borrow.Author.Tests.{ltb-true, ltb-false}
use Rattle.lists.specs.Choice.{tested}
use Rattle.algebra.specs.Field.{K, of, of_zero}
use Rattle.algebra.specs.Differences.{difference}
use Rattle.stepping.specs.Lanes.{run, entry, Small, grown, Grown, Five, Handed, LaneStep, KeptLines, KeptLanes, Lines, Fed, BlockStep, KeptBelow, KeptFrom, Ended, TableStep, Zeros}
use Rattle.stepping.proofs.Kernel.{grown_pos}

-- ---- five lines: the lanes below j are done

pub record BlockInv (t₀ : List ℕ) (b : ℕ) (w₀ : List ℕ) (lanes : ℕ) (t w : List ℕ) (j : ℕ) : Type 0 where
  pub small : Small t
  pub handed_small : Grown w
  pub below : KeptBelow (20 * b) t₀ t
  pub above : KeptFrom (20 * b + 20) t₀ t
  pub rest_lines : (r i : ℕ) → j ≤ i → i < 4 → entry t (4 * r + i) ≡ entry t₀ (4 * r + i)
  pub rest_handed : (n i : ℕ) → j ≤ i → i < 4 → entry w (4 * n + i) ≡ entry w₀ (4 * n + i)
  pub stepped : (g : ℕ → ℕ → K) (lines k i : ℕ) → 5 * b + 5 + k ≡ lines → Lines g lanes lines (5 * b) (5 * b + 5) t₀ i → Fed g lanes (k + 5) w₀ i
      → Lines g j lines (5 * b) (5 * b + 5) t (i + run) × Fed g j k w i

pub block_holds : (t : List ℕ) (b : ℕ) (w : List ℕ) (lanes : ℕ) → Small t → Grown w → BlockInv t b w lanes t w 0
unfolding KeptBelow KeptFrom Lines Fed
block_holds t b w lanes s g = record {
  small = s;
  handed_small = g;
  below = λ m h. refl;
  above = λ m h. refl;
  rest_lines = λ r i h l. refl;
  rest_handed = λ n i h l. refl;
  stepped = λ f lines k i e a h. (λ j r m l. absurd (not-suc-le-zero l), λ j l. absurd (not-suc-le-zero l));
}

pub block_turn : (t₀ : List ℕ) (b : ℕ) (w₀ : List ℕ) (lanes : ℕ) (t w : List ℕ) (j : ℕ) (t' w' : List ℕ) → lanes ≤ 4 → j < lanes → BlockInv t₀ b w₀ lanes t w j
    → Small t' × Grown w' × KeptLines t (20 * b + j) t' × KeptLanes w j w' × LaneStep t (20 * b + j) w j t' w' → BlockInv t₀ b w₀ lanes t' w' (j + 1)
unfolding KeptBelow KeptFrom Lines Fed KeptLines KeptLanes LaneStep Five Handed
block_turn t₀ b w₀ lanes t w j t' w' u l inv h = record {
  small = h.0;
  handed_small = h.1;
  below = λ m a. h.2 m (λ p c e. not-suc-le-zero {n = 0} (omega arith)) ∙ inv.below m a;
  above = λ m a. h.2 m (λ p c e. not-suc-le-zero {n = 0} (omega arith)) ∙ inv.above m a;
  rest_lines = λ r i a c. h.2 (4 * r + i) (λ p d e. not-suc-le-zero {n = 0} (omega arith)) ∙ inv.rest_lines r i (omega arith) c;
  rest_handed = λ n i a c. h.3 n i c (λ e. not-suc-le-zero {n = 0} (omega arith)) ∙ inv.rest_handed n i (omega arith) c;
  stepped = λ g lines k i e a f. (λ i' r m z x y d. line g lines k i e a f i' r m z x y d (ℕ_discrete i' j), λ i' z n y. fed g lines k i e a f i' z n y (ℕ_discrete i' j));
}
  where
    own : (g : ℕ → ℕ → K) (lines k i : ℕ) → 5 * b + 5 + k ≡ lines → Lines g lanes lines (5 * b) (5 * b + 5) t₀ i → Fed g lanes (k + 5) w₀ i
        → Five (g j) k t' (20 * b + j) (i + run) × Handed (g j) k w' j i
    own g lines k i e a f =
        h.4 (g j) k i
        (λ p c s.
        let x : 20 * b + j + 4 * p ≡ 4 * (5 * b + p) + j = omega arith in
        ap (λ (m : ℕ). of (entry t m)) x ∙ ap of (inv.rest_lines (5 * b + p) j (omega arith) (omega arith)) ∙ a j (5 * b + p) (k + c) l (omega arith) (omega arith) (omega arith))
        (λ n y. ap of (inv.rest_handed n j (omega arith) (omega arith)) ∙ f j l n y)

    line : (g : ℕ → ℕ → K) (lines k i : ℕ) → 5 * b + 5 + k ≡ lines → Lines g lanes lines (5 * b) (5 * b + 5) t₀ i → Fed g lanes (k + 5) w₀ i
        → (i' r m : ℕ) → i' < j + 1 → 5 * b ≤ r → r < 5 * b + 5 → r + suc m ≡ lines → Dec (i' ≡ j) → of (entry t' (4 * r + i')) ≡ difference m (g i') (i + run)
    line g lines k i e a f i' r m z x y d (yes s) =
        let v : 4 * r + i' ≡ 20 * b + j + 4 * (r - 5 * b) = omega arith in
        let o : k + (4 - (r - 5 * b)) ≡ m = omega arith in
        ap (λ (n : ℕ). of (entry t' n)) v ∙ (own g lines k i e a f).0 (r - 5 * b) (4 - (r - 5 * b)) (omega arith)
        ∙ ap (λ (n : ℕ). difference n (g j) (i + run)) o ∙ ap (λ (n : ℕ). difference m (g n) (i + run)) (sym s)
    line g lines k i e a f i' r m z x y d (no s) =
        ap of (h.2 (4 * r + i') (λ p c v. s (omega arith)))
        ∙ (inv.stepped g lines k i e a f).0 i' r m (omega arith) x y d

    fed : (g : ℕ → ℕ → K) (lines k i : ℕ) → 5 * b + 5 + k ≡ lines → Lines g lanes lines (5 * b) (5 * b + 5) t₀ i → Fed g lanes (k + 5) w₀ i
        → (i' : ℕ) → i' < j + 1 → (n : ℕ) → n < run → Dec (i' ≡ j) → of (entry w' (4 * n + i')) ≡ difference k (g i') (i + n)
    fed g lines k i e a f i' z n y (yes s) =
        ap (λ (m : ℕ). of (entry w' (4 * n + m))) s ∙ (own g lines k i e a f).1 n y ∙ ap (λ (m : ℕ). difference k (g m) (i + n)) (sym s)
    fed g lines k i e a f i' z n y (no s) = ap of (h.3 n i' (omega arith) s) ∙ (inv.stepped g lines k i e a f).1 i' (omega arith) n y

pub block_done : (t₀ : List ℕ) (b : ℕ) (w₀ : List ℕ) (lanes : ℕ) (t w : List ℕ) (j : ℕ) → j ≡ lanes → BlockInv t₀ b w₀ lanes t w j
    → Small t × Grown w × KeptBelow (20 * b) t₀ t × KeptFrom (20 * b + 20) t₀ t × BlockStep b lanes t₀ w₀ t w
unfolding BlockStep
block_done t₀ b w₀ lanes t w j e inv =
    (inv.small, inv.handed_small, inv.below, inv.above, λ g lines k i z a f. subst (λ (n : ℕ). Lines g n lines (5 * b) (5 * b + 5) t (i + run) × Fed g n k w i) e (inv.stepped g lines k i z a f))

-- ---- a table: the blocks below b are done

pub record TableInv (t₀ : List ℕ) (blocks lanes : ℕ) (t w : List ℕ) (b : ℕ) : Type 0 where
  pub small : Small t
  pub handed_small : Grown w
  pub rest : KeptFrom (20 * b) t₀ t
  pub stepped : (g : ℕ → ℕ → K) (i : ℕ) → Lines g lanes (5 * blocks) 0 (5 * blocks) t₀ i → Ended g lanes (5 * blocks)
      → Lines g lanes (5 * blocks) 0 (5 * b) t (i + run) × ((k : ℕ) → 5 * b + k ≡ 5 * blocks → Fed g lanes k w i)

pub table_holds : (t : List ℕ) (blocks lanes : ℕ) (w : List ℕ) → Small t → Zeros w → TableInv t blocks lanes t w 0
unfolding KeptFrom Lines Fed Handed Ended Zeros Grown
table_holds t blocks lanes w s z = record {
  small = s;
  handed_small = λ n j l. subst (λ (m : ℕ). m < grown n) (sym (z (4 * n + j))) (grown_pos n);
  rest = λ m h. refl;
  stepped = λ g i a e. (
    λ j r k l x y d. absurd (not-suc-le-zero {n = 0} (omega arith)),
    λ k d j l n y. ap of (z (4 * n + j)) ∙ of_zero ∙ sym (e j (i + n) l) ∙ ap (λ (m : ℕ). difference m (g j) (i + n)) (end k d),
  );
}
  where
    end : (k : ℕ) → 5 * 0 + k ≡ 5 * blocks → 5 * blocks ≡ k
    end k d = omega arith

pub table_turn : (t₀ : List ℕ) (blocks lanes : ℕ) (t w : List ℕ) (b : ℕ) (t' w' : List ℕ) → lanes ≤ 4 → b < blocks → TableInv t₀ blocks lanes t w b
    → Small t' × Grown w' × KeptBelow (20 * b) t t' × KeptFrom (20 * b + 20) t t' × BlockStep b lanes t w t' w' → TableInv t₀ blocks lanes t' w' (b + 1)
unfolding KeptBelow KeptFrom Lines Fed BlockStep
table_turn t₀ blocks lanes t w b t' w' u l inv h = record {
  small = h.0;
  handed_small = h.1;
  rest = λ m a. h.3 m (omega arith) ∙ inv.rest m (omega arith);
  stepped = λ g i a e. (λ j r k x y z d. line g i a e j r k x z d (tested (ltb r (5 * b))), λ k d. (own g i a e k d).1);
}
  where
    own : (g : ℕ → ℕ → K) (i : ℕ) → Lines g lanes (5 * blocks) 0 (5 * blocks) t₀ i → Ended g lanes (5 * blocks) → (k : ℕ) → 5 * (b + 1) + k ≡ 5 * blocks
        → Lines g lanes (5 * blocks) (5 * b) (5 * b + 5) t' (i + run) × Fed g lanes k w' i
    own g i a e k d =
        h.4 g (5 * blocks) k i (omega arith)
        (λ j r m x y z s. ap of (inv.rest (4 * r + j) (omega arith)) ∙ a j r m x (omega arith) (omega arith) s)
        ((inv.stepped g i a e).1 (k + 5) (omega arith))

    line : (g : ℕ → ℕ → K) (i : ℕ) → Lines g lanes (5 * blocks) 0 (5 * blocks) t₀ i → Ended g lanes (5 * blocks)
        → (j r k : ℕ) → j < lanes → r < 5 * (b + 1) → r + suc k ≡ 5 * blocks → (ltb r (5 * b) ≡ true) ⊎ (ltb r (5 * b) ≡ false) → of (entry t' (4 * r + j)) ≡ difference k (g j) (i + run)
    line g i a e j r k x z d (inl s) = let v : r < 5 * b = ltb-true r (5 * b) s in ap of (h.2 (4 * r + j) (omega arith)) ∙ (inv.stepped g i a e).0 j r k x (omega arith) v d
    line g i a e j r k x z d (inr s) = let v : 5 * b ≤ r = ltb-false r (5 * b) s in (own g i a e (5 * blocks - 5 * (b + 1)) (omega arith)).0 j r k x (omega arith) (omega arith) d

pub table_done : (t₀ : List ℕ) (blocks lanes : ℕ) (t w : List ℕ) (b : ℕ) → b ≡ blocks → TableInv t₀ blocks lanes t w b → Small t × TableStep (5 * blocks) lanes t₀ t w
unfolding TableStep
table_done t₀ blocks lanes t w b e inv =
    (inv.small, λ g i a f. (subst (λ (n : ℕ). Lines g lanes (5 * blocks) 0 (5 * n) t (i + run)) e (inv.stepped g i a f).0, (inv.stepped g i a f).1 0 (omega arith)))

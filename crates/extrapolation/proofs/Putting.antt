-- The values of a walk, as they are written: lane by lane, step by step, run by run.
use mathlib.Core.Path.{◌≡◌, refl, sym, ap, ◌∙◌, subst}
use mathlib.Core.Bool.{true, false}
use mathlib.Core.Logic.{◌⊎◌, inl, inr}
use mathlib.Core.List.{List}
use Prim.Native.Nat.{ℕ, suc, ◌+◌, ◌-◌, ◌*◌, ◌%◌, ◌≤◌, ◌<◌}
use native.Mathlib.Nat.{not-suc-le-zero, mul-le-mul_left}
use native.Mathlib.Decide.{ℕ_discrete}
use native.Mathlib.Omega.{arith}
use lib.Dec.{ltb, lit<}
use lib.ListN.{length, set, replicate, get_or-replicate, length-replicate, get_or-eq_default}
use lib.Seq.{get_or-set_same, get_or-set_other}
use borrow.Author.Tests.{ltb-true, ltb-false}
use Rattle.lists.specs.Choice.{tested}
use Rattle.lists.specs.Parts.{row_fits}
use Rattle.algebra.specs.Prime.{q}
use Rattle.algebra.specs.Field.{K, val_of}
use Rattle.algebra.specs.Differences.{difference}
use Rattle.stepping.specs.Lanes.{run, limit, entry, Small, Handed, Lines, Fed, KeptBelow, KeptFrom, Ended, TableStep, Zeros}
use Rattle.extrapolation.specs.Written.{PutLanes, KeptColumns, KeptRows, Put, Walked, Walk}

pub zeros : (n : ℕ) → Zeros (replicate n 0)
unfolding Zeros
zeros n m = go (tested (ltb m n))
  where
    go : (ltb m n ≡ true) ⊎ (ltb m n ≡ false) → entry (replicate n 0) m ≡ 0
    go (inl h) = get_or-replicate n m 0 0 (ltb-true m n h)
    go (inr h) = let l : n ≤ m = ltb-false m n h in get_or-eq_default (replicate n 0) 0 {n = m} (omega (arith, length-replicate {A = ℕ} n 0))

-- ---- a step's values

pub put_none : (w : List ℕ) (n start : ℕ) (out : List ℕ) → PutLanes w n 0 start out out
unfolding PutLanes KeptBelow KeptFrom
put_none w n start out = (λ j l. absurd (not-suc-le-zero l), λ m l. refl, λ m l. refl)

pub put_turn : (w : List ℕ) (n j start : ℕ) (out₀ out : List ℕ) (v : ℕ) → start + j < length out → v ≡ entry w (4 * n + j) % q → PutLanes w n j start out₀ out
    → PutLanes w n (j + 1) start out₀ (set out (start + j) v)
unfolding PutLanes KeptBelow KeptFrom
put_turn w n j start out₀ out v l e h = (
  λ i u. go i u (ℕ_discrete i j),
  λ m u. get_or-set_other out (start + j) m v 0 (λ z. not-suc-le-zero {n = 0} (omega arith)) ∙ h.1 m u,
  λ m u. get_or-set_other out (start + j) m v 0 (λ z. not-suc-le-zero {n = 0} (omega arith)) ∙ h.2 m (omega arith),
)
  where
    go : (i : ℕ) → i < j + 1 → Dec (i ≡ j) → entry (set out (start + j) v) (start + i) ≡ entry w (4 * n + i) % q
    go i u (yes z) = ap (λ (m : ℕ). entry (set out (start + j) v) (start + m)) z ∙ get_or-set_same out (start + j) v 0 l ∙ e ∙ ap (λ (m : ℕ). entry w (4 * n + m) % q) (sym z)
    go i u (no z) = get_or-set_other out (start + j) (start + i) v 0 (λ d. z (omega arith)) ∙ h.0 i (omega arith)

-- ---- the steps below n of a run

pub record StepsInv (w : List ℕ) (i lanes first end stride lo : ℕ) (out₀ out : List ℕ) (n : ℕ) : Type 0 where
  pub columns : KeptColumns stride lo lanes out₀ out
  pub rows : KeptRows i end stride lo lanes out₀ out
  pub put : Put w i n first end stride lo lanes out

pub steps_none : (w : List ℕ) (i lanes first end stride lo : ℕ) (out : List ℕ) (n : ℕ) → n ≡ first - i → StepsInv w i lanes first end stride lo out out n
unfolding KeptColumns KeptRows Put
steps_none w i lanes first end stride lo out n e = record {
  columns = λ x c l. (λ h. refl, λ h. refl);
  rows = λ x j l h. refl;
  put = λ x m j l z h u. absurd (not-suc-le-zero {n = 0} (omega arith));
}

module _ (w : List ℕ) (n lanes x stride lo : ℕ) (out out' : List ℕ) (fit : lo + lanes ≤ stride) (h : PutLanes w n lanes (x * stride + lo) out out') where
  before : (y c : ℕ) → y < x → c < stride → entry out' (y * stride + c) ≡ entry out (y * stride + c)
  unfolding PutLanes KeptBelow
  before y c l u = h.1 (y * stride + c) (omega (arith, row_fits stride y x l))

  after : (y c : ℕ) → x < y → entry out' (y * stride + c) ≡ entry out (y * stride + c)
  unfolding PutLanes KeptFrom
  after y c l = h.2 (y * stride + c) (omega (arith, row_fits stride x y l))

  left : (y c : ℕ) → c < lo → entry out' (y * stride + c) ≡ entry out (y * stride + c)
  unfolding PutLanes KeptBelow
  left y c l = go (tested (ltb x y))
    where
      go : (ltb x y ≡ true) ⊎ (ltb x y ≡ false) → entry out' (y * stride + c) ≡ entry out (y * stride + c)
      go (inl e) = after y c (ltb-true x y e)
      go (inr e) = h.1 (y * stride + c) (omega (arith, mul-le-mul_left stride (ltb-false x y e)))

  right : (y c : ℕ) → c < stride → lo + lanes ≤ c → entry out' (y * stride + c) ≡ entry out (y * stride + c)
  unfolding PutLanes KeptFrom
  right y c u l = go (tested (ltb y x))
    where
      go : (ltb y x ≡ true) ⊎ (ltb y x ≡ false) → entry out' (y * stride + c) ≡ entry out (y * stride + c)
      go (inl e) = before y c (ltb-true y x e) u
      go (inr e) = h.2 (y * stride + c) (omega (arith, mul-le-mul_left stride (ltb-false y x e)))

  pub steps_turn : (i first end : ℕ) (out₀ : List ℕ) → x + suc (i + n) ≡ end → StepsInv w i lanes first end stride lo out₀ out n → StepsInv w i lanes first end stride lo out₀ out' (n + 1)
  unfolding KeptColumns KeptRows Put PutLanes
  steps_turn i first end out₀ e inv = record {
    columns = λ y c l. (λ z. left y c z ∙ (inv.columns y c l).0 z, λ z. right y c l z ∙ (inv.columns y c l).1 z);
    rows = λ y j l z. after y (lo + j) (omega arith) ∙ inv.rows y j l z;
    put = λ y m j l z a u. one y m j l z a u (ℕ_discrete m n);
  }
    where
      one : (y m j : ℕ) → m < n + 1 → y + suc (i + m) ≡ end → first ≤ i + m → j < lanes → Dec (m ≡ n) → entry out' (y * stride + (lo + j)) ≡ entry w (4 * m + j) % q
      one y m j l z a u (yes d) =
          let s : y ≡ x = omega arith in
          let r : x * stride + (lo + j) ≡ x * stride + lo + j = omega arith in
          ap (λ (k : ℕ). entry out' (k * stride + (lo + j))) s ∙ ap (entry out') r ∙ h.0 j u ∙ ap (λ (k : ℕ). entry w (4 * k + j) % q) (sym d)
      one y m j l z a u (no d) = after y (lo + j) (omega arith) ∙ inv.put y m j (omega arith) z a u

pub steps_done : (w : List ℕ) (i lanes first end stride lo : ℕ) (out₀ out : List ℕ) (n to : ℕ) → to ≤ n → (to ≡ run) ⊎ (to ≡ end - i) → StepsInv w i lanes first end stride lo out₀ out n
    → KeptColumns stride lo lanes out₀ out × KeptRows i end stride lo lanes out₀ out × Put w i run first end stride lo lanes out
unfolding Put
steps_done w i lanes first end stride lo out₀ out n to l (inl e) inv = (inv.columns, inv.rows, λ x m j u z a b. inv.put x m j (omega arith) z a b)
steps_done w i lanes first end stride lo out₀ out n to l (inr e) inv = (inv.columns, inv.rows, λ x m j u z a b. inv.put x m j (omega arith) z a b)

-- ---- the runs before step i

pub record WalkInv (lines lanes first end stride lo : ℕ) (t₀ out₀ t out : List ℕ) (i : ℕ) : Type 0 where
  pub small : Small t
  pub columns : KeptColumns stride lo lanes out₀ out
  pub walked : (g : ℕ → ℕ → K) → Lines g lanes lines 0 lines t₀ 0 → Ended g lanes lines → Lines g lanes lines 0 lines t i × Walked g i first end stride lo lanes out

pub walk_none : (lines lanes first end stride lo : ℕ) (t out : List ℕ) → Small t → WalkInv lines lanes first end stride lo t out t out 0
unfolding KeptColumns Walked
walk_none lines lanes first end stride lo t out s = record {
  small = s;
  columns = λ x c l. (λ h. refl, λ h. refl);
  walked = λ g a b. (a, λ x m j l. absurd (not-suc-le-zero l));
}

pub walk_turn : (lines lanes first end stride lo : ℕ) (t₀ out₀ t out : List ℕ) (i : ℕ) (t' w out' : List ℕ) → WalkInv lines lanes first end stride lo t₀ out₀ t out i
    → Small t' × TableStep lines lanes t t' w
    → KeptColumns stride lo lanes out out' × KeptRows i end stride lo lanes out out' × Put w i run first end stride lo lanes out'
    → WalkInv lines lanes first end stride lo t₀ out₀ t' out' (i + run)
unfolding KeptColumns KeptRows Put Walked TableStep Fed Handed difference
walk_turn lines lanes first end stride lo t₀ out₀ t out i t' w out' inv s p = record {
  small = s.0;
  columns = λ x c l. (λ h. (p.0 x c l).0 h ∙ (inv.columns x c l).0 h, λ h. (p.0 x c l).1 h ∙ (inv.columns x c l).1 h);
  walked = λ g a b. ((s.1 g i (inv.walked g a b).0 b).0, λ x m j l z f u. one g a b x m j l z f u (tested (ltb m i)));
}
  where
    one : (g : ℕ → ℕ → K) → Lines g lanes lines 0 lines t₀ 0 → Ended g lanes lines → (x m j : ℕ) → m < i + run → x + suc m ≡ end → first ≤ m → j < lanes
        → (ltb m i ≡ true) ⊎ (ltb m i ≡ false) → entry out' (x * stride + (lo + j)) ≡ (g j m).val
    one g a b x m j l z f u (inl e) = let h : m < i = ltb-true m i e in p.1 x j (omega arith) u ∙ (inv.walked g a b).1 x m j h z f u
    one g a b x m j l z f u (inr e) =
        let h : i ≤ m = ltb-false m i e in
        let r : i + (m - i) ≡ m = omega arith in
        p.2 x (m - i) j (omega arith) (omega arith) (omega arith) u
        ∙ sym (val_of (entry w (4 * (m - i) + j)))
        ∙ ap (λ (k : K). k.val) ((s.1 g i (inv.walked g a b).0 b).1 j u (m - i) (omega arith))
        ∙ ap (λ (k : ℕ). (g j k).val) r

pub walk_done : (lines lanes first end stride lo : ℕ) (t₀ out₀ t out : List ℕ) (i : ℕ) → end ≤ i → WalkInv lines lanes first end stride lo t₀ out₀ t out i
    → Small t × KeptColumns stride lo lanes out₀ out × Walk lines t₀ first end stride lo lanes out
unfolding Walk Walked
walk_done lines lanes first end stride lo t₀ out₀ t out i l inv = (inv.small, inv.columns, λ g a b x m j h z f u. (inv.walked g a b).1 x m j (omega arith) z f u)

pub small_zeros : (n : ℕ) → Small (replicate n 0)
unfolding Small Zeros
small_zeros n m = subst (λ (k : ℕ). k < limit) (sym (zeros n m)) (lit< tt)

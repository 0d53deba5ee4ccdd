-- The step of five entries of a lane, 24 times, and what of the table it leaves.
use mathlib.Core.Path.{◌≡◌, refl, sym, ap, ap₂, ◌∙◌, subst}
use mathlib.Core.Logic.{◌≢◌}
use mathlib.Core.List.{List, [], ◌∷◌}
use Prim.Native.Nat.{ℕ, zero, suc, ◌+◌, ◌-◌, ◌*◌, ◌≤◌, ◌<◌}
use native.Mathlib.Nat.{add-zero, add-suc, not-suc-le-zero}
use native.Mathlib.Numerals.{add-one}
use native.Mathlib.Decide.{ℕ_discrete}
use native.Mathlib.Omega.{arith}
use lib.Dec.{lit<}
use lib.ListN.{length, set, length-set}
use lib.Seq.{get_or-set_same, get_or-set_other}
use Rattle.algebra.specs.Field.{K, of, of_path, of_add, ◌⊕◌}
use Rattle.algebra.specs.Fold.{fold_n, most_folded, folded_mod}
use Rattle.algebra.specs.Differences.{difference, difference-step}
use Rattle.stepping.specs.Lanes.{run, limit, entry, Addable, Small, grown, Grown, turned, Five, Handed, LaneStep, KeptLines, KeptLanes}

-- ---- folding

pub fold_kept : (r x : ℕ) → (r ≡ fold_n x) × (r ≤ most_folded) → (of r ≡ of x) × (r < limit)
fold_kept r x h = (of_path r x (folded_mod r x h.0), omega arith)

-- ---- growth

grown_more : (m n : ℕ) → grown n ≤ grown (n + m)
unfolding grown
grown_more zero n = rw (add-zero n) (omega arith)
grown_more (suc m) n = rw (add-suc n m) (omega (arith, grown_more m n))

grown-high : (n : ℕ) → n ≤ run → grown n ≤ 576460752303423488
unfolding grown
grown-high n l = subst (λ (m : ℕ). grown n ≤ grown m) e (grown_more (run - n) n)
  where
    e : n + (run - n) ≡ run
    e = omega arith

pub grown_pos : (n : ℕ) → 0 < grown n
unfolding grown
grown_pos zero = lit< tt
grown_pos (suc n) = omega (arith, grown_pos n)

grown-suc : (n : ℕ) → grown (n + 1) ≡ grown n + grown n
unfolding grown
grown-suc n = ap grown (add-one n)

-- ---- one step

abbrev FiveV : (ℕ → K) → ℕ → List ℕ → ℕ → Type 0
FiveV g k v i = (c : ℕ) → c < 5 → of (entry v c) ≡ difference (k + c) g i

pub record LaneInv (t : List ℕ) (at : ℕ) (w₀ : List ℕ) (j : ℕ) (w v : List ℕ) (n : ℕ) : Type 0 where
  pub room : length w ≡ 4 * run
  pub small : (k : ℕ) → entry v k < grown n
  pub handed_small : Grown w
  pub rest : (m : ℕ) → n ≤ m → entry w (4 * m + j) ≡ entry w₀ (4 * m + j)
  pub kept : KeptLanes w₀ j w
  pub stepped : (g : ℕ → K) (k i : ℕ) → Five g k t at i → Handed g (k + 5) w₀ j i → FiveV g k v (i + n) × ((m : ℕ) → m < n → of (entry w (4 * m + j)) ≡ difference k g (i + m))

five_of : (t : List ℕ) (at : ℕ) → List ℕ
five_of t at = entry t (at + 16) ∷ entry t (at + 12) ∷ entry t (at + 8) ∷ entry t (at + 4) ∷ entry t at ∷ []

kept_none : (w : List ℕ) (j : ℕ) → KeptLanes w j w
unfolding KeptLanes
kept_none w j n i l h = refl

small_five : (t : List ℕ) (at : ℕ) → Small t → (k : ℕ) → entry (five_of t at) k < grown 0
unfolding Small grown five_of
small_five t at s zero = s (at + 16)
small_five t at s (suc zero) = s (at + 12)
small_five t at s (suc (suc zero)) = s (at + 8)
small_five t at s (suc (suc (suc zero))) = s (at + 4)
small_five t at s (suc (suc (suc (suc zero)))) = s at
small_five t at s (suc (suc (suc (suc (suc k))))) = lit< tt

start_five : (t : List ℕ) (at : ℕ) (f : ℕ → K) (k i : ℕ) → Five f k t at i → FiveV f k (five_of t at) (i + 0)
unfolding Five five_of
start_five t at f k i a zero l = a 4 0 refl ∙ ap (difference (k + 0) f) (sym (add-zero i))
start_five t at f k i a (suc zero) l = a 3 1 refl ∙ ap (difference (k + 1) f) (sym (add-zero i))
start_five t at f k i a (suc (suc zero)) l = a 2 2 refl ∙ ap (difference (k + 2) f) (sym (add-zero i))
start_five t at f k i a (suc (suc (suc zero))) l = a 1 3 refl ∙ ap (difference (k + 3) f) (sym (add-zero i))
start_five t at f k i a (suc (suc (suc (suc zero)))) l = ap (λ (m : ℕ). of (entry t m)) (sym (add-zero at)) ∙ a 0 4 refl ∙ ap (difference (k + 4) f) (sym (add-zero i))
start_five t at f k i a (suc (suc (suc (suc (suc c))))) l = absurd (not-suc-le-zero {n = 0} (omega arith))

pub lane_holds : (t : List ℕ) (at : ℕ) (w : List ℕ) (j : ℕ) → length w ≡ 4 * run → Small t → Grown w
    → LaneInv t at w j w (entry t (at + 16) ∷ entry t (at + 12) ∷ entry t (at + 8) ∷ entry t (at + 4) ∷ entry t at ∷ []) 0
unfolding five_of
lane_holds t at w j l s g = record {
  room = l;
  small = small_five t at s;
  handed_small = g;
  rest = λ m h. refl;
  kept = kept_none w j;
  stepped = λ f k i a b. (start_five t at f k i a, λ m h. absurd (not-suc-le-zero h));
}

-- the entries after a step
turned_small : (v : List ℕ) (x n : ℕ) → ((k : ℕ) → entry v k < grown n) → x < grown n → (k : ℕ) → entry (turned v x) k < grown (n + 1)
turned_small v x n s b zero = rw (grown-suc n) (omega (arith, s 0, s 1))
turned_small v x n s b (suc zero) = rw (grown-suc n) (omega (arith, s 1, s 2))
turned_small v x n s b (suc (suc zero)) = rw (grown-suc n) (omega (arith, s 2, s 3))
turned_small v x n s b (suc (suc (suc zero))) = rw (grown-suc n) (omega (arith, s 3, s 4))
turned_small v x n s b (suc (suc (suc (suc zero)))) = rw (grown-suc n) (omega (arith, s 4, b))
turned_small v x n s b (suc (suc (suc (suc (suc k))))) = grown_pos (n + 1)

sum_step : (a b k i : ℕ) (g : ℕ → K) → of a ≡ difference k g i → of b ≡ difference (suc k) g i → of (a + b) ≡ difference k g (suc i)
sum_step a b k i g e f = sym (of_add a b) ∙ ap₂ ◌⊕◌ e f ∙ difference-step k g i

turned_five : (v : List ℕ) (x : ℕ) (g : ℕ → K) (k i : ℕ) → FiveV g k v i → of x ≡ difference (k + 5) g i → FiveV g k (turned v x) (suc i)
turned_five v x g k i a b zero l = sum_step (entry v 0) (entry v 1) (k + 0) i g (a 0 (lit< tt)) (a 1 (lit< tt) ∙ order k 0 1 refl)
  where
    order : (k c d : ℕ) → d ≡ suc c → difference (k + d) g i ≡ difference (suc (k + c)) g i
    order k c d e = ap (λ (m : ℕ). difference m g i) (ap (λ (m : ℕ). k + m) e ∙ add-suc k c)
turned_five v x g k i a b (suc zero) l = sum_step (entry v 1) (entry v 2) (k + 1) i g (a 1 (lit< tt)) (a 2 (lit< tt) ∙ ap (λ (m : ℕ). difference m g i) (add-suc k 1))
turned_five v x g k i a b (suc (suc zero)) l = sum_step (entry v 2) (entry v 3) (k + 2) i g (a 2 (lit< tt)) (a 3 (lit< tt) ∙ ap (λ (m : ℕ). difference m g i) (add-suc k 2))
turned_five v x g k i a b (suc (suc (suc zero))) l = sum_step (entry v 3) (entry v 4) (k + 3) i g (a 3 (lit< tt)) (a 4 (lit< tt) ∙ ap (λ (m : ℕ). difference m g i) (add-suc k 3))
turned_five v x g k i a b (suc (suc (suc (suc zero)))) l = sum_step (entry v 4) x (k + 4) i g (a 4 (lit< tt)) (b ∙ ap (λ (m : ℕ). difference m g i) (add-suc k 4))
turned_five v x g k i a b (suc (suc (suc (suc (suc c))))) l = absurd (not-suc-le-zero {n = 0} (omega arith))

module _ (w : List ℕ) (n j x : ℕ) (l : 4 * n + j < length w) (u : j < 4) where
  abbrev pub put : List ℕ
  put = set w (4 * n + j) x

  pub put_here : (m : ℕ) → m ≡ n → entry put (4 * m + j) ≡ x
  put_here m e = ap (λ (i : ℕ). entry put (4 * i + j)) e ∙ get_or-set_same w (4 * n + j) x 0 l

  pub put_else : (m : ℕ) → m ≢ n → entry put (4 * m + j) ≡ entry w (4 * m + j)
  put_else m h = get_or-set_other w (4 * n + j) (4 * m + j) x 0 (λ e. h (omega arith))

  pub put_lane : (m i : ℕ) → i < 4 → i ≢ j → entry put (4 * m + i) ≡ entry w (4 * m + i)
  put_lane m i b h = get_or-set_other w (4 * n + j) (4 * m + i) x 0 (λ e. h (omega arith))

  put_grown : Grown w → x < grown n → Grown put
  unfolding Grown
  put_grown g b m i h = go (ℕ_discrete i j) (ℕ_discrete m n)
    where
      go : Dec (i ≡ j) → Dec (m ≡ n) → entry put (4 * m + i) < grown m
      go (yes e) (yes f) = subst (λ (k : ℕ). entry put (4 * m + k) < grown m) (sym e) (subst (λ (k : ℕ). entry put (4 * m + j) < grown k) (sym f) (subst (λ (k : ℕ). k < grown n) (sym (put_here m f)) b))
      go (yes e) (no f) = subst (λ (k : ℕ). entry put (4 * m + k) < grown m) (sym e) (subst (λ (k : ℕ). k < grown m) (sym (put_else m f)) (g m j u))
      go (no e) d = subst (λ (k : ℕ). k < grown m) (sym (put_lane m i h e)) (g m i h)

pub lane_turn : (t : List ℕ) (at : ℕ) (w₀ : List ℕ) (j : ℕ) (w v v' : List ℕ) (n : ℕ) → j < 4 → n < run → LaneInv t at w₀ j w v n
    → v' ≡ turned v (entry w (4 * n + j)) → LaneInv t at w₀ j (set w (4 * n + j) (entry v 0)) v' (n + 1)
unfolding Grown KeptLanes Handed
lane_turn t at w₀ j w v v' n u b inv e = record {
  room = length-set w (4 * n + j) (entry v 0) ∙ inv.room;
  small = λ k. subst (λ (l : List ℕ). entry l k < grown (n + 1)) (sym e) (turned_small v (entry w (4 * n + j)) n inv.small (inv.handed_small n j u) k);
  handed_small = put_grown w n j (entry v 0) inside u inv.handed_small (inv.small 0);
  rest = λ m h. put_else w n j (entry v 0) inside u m (λ d. not-suc-le-zero {n = 0} (omega arith)) ∙ inv.rest m (omega arith);
  kept = λ m i l h. put_lane w n j (entry v 0) inside u m i l h ∙ inv.kept m i l h;
  stepped = λ g k i a h. (
    λ c l. ap (λ (s : List ℕ). of (entry s c)) e
        ∙ turned_five v (entry w (4 * n + j)) g k (i + n) (inv.stepped g k i a h).0 (ap of (inv.rest n (omega arith)) ∙ h n b) c l
        ∙ ap (difference (k + c) g) (sym (add-suc i n) ∙ ap (λ (m : ℕ). i + m) (sym (add-one n))),
    λ m l. one g k i a h m l (ℕ_discrete m n),
  );
}
  where
    inside : 4 * n + j < length w
    inside = omega (arith, inv.room)

    one : (g : ℕ → K) (k i : ℕ) → Five g k t at i → Handed g (k + 5) w₀ j i → (m : ℕ) → m < n + 1 → Dec (m ≡ n)
        → of (entry (set w (4 * n + j) (entry v 0)) (4 * m + j)) ≡ difference k g (i + m)
    one g k i a h m l (yes d) =
        ap of (put_here w n j (entry v 0) inside u m d)
        ∙ (inv.stepped g k i a h).0 0 (lit< tt)
        ∙ ap₂ (λ (x y : ℕ). difference x g (i + y)) (add-zero k) (sym d)
    one g k i a h m l (no d) = ap of (put_else w n j (entry v 0) inside u m d) ∙ (inv.stepped g k i a h).1 m (omega arith)

-- ---- five entries put back

fourth : (c u p : ℕ) → p + c ≡ 4 → p + u ≡ 4 → c ≡ u
fourth c u p e h = omega arith

pub below : (t : List ℕ) (m x : ℕ) → m < length t → x < limit → ((i : ℕ) → entry t i < limit) → (i : ℕ) → entry (set t m x) i < limit
below t m x b l h i = go (ℕ_discrete i m)
  where
    go : Dec (i ≡ m) → entry (set t m x) i < limit
    go (yes e) = subst (λ (k : ℕ). k < limit) (sym (ap (λ (k : ℕ). entry (set t m x) k) e ∙ get_or-set_same t m x 0 b)) l
    go (no e) = subst (λ (k : ℕ). k < limit) (sym (get_or-set_other t m i x 0 e)) (h i)

module _ (t : List ℕ) (at a b c d e : ℕ) (l : at + 16 < length t) where
  abbrev t₁ : List ℕ
  t₁ = set t at a

  abbrev t₂ : List ℕ
  t₂ = set t₁ (at + 4) b

  abbrev t₃ : List ℕ
  t₃ = set t₂ (at + 8) c

  abbrev t₄ : List ℕ
  t₄ = set t₃ (at + 12) d

  abbrev pub t₅ : List ℕ
  t₅ = set t₄ (at + 16) e

  l₁ : length t₁ ≡ length t
  l₁ = length-set t at a

  l₂ : length t₂ ≡ length t
  l₂ = length-set t₁ (at + 4) b ∙ l₁

  l₃ : length t₃ ≡ length t
  l₃ = length-set t₂ (at + 8) c ∙ l₂

  l₄ : length t₄ ≡ length t
  l₄ = length-set t₃ (at + 12) d ∙ l₃

  else : (m : ℕ) → m ≢ at → m ≢ at + 4 → m ≢ at + 8 → m ≢ at + 12 → m ≢ at + 16 → entry t₅ m ≡ entry t m
  else m h₁ h₂ h₃ h₄ h₅ =
      get_or-set_other t₄ (at + 16) m e 0 h₅ ∙ get_or-set_other t₃ (at + 12) m d 0 h₄ ∙ get_or-set_other t₂ (at + 8) m c 0 h₃ ∙ get_or-set_other t₁ (at + 4) m b 0 h₂
      ∙ get_or-set_other t at m a 0 h₁

  at₅ : entry t₅ (at + 16) ≡ e
  at₅ = get_or-set_same t₄ (at + 16) e 0 (omega (arith, l₄))

  at₄ : entry t₅ (at + 12) ≡ d
  at₄ = get_or-set_other t₄ (at + 16) (at + 12) e 0 (λ h. not-suc-le-zero {n = 0} (omega arith)) ∙ get_or-set_same t₃ (at + 12) d 0 (omega (arith, l₃))

  at₃ : entry t₅ (at + 8) ≡ c
  at₃ = get_or-set_other t₄ (at + 16) (at + 8) e 0 (λ h. not-suc-le-zero {n = 0} (omega arith)) ∙ get_or-set_other t₃ (at + 12) (at + 8) d 0 (λ h. not-suc-le-zero {n = 0} (omega arith)) ∙ get_or-set_same t₂ (at + 8) c 0 (omega (arith, l₂))

  at₂ : entry t₅ (at + 4) ≡ b
  at₂ =
      get_or-set_other t₄ (at + 16) (at + 4) e 0 (λ h. not-suc-le-zero {n = 0} (omega arith)) ∙ get_or-set_other t₃ (at + 12) (at + 4) d 0 (λ h. not-suc-le-zero {n = 0} (omega arith))
      ∙ get_or-set_other t₂ (at + 8) (at + 4) c 0 (λ h. not-suc-le-zero {n = 0} (omega arith))
      ∙ get_or-set_same t₁ (at + 4) b 0 (omega (arith, l₁))

  at₁ : entry t₅ at ≡ a
  at₁ =
      get_or-set_other t₄ (at + 16) at e 0 (λ h. not-suc-le-zero {n = 0} (omega arith)) ∙ get_or-set_other t₃ (at + 12) at d 0 (λ h. not-suc-le-zero {n = 0} (omega arith))
      ∙ get_or-set_other t₂ (at + 8) at c 0 (λ h. not-suc-le-zero {n = 0} (omega arith))
      ∙ get_or-set_other t₁ (at + 4) at b 0 (λ h. not-suc-le-zero {n = 0} (omega arith))
      ∙ get_or-set_same t at a 0 (omega arith)

  small₅ : Small t → a < limit → b < limit → c < limit → d < limit → e < limit → Small t₅
  unfolding Small
  small₅ s ha hb hc hd he m =
      below t₄ (at + 16) e (omega (arith, l₄)) he
      (below t₃ (at + 12) d (omega (arith, l₃)) hd (below t₂ (at + 8) c (omega (arith, l₂)) hc (below t₁ (at + 4) b (omega (arith, l₁)) hb (below t at a (omega arith) ha s)))) m

  lane-kept : KeptLines t at t₅
  unfolding KeptLines
  lane-kept m h = else m (λ z. h 0 (lit< tt) (z ∙ sym (add-zero at))) (h 1 (lit< tt)) (h 2 (lit< tt)) (h 3 (lit< tt)) (h 4 (lit< tt))

  pub lane_done : (w₀ : List ℕ) (j : ℕ) (w v : List ℕ) (n : ℕ) → n ≡ run → Small t → LaneInv t at w₀ j w v n
      → (of a ≡ of (entry v 4)) × (a < limit) → (of b ≡ of (entry v 3)) × (b < limit) → (of c ≡ of (entry v 2)) × (c < limit)
      → (of d ≡ of (entry v 1)) × (d < limit) → (of e ≡ of (entry v 0)) × (e < limit)
      → Small t₅ × Grown w × KeptLines t at t₅ × KeptLanes w₀ j w × LaneStep t at w₀ j t₅ w
  unfolding LaneStep Five Handed
  lane_done w₀ j w v n z s inv ha hb hc hd he = (
    small₅ s ha.1 hb.1 hc.1 hd.1 he.1,
    inv.handed_small,
    lane-kept,
    inv.kept,
    λ g k i x y. (five g k i x y, λ m h. (inv.stepped g k i x y).1 m (omega arith)),
  )
    where
      from : (g : ℕ → K) (k i : ℕ) → Five g k t at i → Handed g (k + 5) w₀ j i → (u : ℕ) → u < 5 → of (entry v u) ≡ difference (k + u) g (i + run)
      from g k i x y u h = (inv.stepped g k i x y).0 u h ∙ ap (λ (r : ℕ). difference (k + u) g (i + r)) z

      five : (g : ℕ → K) (k i : ℕ) → Five g k t at i → Handed g (k + 5) w₀ j i → (p u : ℕ) → p + u ≡ 4 → of (entry t₅ (at + 4 * p)) ≡ difference (k + u) g (i + run)
      five g k i x y zero u h =
          ap (λ (r : ℕ). of (entry t₅ r)) (add-zero at) ∙ ap of at₁ ∙ ha.0 ∙ from g k i x y 4 (lit< tt) ∙ ap (λ (r : ℕ). difference (k + r) g (i + run)) (fourth 4 u 0 refl h)
      five g k i x y (suc zero) u h = ap of at₂ ∙ hb.0 ∙ from g k i x y 3 (lit< tt) ∙ ap (λ (r : ℕ). difference (k + r) g (i + run)) (fourth 3 u 1 refl h)
      five g k i x y (suc (suc zero)) u h = ap of at₃ ∙ hc.0 ∙ from g k i x y 2 (lit< tt) ∙ ap (λ (r : ℕ). difference (k + r) g (i + run)) (fourth 2 u 2 refl h)
      five g k i x y (suc (suc (suc zero))) u h = ap of at₄ ∙ hd.0 ∙ from g k i x y 1 (lit< tt) ∙ ap (λ (r : ℕ). difference (k + r) g (i + run)) (fourth 1 u 3 refl h)
      five g k i x y (suc (suc (suc (suc zero)))) u h = ap of at₅ ∙ he.0 ∙ from g k i x y 0 (lit< tt) ∙ ap (λ (r : ℕ). difference (k + r) g (i + run)) (fourth 0 u 4 refl h)
      five g k i x y (suc (suc (suc (suc (suc p))))) u h = absurd (not-suc-le-zero {n = 0} (omega arith))

-- a step fits
pub lane_fits : (t : List ℕ) (at : ℕ) (w₀ : List ℕ) (j : ℕ) (w v : List ℕ) (n : ℕ) → j < 4 → n ≤ run → LaneInv t at w₀ j w v n
    → Addable v (entry w (4 * n + j))
unfolding Grown
lane_fits t at w₀ j w v n u l inv = (λ k. omega (arith, grown-high n l, inv.small k), omega (arith, grown-high n l, inv.handed_small n j u))

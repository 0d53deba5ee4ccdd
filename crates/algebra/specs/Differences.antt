-- Differences of functions on numbers: a table of them steps along by sums alone, and those of a polynomial end.
use Rattle.std.specs.Prelude.{◌≡◌, refl, List, [], ◌∷◌, ℕ, zero, suc, ◌+◌, ◌-◌, ◌≤◌, ◌<◌, ltb, length, get_or}
use Rattle.std.proofs.Common.{sym, ◌∙◌, ap, ap₂, add-zero, zero-add, add-suc, suc-add, le_of_lt, mod-lt, add-one, arith, lit<, lt-ltb, le-ltb}
use Rattle.lists.specs.Choice.{pick}
use Rattle.lists.specs.Fill.{Filled}
use Rattle.algebra.specs.Prime.{q}
use Rattle.algebra.specs.Field.{K, of, ◌⊕◌, ◌⊗◌, ◌⊝◌, ⊖, 𝟎, 𝟏, dv, ring, dif_path, of_one, of_suc, ⊕-⊝, ⊕-neg, ⊗-comm, ⊗-assoc, ⊗-one, ⊗-zero}
use Rattle.algebra.specs.Poly.{eval}
use Rattle.algebra.specs.Lagrange.{sign}
use Rattle.algebra.specs.Numbers.{Elements, elements_at}
use Rattle.algebra.specs.Divided.{sub_n, of_sub_n}

-- the difference of order k of g, at i
unfoldable pub difference : ℕ → (ℕ → K) → ℕ → K
difference zero g i = g i
difference (suc k) g i = difference k g (suc i) ⊝ difference k g i

-- one step of a table of differences
pub difference-step : (k : ℕ) (g : ℕ → K) (i : ℕ) → difference k g i ⊕ difference (suc k) g i ≡ difference k g (suc i)
unfolding difference
difference-step k g i = ⊕-⊝ (difference k g i) (difference k g (suc i))

-- it looks at k + 1 places
difference_ext : (k : ℕ) (f g : ℕ → K) (i : ℕ) → ((m : ℕ) → i ≤ m → m ≤ i + k → f m ≡ g m) → difference k f i ≡ difference k g i
unfolding difference
difference_ext zero f g i h = h i (omega arith) (omega arith)
difference_ext (suc k) f g i h =
    ap₂ (λ (a b : K). a ⊝ b) (difference_ext k f g (suc i) (λ m l u. h m (omega arith) (omega arith)))
    (difference_ext k f g i (λ m l u. h m l (omega arith)))

difference-zero : (k i : ℕ) → difference k (λ m. 𝟎) i ≡ 𝟎
unfolding difference
difference-zero zero i = refl
difference-zero (suc k) i = ap₂ (λ (a b : K). a ⊝ b) (difference-zero k (suc i)) (difference-zero k i) ∙ ⊕-neg 𝟎

-- ---- those of a polynomial end

-- (a - i) f(i) + c
along : K → K → (ℕ → K) → ℕ → K
along c a f i = c ⊕ (a ⊝ of i) ⊗ f i

difference-along : (k : ℕ) (c a : K) (f : ℕ → K) (i : ℕ) → difference (suc k) (along c a f) i ≡ (a ⊝ of i) ⊗ difference (suc k) f i ⊝ of (suc k) ⊗ difference k f (suc i)
unfolding difference along
difference-along zero c a f i =
    ap (λ (t : K). c ⊕ (a ⊝ t) ⊗ f (suc i) ⊝ (c ⊕ (a ⊝ of i) ⊗ f i)) (of_suc i)
    ∙ first c a (of i) (f i) (f (suc i))
    ∙ ap (λ (t : K). (a ⊝ of i) ⊗ (f (suc i) ⊝ f i) ⊝ t ⊗ f (suc i)) (sym of_one)
  where
    first : (c a x u v : K) → c ⊕ (a ⊕ ⊖ (x ⊕ 𝟏)) ⊗ v ⊕ ⊖ (c ⊕ (a ⊕ ⊖ x) ⊗ u) ≡ (a ⊕ ⊖ x) ⊗ (v ⊕ ⊖ u) ⊕ ⊖ (𝟏 ⊗ v)
    first c a x u v = rw (← dv c, ← dv a, ← dv x, ← dv u, ← dv v) (simp ring (dif_path _ _ _ _ (omega arith)))
difference-along (suc k) c a f i =
    ap₂ (λ (s t : K). s ⊝ t) (difference-along k c a f (suc i)) (difference-along k c a f i)
    ∙ ap (λ (t : K). (a ⊝ t) ⊗ difference (suc k) f (suc i) ⊝ of (suc k) ⊗ difference k f (suc (suc i)) ⊝ ((a ⊝ of i) ⊗ difference (suc k) f i ⊝ of (suc k) ⊗ difference k f (suc i))) (of_suc i)
    ∙ next a (of i) (of (suc k)) (difference (suc k) f i) (difference k f (suc i)) (difference k f (suc (suc i)))
    ∙ ap (λ (t : K). (a ⊝ of i) ⊗ (difference (suc k) f (suc i) ⊝ difference (suc k) f i) ⊝ t ⊗ difference (suc k) f (suc i)) (sym (of_suc (suc k)))
  where
    next : (a x n p s t : K)
        → (a ⊕ ⊖ (x ⊕ 𝟏)) ⊗ (t ⊕ ⊖ s) ⊕ ⊖ (n ⊗ t) ⊕ ⊖ ((a ⊕ ⊖ x) ⊗ p ⊕ ⊖ (n ⊗ s)) ≡ (a ⊕ ⊖ x) ⊗ ((t ⊕ ⊖ s) ⊕ ⊖ p) ⊕ ⊖ ((n ⊕ 𝟏) ⊗ (t ⊕ ⊖ s))
    next a x n p s t = rw (← dv a, ← dv x, ← dv n, ← dv p, ← dv s, ← dv t) (simp ring (dif_path _ _ _ _ (omega arith)))

-- the values of a polynomial at a, a - 1, ..
unfoldable pub down : List K → K → ℕ → K
down p a i = eval p (a ⊝ of i)

down-cons : (c : K) (p : List K) (a : K) (m : ℕ) → down (c ∷ p) a m ≡ along c a (down p a) m
unfolding down along eval
down-cons c p a m = refl

-- the differences of an order that the polynomial does not reach are 0
difference-down : (p : List K) (a : K) (i : ℕ) → difference (length p) (down p a) i ≡ 𝟎
unfolding difference down eval
difference-down [] a i = refl
difference-down (c ∷ p) a i =
    difference_ext (suc (length p)) (down (c ∷ p) a) (along c a (down p a)) i (λ m l u. same m)
    ∙ difference-along (length p) c a (down p a) i
    ∙ ap₂ (λ (s t : K). (a ⊝ of i) ⊗ s ⊝ of (suc (length p)) ⊗ t)
    (ap₂ (λ (s t : K). s ⊝ t) (difference-down p a (suc i)) (difference-down p a i)) (difference-down p a (suc i))
    ∙ none (a ⊝ of i) (of (suc (length p)))
  where
    same : (m : ℕ) → down (c ∷ p) a m ≡ along c a (down p a) m
    same m = down-cons c p a m

    none : (x n : K) → x ⊗ (𝟎 ⊕ ⊖ 𝟎) ⊕ ⊖ (n ⊗ 𝟎) ≡ 𝟎
    none x n = rw (← dv x, ← dv n) (simp ring (dif_path _ _ _ _ (omega arith)))

difference_above : (k : ℕ) (g : ℕ → K) (m : ℕ) → ((i : ℕ) → difference k g i ≡ 𝟎) → (i : ℕ) → difference (m + k) g i ≡ 𝟎
unfolding difference
difference_above k g zero h i = ap (λ (n : ℕ). difference n g i) (zero-add k) ∙ h i
difference_above k g (suc m) h i =
    ap (λ (n : ℕ). difference n g i) (suc-add m k)
    ∙ ap₂ (λ (s t : K). s ⊝ t) (difference_above k g m h (suc i)) (difference_above k g m h i) ∙ ⊕-neg 𝟎

pub difference_end : (p : List K) (a : K) (k : ℕ) → length p ≤ k → (i : ℕ) → difference k (down p a) i ≡ 𝟎
difference_end p a k l i =
    let e : k ≡ k - length p + length p = omega arith in
    ap (λ (n : ℕ). difference n (down p a) i) e ∙ difference_above (length p) (down p a) (k - length p) (difference-down p a) i

-- ---- differences from values by the same steps

-- the first n values, then 0
unfoldable pub clip : ℕ → (ℕ → K) → ℕ → K
clip n f k = pick (ltb k n) (f k) 𝟎

pub clip_below : (n : ℕ) (f : ℕ → K) (k : ℕ) → k < n → clip n f k ≡ f k
unfolding clip
clip_below n f k l = ap (λ b. pick b (f k) 𝟎) (lt-ltb k n l)

pub clip_above : (n : ℕ) (f : ℕ → K) (k : ℕ) → n ≤ k → clip n f k ≡ 𝟎
unfolding clip
clip_above n f k l = ap (λ b. pick b (f k) 𝟎) (le-ltb k n l)

-- the differences of g at 0 with changing signs
unfoldable pub dual : (ℕ → K) → ℕ → K
dual g i = sign i ⊗ difference i g 0

-- The table whose entries are the values of g with changing signs is a table of differences, of its dual.
pub difference-dual : (k : ℕ) (g : ℕ → K) (i : ℕ) → difference k (dual g) i ≡ sign (k + i) ⊗ difference i g k
unfolding difference dual sign
difference-dual zero g i = ap (λ (n : ℕ). sign n ⊗ difference i g 0) (sym (zero-add i))
difference-dual (suc k) g i =
    ap₂ (λ (s t : K). s ⊝ t) (difference-dual k g (suc i) ∙ ap (λ (n : ℕ). sign n ⊗ (difference i g (suc k) ⊝ difference i g k)) (add-suc k i)) (difference-dual k g i)
    ∙ turn (sign (k + i)) (difference i g (suc k)) (difference i g k)
    ∙ ap (λ (n : ℕ). sign n ⊗ difference i g (suc k)) (sym (suc-add k i))
  where
    turn : (s a b : K) → ⊖ s ⊗ (a ⊕ ⊖ b) ⊕ ⊖ (s ⊗ b) ≡ ⊖ s ⊗ a
    turn s a b = rw (← dv s, ← dv a, ← dv b) (simp ring (dif_path _ _ _ _ (omega arith)))

-- its entries at the start
pub dual_start : (k : ℕ) (g : ℕ → K) → difference k (dual g) 0 ≡ sign k ⊗ g k
unfolding difference
dual_start k g = difference-dual k g 0 ∙ ap (λ (n : ℕ). sign n ⊗ g k) (add-zero k)

-- .. and its end, where g was clipped
pub dual_end : (n : ℕ) (f : ℕ → K) (k : ℕ) → n ≤ k → (i : ℕ) → difference k (dual (clip n f)) i ≡ 𝟎
dual_end n f k l i =
    difference-dual k (clip n f) i
    ∙ ap (λ (t : K). sign (k + i) ⊗ t) (difference_ext i (clip n f) (λ m. 𝟎) k (λ m h u. clip_above n f m (omega arith)) ∙ difference-zero i k)
    ∙ ⊗-zero (sign (k + i))

sign_square : (k : ℕ) → sign k ⊗ sign k ≡ 𝟏
unfolding sign
sign_square zero = ⊗-one 𝟏
sign_square (suc k) = minus (sign k) ∙ sign_square k
  where
    minus : (s : K) → ⊖ s ⊗ ⊖ s ≡ s ⊗ s
    minus s = rw (← dv s) (simp ring (dif_path _ _ _ _ (omega arith)))

-- its values with changing signs are the differences of g at 0
pub dual_dual : (k n : ℕ) (f g : ℕ → K) → ((m : ℕ) → m < n → f m ≡ g m) → k < n → sign k ⊗ dual (clip n f) k ≡ difference k g 0
unfolding dual
dual_dual k n f g h l =
    sym (⊗-assoc (sign k) (sign k) (difference k (clip n f) 0))
    ∙ ap₂ (λ (s t : K). s ⊗ t) (sign_square k) (difference_ext k (clip n f) g 0 (λ m a u. clip_below n f m (omega arith) ∙ h m (omega arith)))
    ∙ ⊗-comm 𝟏 (difference k g 0) ∙ ⊗-one (difference k g 0)

-- ---- on numbers, as a program computes

unfoldable pub difference_n : List ℕ → ℕ → ℕ → ℕ
difference_n ys zero i = get_or ys i 0
difference_n ys (suc k) i = sub_n (difference_n ys k (suc i)) (difference_n ys k i)

difference_n_below : (ys : List ℕ) → Elements ys → (k i : ℕ) → difference_n ys k i < q
unfolding difference_n
difference_n_below ys b zero i = elements_at ys b i
difference_n_below ys b (suc k) i = mod-lt _ (lit< tt)

pub of_difference_n : (ys : List ℕ) → Elements ys → (k i : ℕ) → of (difference_n ys k i) ≡ difference k (λ j. of (get_or ys j 0)) i
unfolding difference_n difference
of_difference_n ys b zero i = refl
of_difference_n ys b (suc k) i =
    of_sub_n (difference_n ys k (suc i)) (difference_n ys k i) (le_of_lt (difference_n_below ys b k i))
    ∙ ap₂ (λ (s t : K). s ⊝ t) (of_difference_n ys b k (suc i)) (of_difference_n ys b k i)

-- the differences of neighbours
abbrev pub neighbours : List ℕ → ℕ → ℕ
neighbours s i = sub_n (get_or s (i + 1) 0) (get_or s i 0)

-- the values are those of order 0
pub difference_start : (ys : List ℕ) (n : ℕ) → Filled (difference_n ys 0) ys 0 n
unfolding difference_n
difference_start ys n j l u = refl

-- from those of order k to those of the next
pub difference_turn : (ys s s' : List ℕ) (k n m : ℕ) → m + 1 ≡ n → Filled (difference_n ys k) s 0 n → Filled (neighbours s) s' 0 m → Filled (difference_n ys (k + 1)) s' 0 m
unfolding difference_n
difference_turn ys s s' k n m e f g j l u =
    g j l u
    ∙ ap₂ sub_n (f (j + 1) (omega arith) (omega arith) ∙ ap (difference_n ys k) (add-one j)) (f j l (omega arith))
    ∙ ap (λ (i : ℕ). difference_n ys i j) (sym (add-one k))

-- Loops that fill or change a slice place by place, where a function gives the entries.
use Rattle.std.specs.Prelude.{◌≡◌, refl, List, ◌++◌, ℕ, ◌+◌, ◌-◌, ◌≤◌, ◌<◌, length, get_or, set}
use Rattle.std.proofs.Common.{sym, ◌∙◌, ap, subst, not-suc-le-zero, ne_of_gt, ne_of_lt, arith, length-set, get_or-set_same, get_or-set_other}
use Rattle.std.proofs.Math.Decide.{ℕ_discrete}
use Rattle.std.proofs.Math.ListN.{get_or-append}
use Rattle.lists.specs.Tabulate.{tabulate, tabulate_is, get_d_tabulate, length-tabulate}

abbrev pub entry_of : List ℕ → ℕ → ℕ
entry_of s i = get_or s i 0

-- the places from i below k have what f gives
abbrev pub Filled : (ℕ → ℕ) → List ℕ → ℕ → ℕ → Type 0
Filled f s i k = (j : ℕ) → i ≤ j → j < k → get_or s j 0 ≡ f j

-- setting the place after them
pub fill_next : (f : ℕ → ℕ) (s : List ℕ) (i k v : ℕ) → k < length s → v ≡ f k → Filled f s i k → Filled f (set s k v) i (k + 1)
fill_next f s i k v l e h j m u = go (ℕ_discrete j k)
  where
    go : Dec (j ≡ k) → get_or (set s k v) j 0 ≡ f j
    go (yes r) = ap (λ (t : ℕ). get_or (set s k v) t 0) r ∙ get_or-set_same s k v 0 l ∙ e ∙ ap f (sym r)
    go (no r) = get_or-set_other s k j v 0 r ∙ h j m (omega arith)

-- setting the place before them
fill_before : (f : ℕ → ℕ) (s : List ℕ) (i k v : ℕ) → i < length s → v ≡ f i → Filled f s (i + 1) k → Filled f (set s i v) i k
fill_before f s i k v l e h j m u = go (ℕ_discrete j i)
  where
    go : Dec (j ≡ i) → get_or (set s i v) j 0 ≡ f j
    go (yes r) = ap (λ (t : ℕ). get_or (set s i v) t 0) r ∙ get_or-set_same s i v 0 l ∙ e ∙ ap f (sym r)
    go (no r) = get_or-set_other s i j v 0 r ∙ h j (omega arith) u

-- walking on: the place passed is no more among those untouched
pub fill-rest : (f : ℕ → ℕ) (s : List ℕ) (i k v : ℕ) → Filled f s i k → Filled f (set s i v) (i + 1) k
fill-rest f s i k v h j m u = get_or-set_other s i j v 0 (ne_of_gt (omega arith)) ∙ h j (omega arith) u

-- setting a place behind them
pub fill_behind : (f : ℕ → ℕ) (s : List ℕ) (i k j v : ℕ) → k ≤ j → Filled f s i k → Filled f (set s j v) i k
fill_behind f s i k j v l h t m u = get_or-set_other s j t v 0 (ne_of_lt (omega arith)) ∙ h t m u

-- the same for a walk from the end to the front
pub fill-back : (f : ℕ → ℕ) (s : List ℕ) (i k v : ℕ) → 0 < i → i ≤ length s → v ≡ f (i - 1) → Filled f s i k → Filled f (set s (i - 1) v) (i - 1) k
fill-back f s i k v l u e h =
    let n : i ≡ i - 1 + 1 = omega arith in
    fill_before f s (i - 1) k v (omega arith) e (subst (λ (m : ℕ). Filled f s m k) n h)

pub filled_none : (f : ℕ → ℕ) (s : List ℕ) (i k : ℕ) → k ≤ i → Filled f s i k
filled_none f s i k l j m u = absurd (not-suc-le-zero {n = 0} (omega arith))

pub filled_is : (f : ℕ → ℕ) (s : List ℕ) (n : ℕ) → length s ≡ n → Filled f s 0 n → s ≡ tabulate n f
filled_is f s n e h = tabulate_is n f s e (λ (i : ℕ) (l : i < n). h i (omega arith) l)

pub filled_own : (s : List ℕ) (i k : ℕ) → Filled (entry_of s) s i k
filled_own s i k j m u = refl

-- a list that was copied
pub filled_copy : (s r : List ℕ) (n : ℕ) → length s ≡ n → length r ≡ n → Filled (entry_of s) r 0 n → r ≡ s
filled_copy s r n l m h = filled_is (entry_of s) r n m h ∙ sym (filled_is (entry_of s) s n l (filled_own s 0 n))

-- a list that f gives, in front of others
pub filled_front : (f : ℕ → ℕ) (n : ℕ) (s rest : List ℕ) → s ≡ tabulate n f → Filled f (s ++ rest) 0 n
filled_front f n s rest e j m u =
    get_or-append s rest 0 j (subst (λ (k : ℕ). j < k) (sym (ap length e ∙ length-tabulate n f)) u) ∙ ap (λ (t : List ℕ). get_or t j 0) e ∙ get_d_tabulate n f j u

-- two entries more, and those behind them
pub two_filled : (f : ℕ → ℕ) (s : List ℕ) (i k a b : ℕ) → k + 2 ≤ length s → a ≡ f k → b ≡ f (k + 1) → Filled f s i k → Filled f (set (set s k a) (k + 1) b) i (k + 2)
two_filled f s i k a b l ea eb h =
    let m : k + 1 + 1 ≡ k + 2 = omega arith in
    subst (λ (t : ℕ). Filled f (set (set s k a) (k + 1) b) i t) m (fill_next f (set s k a) i (k + 1) b (omega (arith, length-set s k a)) eb (fill_next f s i k a (omega arith) ea h))

pub two_rest : (f : ℕ → ℕ) (s : List ℕ) (k n a b : ℕ) → Filled f s k n → Filled f (set (set s k a) (k + 1) b) (k + 2) n
two_rest f s k n a b h =
    let m : k + 1 + 1 ≡ k + 2 = omega arith in
    subst (λ (t : ℕ). Filled f (set (set s k a) (k + 1) b) t n) m (fill-rest f (set s k a) (k + 1) n b (fill-rest f s k n a h))

-- four entries more
pub four_filled : (f : ℕ → ℕ) (s : List ℕ) (j a b c d : ℕ) → j + 4 ≤ length s → Filled f s 0 j → a ≡ f j → b ≡ f (j + 1) → c ≡ f (j + 2) → d ≡ f (j + 3)
    → Filled f (set (set (set (set s j a) (j + 1) b) (j + 2) c) (j + 3) d) 0 (j + 4)
four_filled f s j a b c d l h ea eb ec ed =
    let s₁ : List ℕ = set s j a in
    let s₂ : List ℕ = set s₁ (j + 1) b in
    let s₃ : List ℕ = set s₂ (j + 2) c in
    let l₁ : length s₁ ≡ length s = length-set s j a in
    let l₂ : length s₂ ≡ length s = length-set s₁ (j + 1) b ∙ l₁ in
    let l₃ : length s₃ ≡ length s = length-set s₂ (j + 2) c ∙ l₂ in
    let m₂ : j + 1 + 1 ≡ j + 2 = omega arith in
    let m₃ : j + 2 + 1 ≡ j + 3 = omega arith in
    let m₄ : j + 3 + 1 ≡ j + 4 = omega arith in
    let h₁ : Filled f s₁ 0 (j + 1) = fill_next f s 0 j a (omega arith) ea h in
    let h₂ : Filled f s₂ 0 (j + 2) = subst (λ (k : ℕ). Filled f s₂ 0 k) m₂ (fill_next f s₁ 0 (j + 1) b (omega arith) eb h₁) in
    let h₃ : Filled f s₃ 0 (j + 3) = subst (λ (k : ℕ). Filled f s₃ 0 k) m₃ (fill_next f s₂ 0 (j + 2) c (omega arith) ec h₂) in
    subst (λ (k : ℕ). Filled f (set s₃ (j + 3) d) 0 k) m₄ (fill_next f s₃ 0 (j + 3) d (omega arith) ed h₃)

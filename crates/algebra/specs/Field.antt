-- The field of q = 4294967291 elements: numbers below q. Every operation is shut, so that a proof goes by the laws.
use Rattle.std.specs.Prelude.{◌≡◌, refl, ◌≢◌, ℕ, suc, ◌+◌, ◌*◌, ◌%◌, ◌<◌}
use Rattle.std.proofs.Common.{sym, ◌∙◌, ap, mod-lt, mod-eq_of_lt, pos_of_ne-zero, zero-mul, mul-zero, zero-add, add-zero, add-one, arith, lit<}
use Rattle.std.proofs.Math.Nat.{add-mod}
use mathlib.Core.HLevel.{is_prop→PathP}
use Rattle.std.proofs.Math.Bridge.{le_prop}
use Rattle.std.proofs.Math.Decide.{ℕ_discrete}
use Rattle.lists.specs.Number.{mul-mod, mul-mod-mod}
use Rattle.algebra.specs.Prime.{q, inverse}

pub record K : Type 0 where
  pub val : ℕ
  pub below : val < q

-- the element of a number
unfoldable pub of : ℕ → K
of n = record { val = n % q; below = mod-lt n (lit< tt) }

infixl 6 ◌⊕◌
infixl 7 ◌⊗◌
unfoldable pub ◌⊕◌ : K → K → K
a ⊕ b = of (a.val + b.val)

unfoldable pub ◌⊗◌ : K → K → K
a ⊗ b = of (a.val * b.val)

unfoldable pub ⊖ : K → K
⊖ a = of (4294967290 * a.val)

unfoldable pub 𝟎 : K
𝟎 = of 0

unfoldable pub 𝟏 : K
𝟏 = of 1

-- ---- the passage from numbers
K-ext : (a b : K) → a.val ≡ b.val → a ≡ b
K-ext a b e = λ i. record { val = e i; below = is_prop→PathP (λ (j : 𝕀). e j < q) (λ j. le_prop) a.below b.below i }

pub val_of : (n : ℕ) → (of n).val ≡ n % q
unfolding of
val_of n = refl

pub of_val : (a : K) → of a.val ≡ a
unfolding of
of_val a = K-ext _ a (mod-eq_of_lt a.below)

-- the proof of a path between elements: one between numbers modulo q
pub of_path : (m n : ℕ) → m % q ≡ n % q → of m ≡ of n
of_path m n e = K-ext _ _ (val_of m ∙ e ∙ sym (val_of n))

-- two numbers that differ by multiples of q
pub same_mod : (m n k l : ℕ) → m + q * k ≡ n + q * l → m % q ≡ n % q
same_mod m n k l e = omega arith

pub of_inj : (m n : ℕ) → of m ≡ of n → m % q ≡ n % q
of_inj m n e = sym (val_of m) ∙ ap (λ (a : K). a.val) e ∙ val_of n

pub of_add : (m n : ℕ) → of m ⊕ of n ≡ of (m + n)
unfolding ◌⊕◌ of
of_add m n = of_path _ _ (sym (add-mod m n q))

pub of_mul : (m n : ℕ) → of m ⊗ of n ≡ of (m * n)
unfolding ◌⊗◌ of
of_mul m n = of_path _ _ (mul-mod m n q)

pub of_neg : (n : ℕ) → ⊖ (of n) ≡ of (4294967290 * n)
unfolding ⊖ of
of_neg n = of_path _ _ (mul-mod-mod 4294967290 n q)

pub of_zero : of 0 ≡ 𝟎
unfolding 𝟎
of_zero = refl

pub of_one : of 1 ≡ 𝟏
unfolding 𝟏
of_one = refl

pub of_suc : (n : ℕ) → of (suc n) ≡ of n ⊕ 𝟏
of_suc n = ap of (sym (add-one n)) ∙ sym (of_add n 1) ∙ ap (λ (t : K). of n ⊕ t) of_one

-- ---- a ring tactic: an element is a difference of two numbers, and an identity becomes one of numbers, which omega multiplies out
pub dif : ℕ → ℕ → K
dif a b = of (a + 4294967290 * b)

pub dv : (a : K) → dif a.val 0 ≡ a
unfolding dif
dv a = rw add-zero (of_val a)

pub dif_path : (a b c d : ℕ) → a + d ≡ c + b → dif a b ≡ dif c d
unfolding dif
dif_path a b c d e = of_path _ _ (omega arith)

pub dif-add : (a b c d : ℕ) → dif a b ⊕ dif c d ≡ dif (a + c) (b + d)
unfolding dif
dif-add a b c d = of_add _ _ ∙ of_path _ _ (omega arith)

pub dif-mul : (a b c d : ℕ) → dif a b ⊗ dif c d ≡ dif (a * c + b * d) (a * d + b * c)
unfolding dif
dif-mul a b c d = of_mul _ _ ∙ of_path _ _ (drop-multiple _ _ (4294967289 * (b * d)) (omega arith))
  where
    drop-multiple : (m n k : ℕ) → m ≡ n + q * k → m % q ≡ n % q
    drop-multiple m n k e = omega arith

pub dif_neg : (a b : ℕ) → ⊖ (dif a b) ≡ dif b a
unfolding dif
dif_neg a b = of_neg _ ∙ of_path _ _ (omega arith)

pub dif-zero : 𝟎 ≡ dif 0 0
unfolding dif 𝟎
dif-zero = refl

pub dif_one : 𝟏 ≡ dif 1 0
unfolding dif 𝟏
dif_one = refl

pub ruleset ring = (dif-add, dif-mul, dif_neg, dif-zero, dif_one, zero-mul, mul-zero, zero-add, add-zero)

-- ---- the laws
pub ⊗-comm : (a b : K) → a ⊗ b ≡ b ⊗ a
⊗-comm a b = rw (← dv a, ← dv b) (simp ring (dif_path _ _ _ _ (omega arith)))

pub ⊗-assoc : (a b c : K) → a ⊗ b ⊗ c ≡ a ⊗ (b ⊗ c)
⊗-assoc a b c = rw (← dv a, ← dv b, ← dv c) (simp ring (dif_path _ _ _ _ (omega arith)))

pub ⊕-zero : (a : K) → a ⊕ 𝟎 ≡ a
⊕-zero a = rw (← dv a) (simp ring (dif_path _ _ _ _ (omega arith)))

pub ⊗-one : (a : K) → a ⊗ 𝟏 ≡ a
⊗-one a = rw (← dv a) (simp ring (dif_path _ _ _ _ (omega arith)))

pub ⊗-zero : (a : K) → a ⊗ 𝟎 ≡ 𝟎
⊗-zero a = rw (← dv a) (simp ring (dif_path _ _ _ _ (omega arith)))

pub ⊕-neg : (a : K) → a ⊕ ⊖ a ≡ 𝟎
⊕-neg a = rw (← dv a) (simp ring (dif_path _ _ _ _ (omega arith)))

-- a difference
infixl 6 ◌⊝◌
abbrev pub ◌⊝◌ : K → K → K
a ⊝ b = a ⊕ ⊖ b

pub ⊕-⊝ : (a b : K) → a ⊕ (b ⊝ a) ≡ b
⊕-⊝ a b = rw (← dv a, ← dv b) (simp ring (dif_path _ _ _ _ (omega arith)))

pub ⊝-eq : (a b : K) → a ⊝ b ≡ 𝟎 → a ≡ b
⊝-eq a b e = sym (⊕-⊝ b a) ∙ ap (λ (t : K). b ⊕ t) e ∙ ⊕-zero b

-- ---- inverses: inv 𝟎 is 𝟎
unfoldable pub inv_at : (a : K) → Dec (a.val ≡ 0) → K
inv_at a (yes e) = 𝟎
inv_at a (no n) = of (inverse a.val (pos_of_ne-zero n) a.below).0

unfoldable pub inv : K → K
inv a = inv_at a (ℕ_discrete a.val 0)

val_zero : (a : K) → a.val ≡ 0 → a ≡ 𝟎
unfolding 𝟎 of
val_zero a e = K-ext a 𝟎 e

mul_to_one : (a : K) (b : ℕ) → (a.val * b) % q ≡ 1 → a ⊗ of b ≡ 𝟏
unfolding 𝟏
mul_to_one a b e = ap (λ (t : K). t ⊗ of b) (sym (of_val a)) ∙ of_mul a.val b ∙ of_path _ 1 e

inv_at_right : (a : K) (d : Dec (a.val ≡ 0)) → a ≢ 𝟎 → a ⊗ inv_at a d ≡ 𝟏
unfolding inv_at
inv_at_right a (yes e) n = absurd (n (val_zero a e))
inv_at_right a (no z) n = mul_to_one a _ (inverse a.val (pos_of_ne-zero z) a.below).1

pub inv_right : (a : K) → a ≢ 𝟎 → a ⊗ inv a ≡ 𝟏
unfolding inv
inv_right a n = inv_at_right a _ n

pub one_ne_zero : 𝟏 ≢ 𝟎
unfolding 𝟎 𝟏
one_ne_zero e = let z : 1 % q ≡ 0 % q = of_inj 1 0 e in omega arith

-- ---- no zero divisors
pub factor-zero : (a b : K) → a ≢ 𝟎 → a ⊗ b ≡ 𝟎 → b ≡ 𝟎
factor-zero a b n e =
    let s : b ≡ (a ⊗ inv a) ⊗ b = rw (inv_right a n) (sym (⊗-comm 𝟏 b ∙ ⊗-one b)) in
    s ∙ swap a (inv a) b ∙ ap (λ (t : K). inv a ⊗ t) e ∙ ⊗-zero (inv a)
  where
    swap : (a c b : K) → (a ⊗ c) ⊗ b ≡ c ⊗ (a ⊗ b)
    swap a c b = rw (← dv a, ← dv b, ← dv c) (simp ring (dif_path _ _ _ _ (omega arith)))

pub product_ne_zero : (a b : K) → a ≢ 𝟎 → b ≢ 𝟎 → a ⊗ b ≢ 𝟎
product_ne_zero a b n m e = m (factor-zero a b n e)

pub ⊝-ne-zero : (a b : K) → a ≢ b → a ⊝ b ≢ 𝟎
⊝-ne-zero a b n e = n (⊝-eq a b e)

-- the inverse is the only one
pub inv_unique : (a b : K) → a ⊗ b ≡ 𝟏 → b ≡ inv a
inv_unique a b e = sym (⊗-one b) ∙ ap (λ (t : K). b ⊗ t) (sym (inv_right a n)) ∙ regroup b a (inv a) ∙ rw e (⊗-comm 𝟏 (inv a) ∙ ⊗-one (inv a))
  where
    n : a ≢ 𝟎
    n z = one_ne_zero (sym e ∙ ap (λ (t : K). t ⊗ b) z ∙ ⊗-comm 𝟎 b ∙ ⊗-zero b)

    regroup : (b a c : K) → b ⊗ (a ⊗ c) ≡ (a ⊗ b) ⊗ c
    regroup a b c = rw (← dv a, ← dv b, ← dv c) (simp ring (dif_path _ _ _ _ (omega arith)))

pub zero_val : 𝟎.val ≡ 0
unfolding 𝟎 of
zero_val = refl

-- what a nonzero factor e takes to the same element is the same
pub cancel : (e a b : K) → e ≢ 𝟎 → e ⊗ a ≡ e ⊗ b → a ≡ b
cancel e a b n h = sym (back a) ∙ ap (λ (t : K). inv e ⊗ t) h ∙ back b
  where
    back : (a : K) → inv e ⊗ (e ⊗ a) ≡ a
    back a = sym (⊗-assoc (inv e) e a) ∙ ap (λ (t : K). t ⊗ a) (⊗-comm (inv e) e ∙ inv_right e n) ∙ ⊗-comm 𝟏 a ∙ ⊗-one a

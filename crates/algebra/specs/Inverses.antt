-- Many inverses by one: the inverse of the product of all, and the products before each place.
use Rattle.std.specs.Prelude.{◌≡◌, refl, ◌≢◌, Bool, true, false, List, map, ltb, length}
use Rattle.std.proofs.Math.Path.{sym, subst}
use Rattle.std.proofs.Common.{◌∙◌, ap, ap₂, ⊎_elim, mod-lt, mul_assoc, mul_comm, zero-mul, mul-zero, not-suc-le-zero, ne_of_gt, pos_of_ne-zero, suc-ne-zero, add-one, lit<, lt-ltb, ltb-true}
use Prim.Native.Nat.{ℕ, zero, suc, ◌+◌, ◌*◌, ◌-◌, ◌%◌, ◌<◌}
use Rattle.std.proofs.Math.Nat.{suc_inj, le-suc_iff}
use native.Mathlib.Omega.{arith}
use Rattle.std.proofs.Math.ListN.{get_or}
use Rattle.std.proofs.lemmas.List.{length-map}
use Rattle.lists.specs.All.{all_at}
use Rattle.lists.specs.Choice.{tested}
use Rattle.lists.specs.Tests.{all, all_true, all_is_each, true_each}
use Rattle.lists.specs.Number.{mul-mod-mod, mod-mul-mod}
use Rattle.lists.specs.Maps.{get_or-map_in}
use Rattle.lists.specs.Fill.{Filled}
use Rattle.lists.specs.Tabulate.{tabulate_is}
use Rattle.algebra.specs.Prime.{q}
use Rattle.algebra.specs.Field.{of, of_mul, of_zero, 𝟎, product_ne_zero}
use Rattle.algebra.specs.Numbers.{of_injective, Elements, elements_at}
use Rattle.algebra.specs.Divided.{of_mod}
use Rattle.algebra.specs.Inverse.{inv_n, inv_n-unique, inv_n_right}

-- the product of the first i numbers
unfoldable pub before_n : List ℕ → ℕ → ℕ
before_n s zero = 1
before_n s (suc i) = before_n s i * get_or s i 0 % q

pub before_none : (s : List ℕ) → 1 ≡ before_n s 0
unfolding before_n
before_none s = refl

pub before_turn : (s : List ℕ) (i p r : ℕ) → p ≡ before_n s i → r ≡ p * get_or s i 0 % q → r ≡ before_n s (i + 1)
unfolding before_n
before_turn s i p r e f = f ∙ ap (λ (t : ℕ). t * get_or s i 0 % q) e ∙ ap (before_n s) (sym (add-one i))

before_n_below : (s : List ℕ) (i : ℕ) → before_n s i < q
unfolding before_n
before_n_below s zero = lit< tt
before_n_below s (suc i) = mod-lt _ (lit< tt)

-- it is 0 just where one of them is
before_ne_zero : (s : List ℕ) (n : ℕ) → Elements s → ((i : ℕ) → i < n → 0 < get_or s i 0) → of (before_n s n) ≢ 𝟎
unfolding before_n
before_ne_zero s zero b h e = suc-ne-zero 0 (of_injective 1 0 (lit< tt) (lit< tt) (e ∙ sym of_zero))
before_ne_zero s (suc n) b h e =
    product_ne_zero (of (before_n s n)) (of (get_or s n 0)) (before_ne_zero s n b (λ i l. h i (omega arith)))
    (λ (z : of (get_or s n 0) ≡ 𝟎). ne_of_gt (h n (omega arith)) (of_injective (get_or s n 0) 0 (elements_at s b n) (lit< tt) (z ∙ sym of_zero)))
    (of_mul (before_n s n) (get_or s n 0) ∙ sym (of_mod (before_n s n * get_or s n 0)) ∙ e)

before_zero : (s : List ℕ) (n i : ℕ) → i < n → get_or s i 0 ≡ 0 → before_n s n ≡ 0
unfolding before_n
before_zero s zero i l e = absurd (not-suc-le-zero l)
before_zero s (suc n) i l e =
    ⊎_elim (λ (m : i < n). ap (λ (t : ℕ). t * get_or s n 0 % q) (before_zero s n i m e) ∙ ap (λ (t : ℕ). t % q) (zero-mul (get_or s n 0)))
    (λ (m : suc i ≡ suc n). ap (λ (t : ℕ). before_n s n * t % q) (ap (λ (k : ℕ). get_or s k 0) (suc_inj (sym m)) ∙ e) ∙ ap (λ (t : ℕ). t % q) (mul-zero (before_n s n)))
    (le-suc_iff.0 l)

-- none of the numbers is 0
abbrev pub invertible : List ℕ → Bool
invertible s = all (λ x. ltb 0 x) s

pub none_zero : (s : List ℕ) (p : ℕ) → p ≡ before_n s (length s) → p ≢ 0 → invertible s ≡ true
none_zero s p e n =
    all_is_each (λ x. ltb 0 x) 0 s
    ∙ true_each (length s) (λ i. ltb 0 (get_or s i 0)) (λ i l. lt-ltb 0 (get_or s i 0) (pos_of_ne-zero (λ (z : get_or s i 0 ≡ 0). n (e ∙ before_zero s (length s) i l z))))

pub invertible_at : (s : List ℕ) → invertible s ≡ true → (i : ℕ) → i < length s → 0 < get_or s i 0
invertible_at s h i l = ltb-true 0 (get_or s i 0) (all_at (λ (x : ℕ). ltb 0 x ≡ true) 0 s (all_true (λ x. ltb 0 x) s h) i l)

pub at_invertible : (s : List ℕ) → ((i : ℕ) → i < length s → 0 < get_or s i 0) → invertible s ≡ true
at_invertible s h = all_is_each (λ x. ltb 0 x) 0 s ∙ true_each (length s) (λ i. ltb 0 (get_or s i 0)) (λ i l. lt-ltb 0 (get_or s i 0) (h i l))

pub some_zero : (s : List ℕ) (p : ℕ) → Elements s → p ≡ before_n s (length s) → p ≡ 0 → invertible s ≡ false
some_zero s p b e z =
    ⊎_elim
    (λ (h : invertible s ≡ true). absurd (before_ne_zero s (length s) b (invertible_at s h) (ap of (sym e ∙ z) ∙ of_zero)))
    (λ (h : invertible s ≡ false). h)
    (tested (invertible s))

-- a turn from the end: a times the product of the first i is 1
module _ (s : List ℕ) (a i : ℕ) (l : 0 < i) (h : (a * before_n s i) % q ≡ 1) where
  shift : (a * (before_n s (i - 1) * get_or s (i - 1) 0)) % q ≡ 1
  unfolding before_n
  shift =
      let e : i ≡ suc (i - 1) = omega arith in
      sym (mul-mod-mod a (before_n s (i - 1) * get_or s (i - 1) 0) q) ∙ subst (λ (k : ℕ). (a * before_n s k) % q ≡ 1) e h

  pub inverse-entry : (v : ℕ) → v ≡ a * before_n s (i - 1) % q → v ≡ inv_n (get_or s (i - 1) 0)
  inverse-entry v e =
      inv_n-unique (get_or s (i - 1) 0) v (subst (λ (t : ℕ). t < q) (sym e) (mod-lt _ (lit< tt)))
      (ap (λ (t : ℕ). get_or s (i - 1) 0 * t % q) e
      ∙ mul-mod-mod (get_or s (i - 1) 0) (a * before_n s (i - 1)) q
      ∙ ap (λ (t : ℕ). t % q) (mul_comm (get_or s (i - 1) 0) (a * before_n s (i - 1)) ∙ mul_assoc a (before_n s (i - 1)) (get_or s (i - 1) 0))
      ∙ shift)

  pub inverse_left : (r : ℕ) → r ≡ a * get_or s (i - 1) 0 % q → (r * before_n s (i - 1)) % q ≡ 1
  inverse_left r e =
      ap (λ (t : ℕ). t * before_n s (i - 1) % q) e
      ∙ mod-mul-mod (a * get_or s (i - 1) 0) (before_n s (i - 1)) q
      ∙ ap (λ (t : ℕ). t % q) (mul_assoc a (get_or s (i - 1) 0) (before_n s (i - 1)) ∙ ap (λ (t : ℕ). a * t) (mul_comm (get_or s (i - 1) 0) (before_n s (i - 1))))
      ∙ shift

-- all turns done
pub inverses_done : (s r : List ℕ) → length r ≡ length s → Filled (λ i. inv_n (get_or s i 0)) r 0 (length s) → r ≡ map inv_n s
inverses_done s r l h =
    tabulate_is (length s) (λ i. inv_n (get_or s i 0)) r l (λ i m. h i (omega arith) m)
    ∙ sym (tabulate_is (length s) (λ i. inv_n (get_or s i 0)) (map inv_n s) (length-map s inv_n) (λ i m. get_or-map_in inv_n s i 0 0 m))

-- the walk's start: the product of all, inverted
pub inverse_asks : (s : List ℕ) (n p : ℕ) → p ≡ before_n s n → p ≢ 0 → (0 < p) × (p < q)
inverse_asks s n p e z = (pos_of_ne-zero z, subst (λ (t : ℕ). t < q) (sym e) (before_n_below s n))

pub inverse_all : (s : List ℕ) (n p a : ℕ) → p ≡ before_n s n → p ≢ 0 → a ≡ inv_n p → (a * before_n s n) % q ≡ 1
inverse_all s n p a e z f =
    let h : (0 < p) × (p < q) = inverse_asks s n p e z in
    ap₂ (λ (x y : ℕ). x * y % q) f (sym e) ∙ inv_n_right p h.0 h.1

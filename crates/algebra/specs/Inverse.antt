-- The inverse of a number modulo q, and a step of the loop that computes it.
use Rattle.std.specs.Prelude.{◌≡◌, ◌≢◌, ℕ, ◌+◌, ◌*◌, ◌-◌, ◌/◌, ◌%◌, ◌<◌}
use Rattle.std.proofs.Common.{sym, ◌∙◌, ap, ap₂, mod-lt, mod-eq_of_lt, mul_assoc, div-add-mod', div-le_self, add-sub_of_le, arith}
use Rattle.algebra.specs.Prime.{q}
use Rattle.lists.specs.Number.{mul-mod-mod, mod-mul-mod}
use Rattle.algebra.specs.Field.{K, of, of_val, of_inj, of_mul, of_path, of_one, of_zero, ◌⊗◌, ⊗-comm, 𝟎, 𝟏, inv, inv_right, inv_unique}
use Rattle.algebra.specs.Numbers.{val_of_below}

pub inv_n : ℕ → ℕ
inv_n a = (inv (of a)).val

pub inv_n-unique : (a r : ℕ) → r < q → (a * r) % q ≡ 1 → r ≡ inv_n a
unfolding inv_n
inv_n-unique a r l e = sym (val_of_below r l) ∙ ap (λ (t : K). t.val) (inv_unique (of a) (of r) (of_mul a r ∙ of_path (a * r) 1 e ∙ of_one))

expand : (r c d m : ℕ) → c + d ≡ q → c * r + m ≡ q → r * d + q ≡ q * r + m
expand r c d m g e = omega (arith, ap (λ (t : ℕ). t * r) g)

drop-q : (x r m : ℕ) → x + q ≡ q * r + m → m < q → x % q ≡ m
drop-q x r m e l = omega arith

-- Where a times k leaves r, a times k (q - q / r) leaves q % r.
pub inverse-step : (a k r : ℕ) → 0 < r → r < q → (a * k) % q ≡ r → (a * (k * (q - q / r) % q)) % q ≡ q % r
inverse-step a k r l u e =
    mul-mod-mod a (k * (q - q / r)) q
    ∙ ap (λ (t : ℕ). t % q) (sym (mul_assoc a k (q - q / r)))
    ∙ sym (mod-mul-mod (a * k) (q - q / r) q)
    ∙ ap (λ (t : ℕ). t * (q - q / r) % q) e
    ∙ drop-q _ r _ (expand r (q / r) (q - q / r) (q % r) (add-sub_of_le (div-le_self q r)) (div-add-mod' q r)) (omega (arith, mod-lt q l))

pub inv_n_right : (a : ℕ) → 0 < a → a < q → (inv_n a * a) % q ≡ 1
unfolding inv_n
inv_n_right a l u =
    ap (λ (t : ℕ). (inv (of a)).val * t % q) (sym (val_of_below a u))
    ∙ back (inv (of a)) (of a) (⊗-comm (inv (of a)) (of a) ∙ inv_right (of a) n)
  where
    n : of a ≢ 𝟎
    n e = let f : a % q ≡ 0 % q = of_inj a 0 (e ∙ sym of_zero) in omega (arith, mod-eq_of_lt u)

    back : (x y : K) → x ⊗ y ≡ 𝟏 → (x.val * y.val) % q ≡ 1
    back x y e = of_inj (x.val * y.val) 1 (sym (of_mul x.val y.val) ∙ ap₂ ◌⊗◌ (of_val x) (of_val y) ∙ e ∙ sym of_one)

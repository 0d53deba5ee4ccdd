-- Powers, and the value of a polynomial from the values of its columns.
use Rattle.std.specs.Prelude.{◌≡◌, refl, List, [], ◌∷◌, ◌++◌, map, ℕ, zero, suc, ◌+◌, ◌-◌, ◌*◌, ◌%◌, ◌≤◌, ◌<◌, length}
use Rattle.std.proofs.Common.{sym, ◌∙◌, ap, ap₂, mod-lt, mod-eq_of_lt, mul_assoc, zero-add, suc-add, one-mul, add-one, arith, lit<}
use Rattle.std.proofs.Math.Nat.{mod-mod}
use Rattle.std.proofs.lemmas.List.{length-map}
use Rattle.lists.specs.All.{All, Sized}
use Rattle.algebra.specs.Prime.{q}
use Rattle.lists.specs.Number.{mul-mod-mod, mod-mul-mod}
use Rattle.algebra.specs.Field.{K, of, of_path, of_mul, of_one, ◌⊗◌}
use Rattle.algebra.specs.Rows.{power, concat, eval-concat}
use Rattle.algebra.specs.Poly.{eval}
use Rattle.algebra.specs.Numbers.{ofs-append, eval_n, eval_n_below, of_eval_n, of_injective, ofs, ofs-values_at_n, values_at_n}

-- ---- a polynomial cut into columns of m coefficients
unfoldable pub pow_n : ℕ → ℕ → ℕ
pow_n z zero = 1
pow_n z (suc m) = z * pow_n z m % q

pub pow_n_turn : (z i p r : ℕ) → p ≡ pow_n z i → r ≡ z * p % q → r ≡ pow_n z (i + 1)
unfolding pow_n
pow_n_turn z i p r e f = f ∙ ap (λ (t : ℕ). z * t % q) e ∙ ap (pow_n z) (sym (add-one i))

pub pow_n_start : (z : ℕ) → 1 ≡ pow_n z 0
unfolding pow_n
pow_n_start z = refl

pow_n_below : (z m : ℕ) → pow_n z m < q
unfolding pow_n
pow_n_below z zero = lit< tt
pow_n_below z (suc m) = mod-lt _ (lit< tt)

pow_n-add : (z m n : ℕ) → pow_n z (m + n) ≡ pow_n z m * pow_n z n % q
unfolding pow_n
pow_n-add z zero n = ap (pow_n z) (zero-add n) ∙ sym (mod-eq_of_lt (pow_n_below z n)) ∙ ap (λ (t : ℕ). t % q) (sym (one-mul (pow_n z n)))
pow_n-add z (suc m) n =
    ap (pow_n z) (suc-add m n)
    ∙ ap (λ (t : ℕ). z * t % q) (pow_n-add z m n)
    ∙ mul-mod-mod z (pow_n z m * pow_n z n) q
    ∙ ap (λ (t : ℕ). t % q) (sym (mul_assoc z (pow_n z m) (pow_n z n)))
    ∙ sym (mod-mul-mod (z * pow_n z m) (pow_n z n) q)

-- a power from the one k places before
pub pow_n_ahead : (z k i p o r : ℕ) → k ≤ i → p ≡ pow_n z k → o ≡ pow_n z (i - k) → r ≡ p * o % q → r ≡ pow_n z i
pow_n_ahead z k i p o r l e f g =
    let n : k + (i - k) ≡ i = omega arith in
    g ∙ ap₂ (λ (s t : ℕ). s * t % q) e f ∙ sym (pow_n-add z k (i - k)) ∙ ap (pow_n z) n

pub of_pow_n : (z m : ℕ) → of (pow_n z m) ≡ power (of z) m
unfolding pow_n power
of_pow_n z zero = of_one
of_pow_n z (suc m) = of_path _ (z * pow_n z m) (mod-mod _ q) ∙ sym (of_mul z (pow_n z m)) ∙ ap (λ (t : K). of z ⊗ t) (of_pow_n z m)

unfoldable pub concat_n : List (List ℕ) → List ℕ
concat_n [] = []
concat_n (c ∷ cs) = c ++ concat_n cs

ofs-concat : (cs : List (List ℕ)) → ofs (concat_n cs) ≡ concat (map ofs cs)
unfolding concat_n concat
ofs-concat [] = refl
ofs-concat (c ∷ cs) = ofs-append c (concat_n cs) ∙ ap (λ (t : List K). ofs c ++ t) (ofs-concat cs)

sized_of : (m : ℕ) (cs : List (List ℕ)) → All (λ (c : List ℕ). length c ≡ m) cs → Sized m (map ofs cs)
sized_of m [] h = tt
sized_of m (c ∷ cs) h = (length-map c of ∙ h.0, sized_of m cs h.1)

-- the value of the whole polynomial from the values of its columns
pub columns_value : (m : ℕ) (cs : List (List ℕ)) (z : ℕ) → All (λ (c : List ℕ). length c ≡ m) cs → eval_n (values_at_n cs z) (pow_n z m) ≡ eval_n (concat_n cs) z
columns_value m cs z h =
    of_injective _ _ (eval_n_below (values_at_n cs z) (pow_n z m)) (eval_n_below (concat_n cs) z)
    (of_eval_n (values_at_n cs z) (pow_n z m) ∙ ap₂ eval (ofs-values_at_n cs z) (of_pow_n z m)
    ∙ sym (eval-concat m (map ofs cs) (of z) (sized_of m cs h)) ∙ ap (λ (t : List K). eval t (of z)) (sym (ofs-concat cs)) ∙ sym (of_eval_n (concat_n cs) z))

-- Numbers and their digits.
use Rattle.std.specs.Prelude.{◌≡◌, List, [], ◌∷◌, ◌++◌, ℕ, suc, ◌+◌, ◌*◌, ◌/◌, ◌%◌, ◌^◌, ◌<◌, ◌≤◌, length, get_or, ◌⊎◌}
use Rattle.std.proofs.Common.{sym, ap, ◌∙◌, subst, zero-add, add_comm, add_assoc, mul-add, mul_assoc, mul_comm, one-mul, pow-suc, zero-lt-suc, lt_of_not-le, inl, inr, arith}
use Rattle.std.proofs.Math.Nat.{pow-zero, add-mul-mod_self_left, div-add-mod}
use Rattle.std.proofs.Math.Arith.{digits_lt}
use Rattle.std.proofs.Math.Decide.{dec_le}

-- the number with the given digits to the base b, lowest first
unfoldable pub number : ℕ → List ℕ → ℕ
number b [] = 0
number b (d ∷ ds) = d + b * number b ds

pub number_append : (b : ℕ) (xs ys : List ℕ) → number b (xs ++ ys) ≡ number b xs + b ^ length xs * number b ys
unfolding number
number_append b [] ys = sym (zero-add (b ^ 0 * number b ys) ∙ ap (λ (k : ℕ). k * number b ys) (pow-zero b) ∙ one-mul (number b ys))
number_append b (x ∷ xs) ys =
    ap (λ (k : ℕ). x + b * k) (number_append b xs ys)
    ∙ ap (λ (k : ℕ). x + k) (mul-add b (number b xs) (b ^ length xs * number b ys))
    ∙ sym (add_assoc x (b * number b xs) (b * (b ^ length xs * number b ys)))
    ∙ ap (λ (k : ℕ). x + b * number b xs + k)
    (sym (mul_assoc b (b ^ length xs) (number b ys)) ∙ ap (λ (k : ℕ). k * number b ys) (mul_comm b (b ^ length xs) ∙ sym (pow-suc b (length xs))))

-- with digits below the base, the number is below the power of the base
pub number_lt : (b : ℕ) (ds : List ℕ) → ((i : ℕ) → get_or ds i 0 < b) → number b ds < b ^ length ds
unfolding number
number_lt b [] h = subst (λ (x : ℕ). 0 < x) (sym (pow-zero b)) (zero-lt-suc 0)
number_lt b (d ∷ ds) h =
    subst (λ (x : ℕ). d + b * number b ds < x) (sym (pow-suc b (length ds)))
    (subst (λ (x : ℕ). x < b ^ length ds * b) (add_comm (number b ds * b) d ∙ ap (λ (x : ℕ). d + x) (mul_comm (number b ds) b))
    (digits_lt (number_lt b ds (λ i. h (suc i))) (h 0)))

-- one of two numbers is not above the other
pub order : (a b : ℕ) → (a ≤ b) ⊎ (b < a)
order a b = go (dec_le a b)
  where
    go : Dec (a ≤ b) → (a ≤ b) ⊎ (b < a)
    go (yes h) = inl h
    go (no h) = inr (lt_of_not-le h)

-- ---- remainders of products
pub mod-mul-mod : (m n k : ℕ) → (m % k * n) % k ≡ (m * n) % k
mod-mul-mod m n k =
    let e : m * n ≡ m % k * n + k * (m / k * n) = omega (arith, ap (λ (x : ℕ). x * n) (div-add-mod m k)) in
    rw e (sym (add-mul-mod_self_left (m % k * n) k (m / k * n)))

pub mul-mod-mod : (m n k : ℕ) → (m * (n % k)) % k ≡ (m * n) % k
mul-mod-mod m n k = rw (mul_comm m (n % k), mul_comm m n) (mod-mul-mod n m k)

pub mul-mod : (m n k : ℕ) → (m % k * (n % k)) % k ≡ (m * n) % k
mul-mod m n k = mod-mul-mod m (n % k) k ∙ mul-mod-mod m n k

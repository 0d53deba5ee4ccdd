-- The sum of a number that each element of a list has.
use Rattle.std.specs.Prelude.{◌≡◌, List, [], ◌∷◌, ◌++◌, ℕ, ◌+◌, ◌*◌, length}
use Rattle.std.proofs.Common.{sym, zero-add, zero-mul, arith}
use Rattle.lists.specs.All.{All}

unfoldable pub total : {A : Type 0} → (A → ℕ) → List A → ℕ
total f [] = 0
total f (x ∷ xs) = f x + total f xs

pub total-append : {A : Type 0} (f : A → ℕ) (xs ys : List A) → total f (xs ++ ys) ≡ total f xs + total f ys
unfolding total
total-append f [] ys = sym (zero-add (total f ys))
total-append f (x ∷ xs) ys = omega (arith, total-append f xs ys)

-- where all have the same number
pub total_same : {A : Type 0} (f : A → ℕ) (n : ℕ) (xs : List A) → All (λ (x : A). f x ≡ n) xs → total f xs ≡ length xs * n
unfolding total
total_same f n [] h = sym (zero-mul n)
total_same f n (x ∷ xs) h = omega (arith, h.0, total_same f n xs h.1)

-- A list whose first elements are lowered by those of another, modulo q.
use Rattle.std.specs.Prelude.{◌≡◌, refl, List, [], ◌∷◌, ℕ, zero, suc, ◌+◌, ◌-◌, ◌%◌, ◌≤◌, ◌<◌, length, get_or}
use Rattle.std.proofs.Common.{ap, ap₂, ◌∙◌, mod-lt, not-suc-le-zero, le_of_suc-le-suc, arith, lit<}
use Rattle.std.proofs.Math.Nat.{mod-mod}
use Rattle.algebra.specs.Prime.{q}
use Rattle.algebra.specs.Field.{K, of, of_path, of_add, ◌⊕◌, ◌⊗◌, 𝟎, dv, ring, dif_path, ⊕-zero}
use Rattle.algebra.specs.Poly.{eval}
use Rattle.algebra.specs.Numbers.{ofs, Elements}

-- the first elements of xs lowered by ys, element by element
unfoldable pub lowered : List ℕ → List ℕ → List ℕ
lowered [] ys = []
lowered (x ∷ xs) [] = x ∷ xs
lowered (x ∷ xs) (y ∷ ys) = (x + (q - y)) % q ∷ lowered xs ys

-- ---- laws

pub lowered-length : (xs ys : List ℕ) → length (lowered xs ys) ≡ length xs
unfolding lowered
lowered-length [] ys = refl
lowered-length (x ∷ xs) [] = refl
lowered-length (x ∷ xs) (y ∷ ys) = ap suc (lowered-length xs ys)

pub lowered_below : (xs ys : List ℕ) → Elements xs → Elements (lowered xs ys)
unfolding lowered
lowered_below [] ys h = tt
lowered_below (x ∷ xs) [] h = h
lowered_below (x ∷ xs) (y ∷ ys) h = (mod-lt _ (lit< tt), lowered_below xs ys h.1)

pub lowered_none : (xs : List ℕ) → lowered xs [] ≡ xs
unfolding lowered
lowered_none [] = refl
lowered_none (x ∷ xs) = refl

pub lowered_at : (xs ys : List ℕ) (j : ℕ) → j < length xs → j < length ys → get_or (lowered xs ys) j 0 ≡ (get_or xs j 0 + (q - get_or ys j 0)) % q
unfolding lowered
lowered_at [] ys j l m = absurd (not-suc-le-zero l)
lowered_at (x ∷ xs) [] j l m = absurd (not-suc-le-zero m)
lowered_at (x ∷ xs) (y ∷ ys) zero l m = refl
lowered_at (x ∷ xs) (y ∷ ys) (suc j) l m = lowered_at xs ys j (le_of_suc-le-suc l) (le_of_suc-le-suc m)

pub lowered_after : (xs ys : List ℕ) (j : ℕ) → length ys ≤ j → get_or (lowered xs ys) j 0 ≡ get_or xs j 0
unfolding lowered
lowered_after [] ys j l = refl
lowered_after (x ∷ xs) [] j l = refl
lowered_after (x ∷ xs) (y ∷ ys) zero l = absurd (not-suc-le-zero l)
lowered_after (x ∷ xs) (y ∷ ys) (suc j) l = lowered_after xs ys j (le_of_suc-le-suc l)

raised : (x y : ℕ) → y < q → of ((x + (q - y)) % q) ⊕ of y ≡ of x
raised x y l = ap (λ (t : K). t ⊕ of y) (of_path _ (x + (q - y)) (mod-mod _ q)) ∙ of_add (x + (q - y)) y ∙ of_path _ x (omega arith)

add_step : (u y z s t : K) → (u ⊕ z ⊗ s) ⊕ (y ⊕ z ⊗ t) ≡ (u ⊕ y) ⊕ z ⊗ (s ⊕ t)
add_step u y z s t = rw (← dv u, ← dv y, ← dv z, ← dv s, ← dv t) (simp ring (dif_path _ _ _ _ (omega arith)))

-- as polynomials, a lowered list and what it is lowered by add up to the list
pub lowered_value : (xs ys : List ℕ) (z : K) → length ys ≤ length xs → Elements ys → eval (ofs (lowered xs ys)) z ⊕ eval (ofs ys) z ≡ eval (ofs xs) z
unfolding lowered eval
lowered_value [] [] z l h = ⊕-zero 𝟎
lowered_value [] (y ∷ ys) z l h = absurd (omega arith)
lowered_value (x ∷ xs) [] z l h = ⊕-zero _
lowered_value (x ∷ xs) (y ∷ ys) z l h =
    add_step _ (of y) z (eval (ofs (lowered xs ys)) z) (eval (ofs ys) z)
    ∙ ap₂ (λ (a b : K). a ⊕ z ⊗ b) (raised x y h.0) (lowered_value xs ys z (omega arith) h.1)

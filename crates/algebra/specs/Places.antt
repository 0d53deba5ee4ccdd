-- Sums over places, and dot products as such sums.
use Rattle.std.specs.Prelude.{◌≡◌, refl, List, [], ◌∷◌, ℕ, zero, suc, ◌<◌, length, get_or}
use Rattle.std.proofs.Common.{sym, ◌∙◌, ap, ap₂, arith}
use Rattle.std.proofs.lemmas.List.{length-map}
use Rattle.std.proofs.Math.ListN.{get_or-map}
use Rattle.algebra.specs.Field.{K, of, of_zero, ◌⊕◌, ◌⊗◌, 𝟎, dv, ring, dif_path, ⊕-zero, ⊗-zero}
use Rattle.algebra.specs.Interp.{dot}
use Rattle.algebra.specs.Numbers.{ofs}
use Rattle.algebra.specs.Dot.{dot_n, of_dot_n}

unfoldable pub sum_to : ℕ → (ℕ → K) → K
sum_to zero f = 𝟎
sum_to (suc n) f = f 0 ⊕ sum_to n (λ c. f (suc c))

sum_none : (n : ℕ) → sum_to n (λ c. 𝟎) ≡ 𝟎
unfolding sum_to
sum_none zero = refl
sum_none (suc n) = ap (λ (t : K). 𝟎 ⊕ t) (sum_none n) ∙ ⊕-zero 𝟎

pub sum_ext : (n : ℕ) (f g : ℕ → K) → ((c : ℕ) → c < n → f c ≡ g c) → sum_to n f ≡ sum_to n g
unfolding sum_to
sum_ext zero f g h = refl
sum_ext (suc n) f g h = ap₂ ◌⊕◌ (h 0 (omega arith)) (sum_ext n (λ c. f (suc c)) (λ c. g (suc c)) (λ c l. h (suc c) (omega arith)))

pub sum-scale : (e : K) (n : ℕ) (f : ℕ → K) → e ⊗ sum_to n f ≡ sum_to n (λ c. e ⊗ f c)
unfolding sum_to
sum-scale e zero f = ⊗-zero e
sum-scale e (suc n) f = spread e (f 0) (sum_to n (λ c. f (suc c))) ∙ ap (λ (t : K). e ⊗ f 0 ⊕ t) (sum-scale e n (λ c. f (suc c)))
  where
    spread : (e a b : K) → e ⊗ (a ⊕ b) ≡ e ⊗ a ⊕ e ⊗ b
    spread e a b = rw (← dv e, ← dv a, ← dv b) (simp ring (dif_path _ _ _ _ (omega arith)))

pub dot-sum : (as' bs : List K) → dot as' bs ≡ sum_to (length as') (λ c. get_or as' c 𝟎 ⊗ get_or bs c 𝟎)
unfolding dot sum_to
dot-sum [] bs = refl
dot-sum (a ∷ as') [] = sym (ap₂ ◌⊕◌ (⊗-zero a) (sum_ext (length as') _ (λ c. 𝟎) (λ c l. ⊗-zero (get_or as' c 𝟎)) ∙ sum_none (length as')) ∙ ⊕-zero 𝟎)
dot-sum (a ∷ as') (b ∷ bs) = ap (λ (t : K). a ⊗ b ⊕ t) (dot-sum as' bs)

pub at_ofs : (s : List ℕ) (c : ℕ) → get_or (ofs s) c 𝟎 ≡ of (get_or s c 0)
at_ofs s c = ap (λ (d : K). get_or (ofs s) c d) (sym of_zero) ∙ get_or-map of s c 0

pub of_dot-sum : (n : ℕ) (vs ys : List ℕ) → length vs ≡ n → of (dot_n vs ys) ≡ sum_to n (λ c. of (get_or vs c 0) ⊗ of (get_or ys c 0))
of_dot-sum n vs ys l =
    of_dot_n vs ys
    ∙ dot-sum (ofs vs) (ofs ys)
    ∙ ap (λ (k : ℕ). sum_to k (λ c. get_or (ofs vs) c 𝟎 ⊗ get_or (ofs ys) c 𝟎)) (length-map vs of ∙ l)
    ∙ sum_ext n _ _ (λ c m. ap₂ ◌⊗◌ (at_ofs vs c) (at_ofs ys c))

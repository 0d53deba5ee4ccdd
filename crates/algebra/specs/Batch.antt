-- The honest side: a batch P₀ + z P₁ + z² P₂ + .. of polynomials as numbers, coefficient by coefficient, and what it is worth at a point.
use Rattle.std.specs.Prelude.{◌≡◌, refl, List, [], ◌∷◌, map, ℕ, zero, suc, ◌<◌, length, get_or}
use Rattle.std.proofs.Common.{sym, ◌∙◌, ap, ap₂, arith}
use Rattle.std.proofs.lemmas.List.{length-map}
use Rattle.std.proofs.Math.ListN.{get_or-map}
use Rattle.lists.specs.All.{Distinct}
use Rattle.algebra.specs.Field.{K, of, of_zero, zero_val, ◌⊕◌, ◌⊗◌, 𝟎}
use Rattle.algebra.specs.Poly.{eval, scale, coeff_add, coeff_scale}
use Rattle.algebra.specs.Interp.{interp}
use Rattle.algebra.specs.Rows.{batch, eval-batch, length-batch, answer_honest}
use Rattle.algebra.specs.Numbers.{eval_n, eval_n_below, of_eval_n, of_injective, val_of_below, ofs, vals, ofs-vals, Elements, distinct_ofs, Polys, sized-ofs, interp_n, values_at_n, ofs-values_at_n, map-ofs_values}

-- coefficient i of each polynomial
unfoldable pub column_n : List (List ℕ) → ℕ → List ℕ
column_n [] i = []
column_n (p ∷ ps) i = get_or p i 0 ∷ column_n ps i

pub length-column_n : (ps : List (List ℕ)) (i : ℕ) → length (column_n ps i) ≡ length ps
unfolding column_n
length-column_n [] i = refl
length-column_n (p ∷ ps) i = ap suc (length-column_n ps i)

pub column_n_at : (ps : List (List ℕ)) (i j : ℕ) → get_or (column_n ps i) j 0 ≡ get_or (get_or ps j []) i 0
unfolding column_n
column_n_at [] i j = refl
column_n_at (p ∷ ps) i zero = refl
column_n_at (p ∷ ps) i (suc j) = column_n_at ps i j

column : List (List K) → ℕ → List K
column [] i = []
column (p ∷ ps) i = get_or p i 𝟎 ∷ column ps i

coeff_batch : (z : K) (ps : List (List K)) (i : ℕ) → get_or (batch z ps) i 𝟎 ≡ eval (column ps i) z
unfolding batch column eval
coeff_batch z [] i = refl
coeff_batch z (p ∷ ps) i = coeff_add p (scale z (batch z ps)) i ∙ ap (λ (t : K). get_or p i 𝟎 ⊕ t) (coeff_scale z (batch z ps) i ∙ ap (λ (t : K). z ⊗ t) (coeff_batch z ps i))

pub batch_n : ℕ → List (List ℕ) → List ℕ
batch_n z ps = vals (batch (of z) (map ofs ps))

pub batch_n-length : (z : ℕ) (ps : List (List ℕ)) (n : ℕ) → 0 < length ps → Polys n ps → length (batch_n z ps) ≡ n
unfolding batch_n
batch_n-length z ps n l h = length-map (batch (of z) (map ofs ps)) (λ (a : K). a.val) ∙ length-batch (of z) (map ofs ps) n (omega (arith, length-map ps ofs)) (sized-ofs n ps h)

ofs-column : (ps : List (List ℕ)) (i : ℕ) → column (map ofs ps) i ≡ ofs (column_n ps i)
unfolding column column_n
ofs-column [] i = refl
ofs-column (p ∷ ps) i = ap₂ (λ (c : K) (t : List K). c ∷ t) (ap (λ (d : K). get_or (ofs p) i d) (sym of_zero) ∙ get_or-map of p i 0) (ofs-column ps i)

-- what a program computes for coefficient i
pub batch_n_at : (z : ℕ) (ps : List (List ℕ)) (i : ℕ) → get_or (batch_n z ps) i 0 ≡ eval_n (column_n ps i) z
unfolding batch_n
batch_n_at z ps i =
    ap (λ (d : ℕ). get_or (vals (batch (of z) (map ofs ps))) i d) (sym zero_val)
    ∙ get_or-map (λ (a : K). a.val) (batch (of z) (map ofs ps)) i 𝟎
    ∙ ap (λ (a : K). a.val) (coeff_batch (of z) (map ofs ps) i ∙ ap (λ (t : List K). eval t (of z)) (ofs-column ps i) ∙ sym (of_eval_n (column_n ps i) z))
    ∙ val_of_below _ (eval_n_below (column_n ps i) z)

pub eval_n-batch_n : (z : ℕ) (ps : List (List ℕ)) (x : ℕ) → eval_n (batch_n z ps) x ≡ eval_n (values_at_n ps x) z
unfolding batch_n
eval_n-batch_n z ps x =
    of_injective _ _ (eval_n_below (vals (batch (of z) (map ofs ps))) x) (eval_n_below (values_at_n ps x) z)
    (of_eval_n (vals (batch (of z) (map ofs ps))) x ∙ ap (λ (t : List K). eval t (of x)) (ofs-vals (batch (of z) (map ofs ps))) ∙ eval-batch (of z) (map ofs ps) (of x)
    ∙ ap (λ (t : List K). eval t (of z)) (sym (ofs-values_at_n ps x)) ∙ sym (of_eval_n (values_at_n ps x) z))

-- the honest answer: the polynomial through the true values is the batch
pub honest_n : (ps : List (List ℕ)) (n : ℕ) → 0 < length ps → Polys n ps → (z : ℕ) (pts : List ℕ) → length pts ≡ n → Elements pts → Distinct pts
    → interp_n pts (map (λ (x : ℕ). eval_n (values_at_n ps x) z) pts) ≡ batch_n z ps
unfolding interp_n batch_n
honest_n ps n l h z pts lp b d =
    ap vals
    (ap (λ (t : List K). interp (ofs pts) t) (sym (map-ofs_values ps z pts))
    ∙ answer_honest (map ofs ps) n (omega (arith, length-map ps ofs)) (sized-ofs n ps h) (of z) (ofs pts) (length-map pts of ∙ lp) (distinct_ofs pts b d))

-- The values of some polynomials at a point, and the polynomials through some rows.
use Rattle.std.specs.Prelude.{◌≡◌, refl, List, [], ◌∷◌, ◌++◌, map, ℕ, zero, suc, ◌+◌, ◌*◌, ◌≤◌, ◌<◌, length, get_or, take, drop}
use Rattle.std.proofs.Common.{sym, ap, ap₂, ◌∙◌, not-suc-le-zero, le_of_suc-le-suc, mul-zero, arith, lit<, length-drop, take-append-drop, take-add, length-take-le}
use Rattle.std.proofs.lemmas.List.{length-map}
use Rattle.lists.specs.All.{all_take, all_drop}
use Rattle.lists.specs.Range.{up_from}
use Rattle.lists.specs.Pieces.{pieces, piece, pieces-run, pieces-sized}
use Rattle.algebra.specs.Prime.{q}
use Rattle.algebra.specs.Field.{K, of, ◌⊕◌, ◌⊗◌}
use Rattle.algebra.specs.Poly.{eval}
use Rattle.algebra.specs.Rows.{power, power-mul, eval-append}
use Rattle.algebra.specs.Numbers.{eval_n, eval_n_below, of_eval_n, ofs, ofs-append, interp_n, interp_n_below, interp_n-length, values_at_n, Elements, Polys}
use Rattle.algebra.specs.Columns.{pow_n, of_pow_n, concat_n, columns_value}
use Rattle.algebra.specs.Batch.{column_n}

pub get_or_below : (xs : List ℕ) → Elements xs → (i : ℕ) → get_or xs i 0 < q
get_or_below [] h i = lit< tt
get_or_below (x ∷ xs) h zero = h.0
get_or_below (x ∷ xs) h (suc i) = get_or_below xs h.1 i

-- ---- values at a point

pub length_values : (ps : List (List ℕ)) (x : ℕ) → length (values_at_n ps x) ≡ length ps
unfolding values_at_n
length_values [] x = refl
length_values (p ∷ ps) x = ap suc (length_values ps x)

pub values_append : (ps rs : List (List ℕ)) (x : ℕ) → values_at_n (ps ++ rs) x ≡ values_at_n ps x ++ values_at_n rs x
unfolding values_at_n
values_append [] rs x = refl
values_append (p ∷ ps) rs x = ap (λ (t : List ℕ). eval_n p x ∷ t) (values_append ps rs x)

pub values_at_lem : (ps : List (List ℕ)) (x k : ℕ) → k < length ps → get_or (values_at_n ps x) k 0 ≡ eval_n (get_or ps k []) x
unfolding values_at_n
values_at_lem [] x k l = absurd (not-suc-le-zero l)
values_at_lem (p ∷ ps) x zero l = refl
values_at_lem (p ∷ ps) x (suc k) l = values_at_lem ps x k (le_of_suc-le-suc l)

pub values_below : (ps : List (List ℕ)) (x : ℕ) → Elements (values_at_n ps x)
unfolding values_at_n
values_below [] x = tt
values_below (p ∷ ps) x = (eval_n_below p x, values_below ps x)

pub ofs_values : (f : ℕ → List ℕ) (z : ℕ) (xs : List ℕ) → ofs (values_at_n (map f xs) z) ≡ map (λ t. of (eval_n (f t) z)) xs
unfolding values_at_n
ofs_values f z [] = refl
ofs_values f z (x ∷ xs) = ap (λ (t : List K). of (eval_n (f x) z) ∷ t) (ofs_values f z xs)

-- ---- columns and pieces of rows

pub piece_below : (k a : ℕ) (x : List ℕ) → Elements x → Elements (piece k a x)
piece_below k a x h = all_take (λ (y : ℕ). y < q) k (drop (k * a) x) (all_drop (λ (y : ℕ). y < q) (k * a) x h)

pub column-map : (f : ℕ → List ℕ) (xs : List ℕ) (a : ℕ) → column_n (map f xs) a ≡ map (λ j. get_or (f j) a 0) xs
unfolding column_n
column-map f [] a = refl
column-map f (x ∷ xs) a = ap (λ (t : List ℕ). get_or (f x) a 0 ∷ t) (column-map f xs a)

concat-pieces : (k n : ℕ) (x : List ℕ) → concat_n (pieces k n x) ≡ take (k * n) x
unfolding concat_n pieces
concat-pieces k zero x = let e : 0 ≡ k * 0 = omega arith in ap (λ (j : ℕ). take j x) e
concat-pieces k (suc n) x =
    let e : k + k * n ≡ k * suc n = omega arith in
    ap (λ (t : List ℕ). take k x ++ t) (concat-pieces k n (drop k x)) ∙ sym (take-add k (k * n) x) ∙ ap (λ (j : ℕ). take j x) e

-- a polynomial's value from those of its first n pieces of m coefficients and of what stands after them
pub pieces_value : (m n : ℕ) (p : List ℕ) (z : ℕ) → m * n ≤ length p
    → eval (map (λ k. of (eval_n (piece m k p) z)) (up_from 0 n)) (of (pow_n z m)) ⊕ power (of (pow_n z m)) n ⊗ of (eval_n (drop (m * n) p) z) ≡ of (eval_n p z)
pieces_value m n p z l =
    let F : List ℕ = take (m * n) p in
    let B : List ℕ = drop (m * n) p in
    let P : List (List ℕ) = pieces m n (drop (m * 0) p) in
    let many : length (ofs F) ≡ m * n = length-map F of ∙ length-take-le (m * n) p l in
    ap₂ ◌⊕◌
    (ap (λ (x : List K). eval x (of (pow_n z m))) (sym (ofs_values (λ k. piece m k p) z (up_from 0 n)))
    ∙ sym (of_eval_n (values_at_n (map (λ k. piece m k p) (up_from 0 n)) z) (pow_n z m))
    ∙ ap (λ (x : List (List ℕ)). of (eval_n (values_at_n x z) (pow_n z m))) (pieces-run m 0 n p)
    ∙ ap of (columns_value m P z (pieces-sized m n (drop (m * 0) p) (omega (arith, length-drop (m * 0) p)))
    ∙ ap (λ (x : List ℕ). eval_n x z) (concat-pieces m n (drop (m * 0) p) ∙ ap (λ (k : ℕ). take (m * n) (drop k p)) (mul-zero m)))
    ∙ of_eval_n F z)
    (ap₂ ◌⊗◌ (ap (λ (x : K). power x n) (of_pow_n z m) ∙ power-mul (of z) m n ∙ ap (power (of z)) (sym many)) (of_eval_n B z))
    ∙ sym (eval-append (ofs F) (ofs B) (of z))
    ∙ ap (λ (x : List K). eval x (of z)) (sym (ofs-append F B))
    ∙ sym (of_eval_n (F ++ B) z)
    ∙ ap (λ (x : List ℕ). of (eval_n x z)) (take-append-drop (m * n) p)

-- ---- the polynomials through some rows

pub interp_polys : (xs : List ℕ) (n : ℕ) → length xs ≡ n → (es : List (List ℕ)) → Polys n es → Polys n (map (interp_n xs) es)
interp_polys xs n e [] h = tt
interp_polys xs n e (r ∷ rs) h = ((interp_n-length xs r (h.0.0 ∙ sym e) ∙ e, interp_n_below xs r), interp_polys xs n e rs h.1)

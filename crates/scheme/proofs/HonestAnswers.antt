-- The honest side: what rows, answers and batching answers are worth at the leaves.
use mathlib.Core.Path.{◌≡◌, refl, sym, ap, ap₂, ◌∙◌, subst}
use mathlib.Core.List.{List, [], ◌∷◌, ◌++◌, map}
use Prim.Native.Nat.{ℕ, ◌+◌, ◌*◌, ◌≤◌, ◌<◌}
use native.Mathlib.Nat.{zero-lt-suc, zero-add, mul-zero}
use native.Mathlib.Omega.{arith}
use lib.ListN.{length, get_or, drop, length-map, length-append, length-drop, get_or-append}
use lib.Seq.{length-take-le, ext_get_or, get_or-append-add}
use Rattle.lists.specs.Range.{up_from, up_from_of, at_run, length-up_from, all_run, run-parts}
use Rattle.lists.specs.Maps.{map_cong, get_or-map_in}
use Rattle.algebra.specs.Prime.{q}
use Rattle.lists.specs.All.{all_append, all_each}
use Rattle.algebra.specs.Numbers.{eval_n, eval_n_below, interp_n, interp_n_values, values_at_n, Elements, Polys}
use Rattle.algebra.specs.Columns.{pow_n}
use Rattle.algebra.specs.Values.{get_or_below, piece_below, length_values, values_at_lem, column-map, interp_polys}
use Rattle.algebra.specs.Batch.{column_n, batch_n, batch_n_at, batch_n-length, eval_n-batch_n, honest_n}
use Rattle.lists.specs.Pieces.{pieces, piece, length-pieces, pieces_at, pieces-run}
use Rattle.scheme.specs.Sizes.{Sizes, SizesInOrder, columns, rows, coefficient_count, width, points}
use Rattle.scheme.specs.Matrix.{polynomial}
use Rattle.scheme.specs.Layers.{Lent, column, entry, extended, extended_rows, row_polynomials, combination, evaluation_answer, mask_polynomial, batching_answer, polynomial_values}
use Rattle.scheme.proofs.Lent.{LentFacts, counted}
use Rattle.scheme.proofs.Columns.{column_poly, columns_are, columns_value_is}
use Rattle.scheme.proofs.Accepted.{points_are_below, points-differ, points_count}
use Rattle.lists.specs.Parts.{row_fits, piece_at}

-- ---- a combination of rows

pub combination-length : (n z : ℕ) (ps : List (List ℕ)) → length (combination n z ps) ≡ n
unfolding combination
combination-length n z ps = length-map (up_from 0 n) _ ∙ length-up_from 0 n

pub combination_at : (n z : ℕ) (ps : List (List ℕ)) (i : ℕ) → i < n → get_or (combination n z ps) i 0 ≡ eval_n (column_n ps i) z
unfolding combination
combination_at n z ps i l = at_run (λ i. eval_n (column_n ps i) z) 0 n i 0 l ∙ ap (λ (j : ℕ). eval_n (column_n ps j) z) (zero-add i)

pub combination_below : (n z : ℕ) (ps : List (List ℕ)) → Elements (combination n z ps)
unfolding combination
combination_below n z ps = all_each (λ (x : ℕ). x < q) _ (up_from 0 n) (λ i. eval_n_below (column_n ps i) z)

pub combination-batch : (n z : ℕ) (ps : List (List ℕ)) → 0 < length ps → Polys n ps → combination n z ps ≡ batch_n z ps
combination-batch n z ps l h =
    ext_get_or 0 (combination n z ps) (batch_n z ps) (combination-length n z ps ∙ sym (batch_n-length z ps n l h))
    (λ i m. combination_at n z ps i (subst (λ (k : ℕ). i < k) (combination-length n z ps) m) ∙ sym (batch_n_at z ps i))

-- its value at x: the combination of the values at x
combination_value : (n z : ℕ) (ps : List (List ℕ)) (x : ℕ) → 0 < length ps → Polys n ps → eval_n (combination n z ps) x ≡ eval_n (values_at_n ps x) z
combination_value n z ps x l h = ap (λ (t : List ℕ). eval_n t x) (combination-batch n z ps l h) ∙ eval_n-batch_n z ps x

module _ (s : Sizes) (lent : Lent) (r : LentFacts s lent) where
  abbrev g : SizesInOrder s
  g = r.sizes

  abbrev c : List ℕ
  c = lent.coefficients

  abbrev t : List ℕ
  t = lent.tails

  -- ---- rows

  tail-length : (j : ℕ) → j < rows s → length (piece s.ℓ j t) ≡ s.ℓ
  tail-length j l = length-take-le s.ℓ (drop (s.ℓ * j) t) (omega (arith, length-drop (s.ℓ * j) t, row_fits s.ℓ j (rows s) l, r.t_length))

  row_count : (j : ℕ) → length (map (entry s lent j) (up_from 0 (columns s))) ≡ columns s
  row_count j = length-map (up_from 0 (columns s)) _ ∙ length-up_from 0 (columns s)

  extended_poly : (j : ℕ) → j < rows s → (length (extended s lent j) ≡ width s) × Elements (extended s lent j)
  unfolding extended
  extended_poly j l = (
    length-append (map (entry s lent j) (up_from 0 (columns s))) (piece s.ℓ j t) ∙ ap₂ ◌+◌ (row_count j) (tail-length j l),
    all_append (λ (x : ℕ). x < q) (map (entry s lent j) (up_from 0 (columns s))) (piece s.ℓ j t)
        (all_run (λ (x : ℕ). x < q) (entry s lent j) (columns s) (λ a m. get_or_below (column s lent a) (column_poly s lent r a m).1 j))
        (piece_below s.ℓ j t r.t_below),
  )

  abbrev pub ext : List (List ℕ)
  ext = extended_rows s lent

  abbrev pub P : List (List ℕ)
  P = row_polynomials s lent

  pub ext_polys : Polys (width s) ext
  ext_polys = all_run (λ (p : List ℕ). (length p ≡ width s) × Elements p) (extended s lent) (rows s) extended_poly

  pub P_polys : Polys (width s) P
  P_polys = interp_polys (points s) (width s) (points_count s g) ext ext_polys

  pub P_count : length P ≡ rows s
  P_count = length-map ext _ ∙ length-map (up_from 0 (rows s)) _ ∙ length-up_from 0 (rows s)

  P_some : 0 < length P
  P_some = omega (arith, P_count, g.μ_low)

  -- at value and tail point i the row's polynomial has entry i of the extended row
  pub column_values : (es : List (List ℕ)) → Polys (width s) es → (i : ℕ) → i < width s → column_n es i ≡ values_at_n (map (interp_n (points s)) es) (get_or (points s) i 0)
  unfolding column_n values_at_n
  column_values [] h i l = refl
  column_values (e ∷ es) h i l =
      ap₂ (λ (a : ℕ) (r : List ℕ). a ∷ r)
      (ap (λ (r : List ℕ). get_or r i 0) (sym (interp_n_values (points s) e (points_are_below s g) (points-differ s g) h.0.1 (h.0.0 ∙ sym (points_count s g))))
      ∙ get_or-map_in (λ x. eval_n (interp_n (points s) e) x) (points s) i 0 0 (subst (λ (k : ℕ). i < k) (sym (points_count s g)) l))
      (column_values es h.1 i l)

  -- the honest answer: the true values at the value and tail points
  honest_answer : (z : ℕ) → evaluation_answer s lent z ≡ map (λ x. eval_n (values_at_n P x) z) (points s)
  honest_answer z =
      ext_get_or 0 (evaluation_answer s lent z) (map (λ x. eval_n (values_at_n P x) z) (points s))
      (combination-length (width s) z ext ∙ sym (length-map (points s) (λ x. eval_n (values_at_n P x) z) ∙ points_count s g))
      (λ i m.
      let l : i < width s = subst (λ (k : ℕ). i < k) (combination-length (width s) z ext) m in
      combination_at (width s) z ext i l
      ∙ ap (λ (r : List ℕ). eval_n r z) (column_values ext ext_polys i l)
      ∙ sym (get_or-map_in (λ x. eval_n (values_at_n P x) z) (points s) i 0 0 (subst (λ (k : ℕ). i < k) (sym (points_count s g)) l)))

  -- test 10 passes at every leaf
  pub evaluation_honest : (z x : ℕ) → eval_n (interp_n (points s) (evaluation_answer s lent z)) x ≡ eval_n (values_at_n P x) z
  evaluation_honest z x =
      ap (λ (r : List ℕ). eval_n (interp_n (points s) r) x) (honest_answer z)
      ∙ ap (λ (r : List ℕ). eval_n r x) (honest_n P (width s) P_some P_polys z (points s) (points_count s g) (points_are_below s g) (points-differ s g))
      ∙ eval_n-batch_n z P x

  mask_poly : (k : ℕ) → k < s.η → (length (mask_polynomial s lent k) ≡ width s) × Elements (mask_polynomial s lent k)
  mask_poly k m = (
    length-take-le (width s) (drop (width s * k) lent.masks) (omega (arith, length-drop (width s * k) lent.masks, row_fits (width s) k s.η m, r.m_length)),
    piece_below (width s) k lent.masks r.m_below,
  )

  -- test 9 passes at every leaf
  pub batching_honest : (k γ x : ℕ) → k < s.η → eval_n (batching_answer s lent k γ) x ≡ eval_n (eval_n (mask_polynomial s lent k) x ∷ values_at_n P x) γ
  unfolding values_at_n
  batching_honest k γ x l = combination_value (width s) γ (mask_polynomial s lent k ∷ P) x (zero-lt-suc _) (mask_poly k l, P_polys)

  -- ---- the values

  entry_at : (j a : ℕ) → a < columns s → get_or (extended s lent j) a 0 ≡ get_or (column s lent a) j 0
  unfolding extended
  entry_at j a l =
      get_or-append (map (entry s lent j) (up_from 0 (columns s))) (piece s.ℓ j t) 0 a (subst (λ (k : ℕ). a < k) (sym (row_count j)) l)
      ∙ at_run (entry s lent j) 0 (columns s) a 0 l
      ∙ ap (entry s lent j) (zero-add a)

  -- the rows' entries at a column are the column
  pub entries : (a : ℕ) → a < columns s → column_n ext a ≡ column s lent a
  entries a l =
      column-map (extended s lent) (up_from 0 (rows s)) a
      ∙ ext_get_or 0 (map (λ j. get_or (extended s lent j) a 0) (up_from 0 (rows s))) (column s lent a) (count ∙ sym (column_poly s lent r a l).0)
      (λ j m.
      at_run (λ j. get_or (extended s lent j) a 0) 0 (rows s) j 0 (subst (λ (n : ℕ). j < n) count m)
      ∙ ap (λ (n : ℕ). get_or (extended s lent n) a 0) (zero-add j)
      ∙ entry_at j a l)
    where
      count : length (map (λ j. get_or (extended s lent j) a 0) (up_from 0 (rows s))) ≡ rows s
      count = length-map (up_from 0 (rows s)) _ ∙ length-up_from 0 (rows s)

  tail_at : (j i : ℕ) → get_or (extended s lent j) (columns s + i) 0 ≡ get_or (piece s.ℓ j t) i 0
  unfolding extended
  tail_at j i =
      let es : List ℕ = map (entry s lent j) (up_from 0 (columns s)) in
      ap (λ (k : ℕ). get_or (es ++ piece s.ℓ j t) (k + i) 0) (sym (row_count j)) ∙ get_or-append-add es (piece s.ℓ j t) i 0

  -- after the columns the rows' entries are those of the tails
  tail-entries : (i : ℕ) → column_n ext (columns s + i) ≡ column_n (pieces s.ℓ (rows s) t) i
  tail-entries i =
      column-map (extended s lent) (up_from 0 (rows s)) (columns s + i)
      ∙ map_cong (up_from 0 (rows s)) (λ j m. tail_at j i)
      ∙ sym (column-map (λ j. piece s.ℓ j t) (up_from 0 (rows s)) i)
      ∙ ap (λ (ps : List (List ℕ)). column_n ps i) (pieces-run s.ℓ 0 (rows s) t ∙ ap (λ (k : ℕ). pieces s.ℓ (rows s) (drop k t)) (mul-zero s.ℓ))

  -- an answer without the rows: the values of the columns, and the combination of the tails
  pub answer_parts : (z : ℕ) → evaluation_answer s lent z ≡ map (λ a. eval_n (column s lent a) z) (up_from 0 (columns s)) ++ combination s.ℓ z (pieces s.ℓ (rows s) t)
  unfolding combination
  answer_parts z =
      let f : ℕ → ℕ = λ i. eval_n (column_n ext i) z in
      let ts : List (List ℕ) = pieces s.ℓ (rows s) t in
      let n₂ : length (map f (up_from (0 + columns s) s.ℓ)) ≡ s.ℓ = length-map (up_from (0 + columns s) s.ℓ) f ∙ length-up_from (0 + columns s) s.ℓ in
      run-parts f 0 (columns s) s.ℓ
      ∙ ap₂ (λ (a b : List ℕ). a ++ b)
      (map_cong (up_from 0 (columns s)) (λ a m.
      ap (λ (x : List ℕ). eval_n x z) (entries a (subst (λ (k : ℕ). a < k) (zero-add (columns s)) (up_from_of 0 (columns s) a m).1))))
      (ext_get_or 0 (map f (up_from (0 + columns s) s.ℓ)) (combination s.ℓ z ts) (n₂ ∙ sym (combination-length s.ℓ z ts))
      (λ i m.
      let l : i < s.ℓ = subst (λ (k : ℕ). i < k) n₂ m in
      at_run f (0 + columns s) s.ℓ i 0 l
      ∙ ap (λ (k : ℕ). f (k + i)) (zero-add (columns s))
      ∙ ap (λ (x : List ℕ). eval_n x z) (tail-entries i)
      ∙ sym (combination_at s.ℓ z ts i l)))

  -- the columns of polynomial i in an honest answer: their values at z
  columns_honest : (z i : ℕ) → i < s.w → piece s.ν i (evaluation_answer s lent z) ≡ values_at_n (map (column s lent) (up_from (s.ν * i) s.ν)) z
  columns_honest z i l =
      let A : List ℕ = evaluation_answer s lent z in
      let cs : List (List ℕ) = map (column s lent) (up_from (s.ν * i) s.ν) in
      let b : s.ν * i + s.ν ≤ s.ν * s.w = row_fits s.ν i s.w l in
      let count : length (piece s.ν i A) ≡ s.ν =
      length-take-le s.ν (drop (s.ν * i) A) (omega (arith, length-drop (s.ν * i) A, combination-length (width s) z ext)) in
      let many : length cs ≡ s.ν = length-map (up_from (s.ν * i) s.ν) (column s lent) ∙ length-up_from (s.ν * i) s.ν in
      ext_get_or 0 (piece s.ν i A) (values_at_n cs z) (count ∙ sym (length_values cs z ∙ many))
      (λ k m.
      let n : k < s.ν = subst (λ (x : ℕ). k < x) count m in
      piece_at s.ν i A k n
      ∙ combination_at (width s) z ext (s.ν * i + k) (omega arith)
      ∙ ap (λ (x : List ℕ). eval_n x z) (entries (s.ν * i + k) (omega arith) ∙ sym (at_run (column s lent) (s.ν * i) s.ν k [] n))
      ∙ sym (values_at_lem cs z k (subst (λ (x : ℕ). k < x) (sym many) n)))

  value_honest : (z i : ℕ) → i < s.w → eval_n (piece s.ν i (evaluation_answer s lent z)) (pow_n z s.μ) ≡ eval_n (polynomial s c lent.blinds i) z
  value_honest z i l =
      let e : s.ν * i ≡ s.ν * i + 0 = omega arith in
      ap (λ (x : List ℕ). eval_n x (pow_n z s.μ))
      (columns_honest z i l
      ∙ ap (λ (cs : List (List ℕ)). values_at_n cs z) (ap (λ (k : ℕ). map (column s lent) (up_from k s.ν)) e ∙ columns_are s lent i s.ν 0 (omega arith)))
      ∙ columns_value_is s c lent.blinds (counted r) r.b_below z i l

  -- the values that an honest answer gives are the polynomials' values
  pub values_honest : (z : ℕ) → polynomial_values s z (evaluation_answer s lent z) ≡ map (λ p. eval_n p z) (pieces (coefficient_count s) s.w c)
  unfolding polynomial_values
  values_honest z =
      let A : List ℕ = evaluation_answer s lent z in
      let ps : List (List ℕ) = pieces (coefficient_count s) s.w c in
      let n₁ : length (pieces s.ν s.w A) ≡ s.w = length-pieces s.ν s.w A in
      let n₂ : length ps ≡ s.w = length-pieces (coefficient_count s) s.w c in
      ext_get_or 0 (map (λ vs. eval_n vs (pow_n z s.μ)) (pieces s.ν s.w A)) (map (λ p. eval_n p z) ps)
      (length-map (pieces s.ν s.w A) _ ∙ n₁ ∙ sym (length-map ps (λ p. eval_n p z) ∙ n₂))
      (λ i m.
      let l : i < s.w = subst (λ (k : ℕ). i < k) (length-map (pieces s.ν s.w A) (λ vs. eval_n vs (pow_n z s.μ)) ∙ n₁) m in
      get_or-map_in (λ vs. eval_n vs (pow_n z s.μ)) (pieces s.ν s.w A) i [] 0 (subst (λ (k : ℕ). i < k) (sym n₁) l)
      ∙ ap (λ (x : List ℕ). eval_n x (pow_n z s.μ)) (pieces_at s.ν s.w i A l)
      ∙ value_honest z i l
      ∙ ap (λ (x : List ℕ). eval_n x z) (sym (pieces_at (coefficient_count s) s.w i c l))
      ∙ sym (get_or-map_in (λ p. eval_n p z) ps i [] 0 (subst (λ (k : ℕ). i < k) (sym n₂) l)))

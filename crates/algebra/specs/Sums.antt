-- Sums of rows, each times its weight. The lower and the upper parts of a column's products are summed apart, and reduced once at the end.
use Rattle.std.specs.Prelude.{◌≡◌, List, ℕ, ◌+◌, ◌*◌, ◌/◌, ◌%◌, ◌≤◌, ◌<◌, length, get_or}
use Rattle.std.proofs.Common.{sym, ◌∙◌, ap, ap₂, subst, not-suc-le-zero, le_refl, arith}
use Rattle.std.proofs.Math.Decide.{ℕ_discrete}
use Rattle.lists.specs.All.{All, Below, all_at, all_from}
use Rattle.lists.specs.Fill.{Filled, entry_of}
use Rattle.lists.specs.Pieces.{pieces, piece, length-pieces, pieces_at}
use Rattle.lists.specs.Tabulate.{tabulate, tabulate_ext, length-tabulate}
use Rattle.algebra.specs.Prime.{q}
use Rattle.algebra.specs.Columns.{pow_n}
use Rattle.algebra.specs.Numbers.{eval_n}
use Rattle.algebra.specs.Batch.{column_n, length-column_n, column_n_at}
use Rattle.algebra.specs.Dot.{split, longest, word_end, spare, dot_n, dot_powers_n, Halves, halves_none, halves_turn, halves_spare, halves_done}

-- the entries of the widest rows
abbrev pub widest : ℕ
widest = 64

-- column i of the rows of n entries, one for each weight, which stand one after the other
abbrev pub column_of : List ℕ → ℕ → List ℕ → ℕ → List ℕ
column_of weights n rows i = column_n (pieces n (length weights) rows) i

unfoldable pub sums_of : List ℕ → ℕ → List ℕ → List ℕ
sums_of weights n rows = tabulate n (λ i. dot_n weights (column_of weights n rows i))

-- with the powers of z they are the columns' values at z
pub sums_powers_n : (k n : ℕ) (rows : List ℕ) (z : ℕ) → sums_of (tabulate k (pow_n z)) n rows ≡ tabulate n (λ i. eval_n (column_n (pieces n k rows) i) z)
unfolding sums_of
sums_powers_n k n rows z =
    ap (λ (m : ℕ). tabulate n (λ i. dot_n (tabulate k (pow_n z)) (column_n (pieces n m rows) i))) (length-tabulate k (pow_n z))
    ∙ tabulate_ext n (λ i. dot_n (tabulate k (pow_n z)) (column_n (pieces n k rows) i)) (λ i. eval_n (column_n (pieces n k rows) i) z)
    (λ i l.
    let ps : List (List ℕ) = pieces n k rows in
    let e : k ≡ length (column_n ps i) = sym (length-column_n ps i ∙ length-pieces n k rows) in
    ap (λ (m : ℕ). dot_n (tabulate m (pow_n z)) (column_n ps i)) e ∙ dot_powers_n (column_n ps i) z)

-- ---- a row times c added, entry by entry: the parts of the products

abbrev pub low_added : ℕ → List ℕ → List ℕ → ℕ → ℕ
low_added c row low i = get_or low i 0 + c * get_or row i 0 % split

abbrev pub high_added : ℕ → List ℕ → List ℕ → ℕ → ℕ
high_added c row high i = get_or high i 0 + c * get_or row i 0 / split

-- the products with the first n entries are products of words
abbrev pub SmallProducts : ℕ → List ℕ → ℕ → Type 0
SmallProducts c row n = (i : ℕ) → i < n → c * get_or row i 0 < word_end

-- each sum can take one part more
abbrev pub Spare : List ℕ → Type 0
Spare s = Below spare s

module _ (c : ℕ) (row : List ℕ) where
  pub products_none : SmallProducts c row 0
  products_none i l = absurd (not-suc-le-zero l)

  pub products_next : (i p : ℕ) → p ≡ c * get_or row i 0 → p < word_end → SmallProducts c row i → SmallProducts c row (i + 1)
  products_next i p e l h j m = go (ℕ_discrete j i)
    where
      go : Dec (j ≡ i) → c * get_or row j 0 < word_end
      go (yes r) = subst (λ (t : ℕ). t < word_end) (e ∙ ap (λ (k : ℕ). c * get_or row k 0) (sym r)) l
      go (no r) = h j (omega arith)

  -- place i, which is still as it was
  pub low_next : (old now : List ℕ) (i n p : ℕ) → i < n → Filled (entry_of old) now i n → p ≡ c * get_or row i 0 → get_or now i 0 + p % split ≡ low_added c row old i
  low_next old now i n p l h e = ap₂ (λ (s t : ℕ). s + t % split) (h i (le_refl i) l) e

  pub high_next : (old now : List ℕ) (i n p : ℕ) → i < n → Filled (entry_of old) now i n → p ≡ c * get_or row i 0 → get_or now i 0 + p / split ≡ high_added c row old i
  high_next old now i n p l h e = ap₂ (λ (s t : ℕ). s + t / split) (h i (le_refl i) l) e

pub spare_at : (old now : List ℕ) (i n : ℕ) → i < n → n ≡ length old → Filled (entry_of old) now i n → Spare old → get_or now i 0 < spare
spare_at old now i n l e h b = subst (λ (t : ℕ). t < spare) (sym (h i (le_refl i) l)) (all_at (λ (x : ℕ). x < spare) 0 old b i (omega arith))

-- ---- the sums after j rows

pub Summed : List ℕ → ℕ → List ℕ → ℕ → List ℕ → List ℕ → Type 0
Summed ws n rows j low high = (i : ℕ) → i < n → Halves ws (column_of ws n rows i) j (get_or low i 0) (get_or high i 0)

pub summed_none : (ws : List ℕ) (n : ℕ) (rows low high : List ℕ) → length low ≡ n → length high ≡ n → All (λ x. x ≡ 0) low → All (λ x. x ≡ 0) high → Summed ws n rows 0 low high
unfolding Summed
summed_none ws n rows low high e f a b i l =
    let x : 0 ≡ get_or low i 0 = sym (all_at (λ (t : ℕ). t ≡ 0) 0 low a i (omega arith)) in
    let y : 0 ≡ get_or high i 0 = sym (all_at (λ (t : ℕ). t ≡ 0) 0 high b i (omega arith)) in
    subst (λ (s : ℕ). Halves ws (column_of ws n rows i) 0 s (get_or high i 0)) x
    (subst (λ (t : ℕ). Halves ws (column_of ws n rows i) 0 0 t) y
    (halves_none ws (column_of ws n rows i)))

pub summed_turn : (ws : List ℕ) (n : ℕ) (rows : List ℕ) (j : ℕ) (row low high low' high' : List ℕ) → j < length ws → row ≡ piece n j rows
    → Filled (low_added (get_or ws j 0) row low) low' 0 n → Filled (high_added (get_or ws j 0) row high) high' 0 n → SmallProducts (get_or ws j 0) row n
    → Summed ws n rows j low high → Summed ws n rows (j + 1) low' high'
unfolding Summed
summed_turn ws n rows j row low high low' high' l r f g u s i m =
    let p : ℕ = get_or ws j 0 * get_or row i 0 in
    let c : List ℕ = column_of ws n rows i in
    let k : length c ≡ length ws = length-column_n (pieces n (length ws) rows) i ∙ length-pieces n (length ws) rows in
    let e : p ≡ get_or ws j 0 * get_or c j 0 = ap (λ (t : ℕ). get_or ws j 0 * t) (sym (column_n_at (pieces n (length ws) rows) i j ∙ ap (λ (t : List ℕ). get_or t i 0) (pieces_at n (length ws) j rows l ∙ sym r))) in
    subst (λ (x : ℕ). Halves ws c (j + 1) x (get_or high' i 0)) (sym (f i (omega arith) m))
    (subst (λ (y : ℕ). Halves ws c (j + 1) (get_or low i 0 + p % split) y) (sym (g i (omega arith) m))
    (halves_turn ws c j (get_or low i 0) (get_or high i 0) p l k e (u i m) (s i m)))

pub summed-spare : (ws : List ℕ) (n : ℕ) (rows : List ℕ) (j : ℕ) (low high : List ℕ) → j ≤ longest → length low ≡ n → length high ≡ n → Summed ws n rows j low high → Spare low × Spare high
unfolding Summed
summed-spare ws n rows j low high l e f s = (
  all_from (λ (x : ℕ). x < spare) 0 low (λ i m. (each i (subst (λ (k : ℕ). i < k) e m)).0),
  all_from (λ (x : ℕ). x < spare) 0 high (λ i m. (each i (subst (λ (k : ℕ). i < k) f m)).1),
)
  where
    each : (i : ℕ) → i < n → (get_or low i 0 < spare) × (get_or high i 0 < spare)
    each i m = halves_spare ws (column_of ws n rows i) j (get_or low i 0) (get_or high i 0) l (s i m)

-- all rows: each sum is reduced
abbrev pub reduced_at : List ℕ → List ℕ → ℕ → ℕ
reduced_at low high i = (get_or low i 0 + 10 * get_or high i 0) % q

pub summed_done : (ws : List ℕ) (n : ℕ) (rows : List ℕ) (j : ℕ) (low high : List ℕ) → j ≡ length ws → Summed ws n rows j low high → tabulate n (reduced_at low high) ≡ sums_of ws n rows
unfolding Summed sums_of
summed_done ws n rows j low high e s =
    tabulate_ext n (reduced_at low high) (λ i. dot_n ws (column_of ws n rows i))
    (λ i l. halves_done ws (column_of ws n rows i) j (get_or low i 0) (get_or high i 0) e (length-column_n (pieces n (length ws) rows) i ∙ length-pieces n (length ws) rows) (s i l))

-- The three layers: polynomials to rows (PCS), rows to polynomials (LVCS), degree (DECS). A row is a list of field elements.
use Rattle.std.specs.Prelude.{List, ◌∷◌, ◌++◌, map, ℕ, ◌/◌, ◌%◌, get_or}
use Rattle.lists.specs.Range.{up_from}
use Rattle.algebra.specs.Numbers.{eval_n, interp_n, values_at_n}
use Rattle.algebra.specs.Batch.{column_n}
use Rattle.algebra.specs.Columns.{pow_n}
use Rattle.algebra.specs.Stacked.{stacked}
use Rattle.lists.specs.Pieces.{pieces, piece}
use Rattle.scheme.specs.Sizes.{Sizes, columns, rows, width, points}
use Rattle.scheme.specs.Matrix.{column_of}

-- what the committer is lent to read: coefficients polynomial by polynomial, tails row by row, blinds polynomial by polynomial, column by column and row by row,
-- masks repetition by repetition, nonces leaf by leaf, and the salt
pub record Lent : Type 0 where
  pub coefficients : List ℕ
  pub tails : List ℕ
  pub blinds : List ℕ
  pub masks : List ℕ
  pub nonces : List ℕ
  pub salt : List ℕ

abbrev pub lent_of : List ℕ → List ℕ → List ℕ → List ℕ → List ℕ → List ℕ → Lent
lent_of coefficients tails blinds masks nonces salt = record {
  coefficients = coefficients;
  tails = tails;
  blinds = blinds;
  masks = masks;
  nonces = nonces;
  salt = salt;
}

-- ---- polynomials to rows (PCS)

-- column c = iν + t, from row 0 on: column t of polynomial i
abbrev pub column : Sizes → Lent → ℕ → List ℕ
column s l c = column_of s l.coefficients l.blinds (c / s.ν) (c % s.ν)

-- row j, column c
abbrev pub entry : Sizes → Lent → ℕ → ℕ → ℕ
entry s l j c = get_or (column s l c) j 0

-- at z the values of the polynomials from the column values: the sum over a polynomial's columns t of z^(tμ) times its value
unfoldable pub polynomial_values : Sizes → ℕ → List ℕ → List ℕ
polynomial_values s z answer = map (λ vs. eval_n vs (pow_n z s.μ)) (pieces s.ν s.w answer)

-- ---- rows to polynomials (LVCS)

-- row j with its ℓ tails
unfoldable pub extended : Sizes → Lent → ℕ → List ℕ
extended s l j = map (entry s l j) (up_from 0 (columns s)) ++ piece s.ℓ j l.tails

abbrev pub extended_rows : Sizes → Lent → List (List ℕ)
extended_rows s l = map (extended s l) (up_from 0 (rows s))

-- P_j, the one polynomial of degree at most d through them
abbrev pub row_polynomials : Sizes → Lent → List (List ℕ)
row_polynomials s l = map (interp_n (points s)) (extended_rows s l)

-- n places of the sum over j of z^j times row j
unfoldable pub combination : ℕ → ℕ → List (List ℕ) → List ℕ
combination n z rs = map (λ i. eval_n (column_n rs i) z) (up_from 0 n)

-- the evaluation answer to z: wν column values and ℓ tail values
abbrev pub evaluation_answer : Sizes → Lent → ℕ → List ℕ
evaluation_answer s l z = combination (width s) z (extended_rows s l)

-- ---- degree (DECS)

-- the masks M_k
abbrev pub mask_polynomial : Sizes → Lent → ℕ → List ℕ
mask_polynomial s l k = piece (width s) k l.masks

-- the batching answer R_k = M_k + γ_k P_0 + γ_k^2 P_1 + ..
abbrev pub batching_answer : Sizes → Lent → ℕ → ℕ → List ℕ
batching_answer s l k γ = combination (width s) γ (mask_polynomial s l k ∷ row_polynomials s l)

-- ---- the polynomials that rows hold

-- polynomial i that the rows ps hold: the sum over its columns t and all rows j of X^(tμ + j) times P_j(N + iν + t). With blinding rows j runs past μ: where
-- exponents of two columns meet, what stands there adds up.
unfoldable pub held_polynomial : Sizes → List (List ℕ) → ℕ → List ℕ
held_polynomial s ps i = stacked s.μ (map (values_at_n ps) (piece s.ν i (points s)))

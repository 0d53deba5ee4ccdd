-- The tests of what is lent: the products of sizes fit, and the tests are those of the definitions.
use mathlib.Core.Path.{◌≡◌, ap, ap₂, ◌∙◌}
use mathlib.Core.Bool.{Bool, ◌&&◌}
use mathlib.Core.List.{List, [], ◌∷◌}
use Prim.Native.Nat.{ℕ, ◌-◌, ◌*◌, ◌≤◌, ◌<◌}
use native.Mathlib.Nat.{mul-le-mul}
use native.Mathlib.Omega.{arith}
use lib.Dec.{eqb}
use lib.Pow.{pow_pos}
use lib.ListN.{length}
use Rattle.lists.specs.Tests.{every, every_before, every_two, every_three}
use Rattle.tree.specs.Leaf.{salt_length}
use Rattle.scheme.specs.Sizes.{Sizes, SizesInOrder, rows, coefficient_count, blind_count, leaves, width, record_values, elements}
use Rattle.scheme.specs.Layers.{Lent}
use Rattle.scheme.specs.Commit.{lent_ok, filled_ok}
use Rattle.scheme.proofs.Accepted.{leaves-high}

module _ (s : Sizes) (g : SizesInOrder s) where
  pub table_bound : leaves s * record_values s ≤ 278528
  table_bound = mul-le-mul {n₂ = 4096} {m₂ = 68} (leaves-high s g) (omega (arith, g.rows-high, g.η-high))

  pub leaves-low : 0 < leaves s
  leaves-low = pow_pos s.h

-- ---- the tests, as the code makes them

pub lent_tests_lem : (s : Sizes) (l : Lent) (v j b k n : ℕ) (r q p o z : Bool) → v ≡ coefficient_count s → j ≡ rows s → b ≡ blind_count s → k ≡ width s → n ≡ leaves s
    → z ≡ eqb (length l.nonces) (32 * n) && eqb (length l.salt) salt_length
    → o ≡ eqb (length l.masks) (s.η * k) && z
    → p ≡ eqb (length l.blinds) (s.w * b) && o
    → q ≡ eqb (length l.tails) (j * s.ℓ) && p
    → r ≡ eqb (length l.coefficients) (s.w * v) && q
    → r ≡ lent_ok s l
unfolding lent_ok
lent_tests_lem s l v j b k n r q p o z hv hj hb hk hn c d e f h =
    let ms : List Bool = eqb (length l.masks) (s.η * k) ∷ eqb (length l.nonces) (32 * n) ∷ eqb (length l.salt) salt_length ∷ [] in
    let bs : List Bool = eqb (length l.blinds) (s.w * b) ∷ ms in
    let ts : List Bool = eqb (length l.tails) (j * s.ℓ) ∷ bs in
    every_before (eqb (length l.coefficients) (s.w * v)) r q ts (every_before (eqb (length l.tails) (j * s.ℓ)) q p bs (every_before (eqb (length l.blinds) (s.w * b)) p o ms (every_three _ _ _ o z c d) e) f) h
    ∙ ap₂ (λ (x y : ℕ). every (eqb (length l.coefficients) (s.w * x) ∷ eqb (length l.tails) (y * s.ℓ) ∷ bs)) hv hj
    ∙ ap (λ (x : ℕ). every (eqb (length l.coefficients) (s.w * coefficient_count s) ∷ eqb (length l.tails) (rows s * s.ℓ) ∷ eqb (length l.blinds) (s.w * x) ∷ ms)) hb
    ∙ ap₂ (λ (x y : ℕ). every (eqb (length l.coefficients) (s.w * coefficient_count s) ∷ eqb (length l.tails) (rows s * s.ℓ) ∷ eqb (length l.blinds) (s.w * blind_count s)
    ∷ eqb (length l.masks) (s.η * x) ∷ eqb (length l.nonces) (32 * y) ∷ eqb (length l.salt) salt_length ∷ [])) hk hn

pub filled_tests : (s : Sizes) (table tree : List ℕ) (n k : ℕ) (r : Bool) → n ≡ leaves s → k ≡ record_values s
    → r ≡ eqb (length table) (n * k) && eqb (length tree) (32 * (2 * n - 1)) → r ≡ filled_ok s table tree
unfolding filled_ok
filled_tests s table tree n k r hn hk e =
    every_two _ _ r e ∙ ap₂ (λ (x y : ℕ). every (eqb (length table) (x * y) ∷ eqb (length tree) (32 * (2 * x - 1)) ∷ [])) hn hk

pub element_tests : (coefficients tails blinds masks : List ℕ) (a b c d r p o : Bool) → a ≡ elements coefficients → b ≡ elements tails → c ≡ elements blinds → d ≡ elements masks
    → o ≡ c && d → p ≡ b && o → r ≡ a && p → r ≡ every (elements coefficients ∷ elements tails ∷ elements blinds ∷ elements masks ∷ [])
element_tests coefficients tails blinds masks a b c d r p o x y z v e f g =
    every_before (elements coefficients) r p _ (every_three _ _ _ p o (e ∙ ap₂ ◌&&◌ z v) (f ∙ ap (λ (t : Bool). t && o) y)) (g ∙ ap (λ (t : Bool). t && p) x)

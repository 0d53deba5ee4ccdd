-- What is lent, as facts.
use mathlib.Core.Path.{◌≡◌}
use mathlib.Core.Bool.{true}
use mathlib.Core.List.{List}
use Prim.Native.Nat.{ℕ, ◌*◌, ◌<◌}
use native.Mathlib.Omega.{arith}
use lib.Dec.{ltb}
use lib.ListN.{length}
use borrow.Author.Tests.{eqb-true, lt-ltb}
use Rattle.algebra.specs.Prime.{q}
use Rattle.lists.specs.All.{all_imp}
use Rattle.algebra.specs.Numbers.{Elements}
use Rattle.tree.specs.Leaf.{salt_length}
use Rattle.scheme.specs.Sizes.{SizesInOrder, elements, Sizes, leaves, rows, coefficient_count, blind_count, width}
use Rattle.scheme.specs.Layers.{Lent}
use Rattle.scheme.specs.Commit.{lent_ok}
use Rattle.scheme.specs.Honest.{WellLent}
use Rattle.lists.specs.Tests.{every_true, true_all}
use Rattle.lists.specs.Bytes.{Small}
use Rattle.scheme.proofs.Accepted.{sizes_in_order, elements_below}

pub small : (xs : List ℕ) → Elements xs → Small xs
small xs h = all_imp (λ (x : ℕ) (l : x < q). omega arith) xs h

pub below_elements : (xs : List ℕ) → Elements xs → elements xs ≡ true
below_elements xs h = true_all (λ x. ltb x q) xs (all_imp (λ (x : ℕ) (l : x < q). lt-ltb x q l) xs h)

-- coefficients and blinds, as many as the sizes ask: enough to say where each entry of the matrix stands
pub record Counted (s : Sizes) (coefficients blinds : List ℕ) : Type 0 where
  pub sizes : SizesInOrder s
  pub c_length : length coefficients ≡ s.w * coefficient_count s
  pub b_length : length blinds ≡ s.w * blind_count s

-- what is lent, as facts
pub record LentFacts (s : Sizes) (l : Lent) : Type 0 where
  pub sizes : SizesInOrder s
  pub c_length : length l.coefficients ≡ s.w * coefficient_count s
  pub t_length : length l.tails ≡ rows s * s.ℓ
  pub b_length : length l.blinds ≡ s.w * blind_count s
  pub m_length : length l.masks ≡ s.η * width s
  pub n_length : length l.nonces ≡ 32 * leaves s
  pub s_length : length l.salt ≡ salt_length
  pub c_below : Elements l.coefficients
  pub t_below : Elements l.tails
  pub b_below : Elements l.blinds
  pub m_below : Elements l.masks

pub counted : {s : Sizes} {l : Lent} → LentFacts s l → Counted s l.coefficients l.blinds
counted r = record { sizes = r.sizes; c_length = r.c_length; b_length = r.b_length }

pub lent_facts : (s : Sizes) (l : Lent) → WellLent s l → LentFacts s l
unfolding lent_ok
lent_facts s l r =
    let t = every_true _ r.lengths in
    let e = every_true _ r.elements in
    record {
      sizes = sizes_in_order s r.sizes;
      c_length = eqb-true _ _ t.0;
      t_length = eqb-true _ _ t.1.0;
      b_length = eqb-true _ _ t.1.1.0;
      m_length = eqb-true _ _ t.1.1.1.0;
      n_length = eqb-true _ _ t.1.1.1.1.0;
      s_length = eqb-true _ _ t.1.1.1.1.1.0;
      c_below = elements_below _ e.0;
      t_below = elements_below _ e.1.0;
      b_below = elements_below _ e.1.1.0;
      m_below = elements_below _ e.1.1.1.0;
    }

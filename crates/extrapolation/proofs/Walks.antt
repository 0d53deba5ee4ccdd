-- Two walks: from values to differences, and from these to the values before.
use mathlib.Core.Path.{◌≡◌, sym, ap, ◌∙◌}
use mathlib.Core.Bool.{true, false}
use mathlib.Core.Logic.{◌⊎◌, inl, inr}
use mathlib.Core.List.{List}
use Prim.Native.Nat.{ℕ, suc, ◌+◌, ◌-◌, ◌*◌, ◌/◌, ◌≤◌, ◌<◌}
use native.Mathlib.Omega.{arith}
use lib.Dec.{ltb}
use lib.ListN.{length, length-map}
use borrow.Author.Tests.{ltb-true, ltb-false}
use Rattle.lists.specs.Choice.{tested}
use Rattle.algebra.specs.Field.{K, of, of_val, ◌⊗◌, ◌⊝◌, ⊗-zero}
use Rattle.algebra.specs.Poly.{eval}
use Rattle.algebra.specs.Lagrange.{sign, of_sub}
use Rattle.algebra.specs.Numbers.{eval_n, eval_n_below, of_eval_n, ofs, val_of_below}
use Rattle.algebra.specs.Differences.{difference, down, difference_end, clip, clip_below, clip_above, dual, dual_start, dual_end, dual_dual}
use Rattle.stepping.specs.Lanes.{entry, Lines, Ended}
use Rattle.extrapolation.specs.Written.{Walked, Walk}
use Rattle.loading.specs.Signs.{value_from, Signed}
use Rattle.extrapolation.specs.Extrapolated.{Through, Columns, Extrapolated}
use Rattle.loading.proofs.Signs.{LanesSigned}

-- ---- a polynomial's value at x, m steps below a = m + x
down_value : (p : List ℕ) (a m x : ℕ) → m + x ≡ a → down (ofs p) (of a) m ≡ of (eval_n p x)
unfolding down
down_value p a m x e = ap (λ (b : ℕ). eval (ofs p) (of b ⊝ of m)) (sym e) ∙ ap (eval (ofs p)) (of_sub m x) ∙ sym (of_eval_n p x)

-- ---- blocks of five lines for so many values
pub enough_lines : (width : ℕ) → width ≤ 5 * ((width + 4) / 5)
enough_lines width = omega arith

-- ---- two walks
module _ (src : List ℕ) (lanes width lines n lo stride : ℕ) (u₁ d₁ u₃ table : List ℕ) (pos : 0 < width) (fit : width ≤ lines)
    (first : LanesSigned src lanes width lines u₁) (walked : Walk lines u₁ 0 (0 + width) 4 0 lanes d₁)
    (second : LanesSigned d₁ lanes width lines u₃) (filled : Walk lines u₃ width (width + n) stride lo lanes table) where
  abbrev g : ℕ → ℕ → K
  g j = value_from src width j

  abbrev G : ℕ → ℕ → K
  G j = dual (clip width (g j))

  G_lines : Lines G lanes lines 0 lines u₁ 0
  unfolding Lines Signed
  G_lines j r k l a b e = first j l r k b e ∙ sym (dual_start k (clip width (g j)))

  G_ended : Ended G lanes lines
  unfolding Ended
  G_ended j i l = dual_end width (g j) lines fit i

  differences : (j k : ℕ) → j < lanes → k < width → entry d₁ ((width - suc k) * 4 + (0 + j)) ≡ (G j k).val
  unfolding Walk Walked
  differences j k l h = walked G G_lines G_ended (width - suc k) k j (omega arith) (omega arith) (omega arith) l

  loaded : (j k : ℕ) → j < lanes → k < width → value_from d₁ width j k ≡ G j k
  unfolding value_from
  loaded j k l h =
      let e : 4 * (width - suc k) + j ≡ (width - suc k) * 4 + (0 + j) = omega arith in
      ap (λ (m : ℕ). of (entry d₁ m)) e ∙ ap of (differences j k l h) ∙ of_val (G j k)

  module _ (p : ℕ → List ℕ) (through : Through p src width n lanes) where
    abbrev P : ℕ → ℕ → K
    P j = down (ofs (p j)) (of (n + (width - 1)))

    short : (j : ℕ) → j < lanes → (k : ℕ) → width ≤ k → length (ofs (p j)) ≤ k
    unfolding Through
    short j l k h = omega (arith, length-map (p j) of, (through j l).0)

    -- the values loaded are those of p j, from the last point down
    along : (j k : ℕ) → j < lanes → k < width → g j k ≡ P j k
    unfolding Through value_from
    along j k l h =
        (through j l).1 (width - suc k) (omega arith)
        ∙ sym (down_value (p j) (n + (width - 1)) k (n + (width - suc k)) (omega arith))

    P_lines : Lines P lanes lines 0 lines u₃ 0
    unfolding Lines Signed
    P_lines j r k l a b e = second j l r k b e ∙ go (tested (ltb k width))
      where
        go : (ltb k width ≡ true) ⊎ (ltb k width ≡ false) → sign k ⊗ clip width (value_from d₁ width j) k ≡ difference k (P j) 0
        go (inl h) =
            let s : k < width = ltb-true k width h in
            ap (λ (t : K). sign k ⊗ t) (clip_below width (value_from d₁ width j) k s ∙ loaded j k l s)
            ∙ dual_dual k width (g j) (P j) (λ m i. along j m l i) s
        go (inr h) =
            let s : width ≤ k = ltb-false k width h in
            ap (λ (t : K). sign k ⊗ t) (clip_above width (value_from d₁ width j) k s)
            ∙ ⊗-zero (sign k)
            ∙ sym (difference_end (ofs (p j)) (of (n + (width - 1))) k (short j l k s) 0)

    P_ended : Ended P lanes lines
    unfolding Ended
    P_ended j i l = difference_end (ofs (p j)) (of (n + (width - 1))) lines (short j l lines fit) i

    columns-filled : Columns p lanes n lo stride table
    unfolding Walk Walked Columns
    columns-filled x j l h =
        filled P P_lines P_ended x (width + n - suc x) j (omega arith) (omega arith) (omega arith) h
        ∙ ap (λ (t : K). t.val) (down_value (p j) (n + (width - 1)) (width + n - suc x) x (omega arith))
        ∙ val_of_below (eval_n (p j) x) (eval_n_below (p j) x)

  pub extrapolated : Extrapolated src width lanes n lo stride table
  unfolding Extrapolated
  extrapolated p through = columns-filled p through

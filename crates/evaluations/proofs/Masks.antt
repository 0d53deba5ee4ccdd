-- The values of masks, gathered as lanes.
use mathlib.Core.Path.{◌≡◌, sym, ap, ap₂, ◌∙◌, subst}
use mathlib.Core.List.{List}
use Prim.Native.Nat.{ℕ, ◌+◌, ◌-◌, ◌*◌, ◌≤◌, ◌<◌}
use native.Mathlib.Nat.{not-suc-le-zero}
use native.Mathlib.Decide.{ℕ_discrete}
use native.Mathlib.Omega.{arith}
use lib.ListN.{length, take, drop, length-drop}
use lib.Seq.{length-take-le}
use borrow.Rule.Slice.PartMut.{put_mid}
use Rattle.lists.specs.Parts.{put_before, put_within, put_length}
use Rattle.lists.specs.Pieces.{pieces, piece, length-pieces, pieces_at}
use Rattle.lists.specs.Tabulate.{tabulate}
use Rattle.algebra.specs.Numbers.{eval_n, values_at_n}
use Rattle.algebra.specs.Columns.{pow_n}
use Rattle.algebra.specs.Dot.{dots_of, dots_powers_n}
use Rattle.stepping.specs.Lanes.{entry}
use Rattle.algebra.specs.Values.{values_at_lem, length_values}
use Rattle.evaluations.specs.Values.{MaskLanes}

-- ---- as dot products with the powers
module _ (x k : ℕ) (ws : List ℕ) (e : ws ≡ tabulate k (pow_n x)) where
  pub mask_values : (n : ℕ) (masks out : List ℕ) → k * n ≤ length masks → out ≡ dots_of ws n masks → out ≡ values_at_n (pieces k n masks) x
  mask_values n masks out h f = f ∙ ap (λ (w : List ℕ). dots_of w n masks) e ∙ dots_powers_n k n masks x h

-- ---- point by point

-- the part that is lent: a place for each mask
pub part_count : (eta t : ℕ) (values : List ℕ) → 4 * t + 4 ≤ length values → eta ≤ 4 → length (take (4 * t + eta - 4 * t) (drop (4 * t) values)) ≡ eta
part_count eta t values fit few = length-take-le (4 * t + eta - 4 * t) (drop (4 * t) values) (omega (arith, length-drop (4 * t) values)) ∙ omega arith

pub part_values : (a b m n x : ℕ) (masks ys : List ℕ) → a ≡ b → m ≡ n → ys ≡ values_at_n (pieces a m masks) x → ys ≡ values_at_n (pieces b n masks) x
part_values a b m n x masks ys e f h = h ∙ ap₂ (λ (k c : ℕ). values_at_n (pieces k c masks) x) e f

pub masks_none : (first : ℕ) (masks : List ℕ) (width eta : ℕ) (values : List ℕ) → MaskLanes first masks width eta 0 values
unfolding MaskLanes
masks_none first masks width eta values t k l = absurd (not-suc-le-zero l)

values_count : (masks : List ℕ) (width eta t x : ℕ) (ys : List ℕ) → ys ≡ values_at_n (pieces width eta masks) x → length ys ≡ 4 * t + eta - 4 * t
values_count masks width eta t x ys h = ap length h ∙ length_values (pieces width eta masks) x ∙ length-pieces width eta masks ∙ omega arith

pub masks_length : (masks : List ℕ) (width eta t x : ℕ) (values ys : List ℕ) → 4 * t + 4 ≤ length values → eta ≤ 4 → ys ≡ values_at_n (pieces width eta masks) x
    → length (put_mid (4 * t) (4 * t + eta - 4 * t) values ys) ≡ length values
masks_length masks width eta t x values ys fit few h = put_length (4 * t) (4 * t + eta - 4 * t) values ys (omega arith) (values_count masks width eta t x ys h)

pub masks_turn : (first : ℕ) (masks : List ℕ) (width eta t x : ℕ) (values ys : List ℕ) → 4 * t + 4 ≤ length values → eta ≤ 4 → x ≡ first + t → ys ≡ values_at_n (pieces width eta masks) x
    → MaskLanes first masks width eta t values → MaskLanes first masks width eta (t + 1) (put_mid (4 * t) (4 * t + eta - 4 * t) values ys)
unfolding MaskLanes
masks_turn first masks width eta t x values ys fit few hx hy old i k l h = go (ℕ_discrete i t)
  where
    len : length ys ≡ 4 * t + eta - 4 * t
    len = values_count masks width eta t x ys hy

    go : Dec (i ≡ t) → entry (put_mid (4 * t) (4 * t + eta - 4 * t) values ys) (4 * i + k) ≡ eval_n (piece width k masks) (first + i)
    go (yes e) =
        ap (λ (n : ℕ). entry (put_mid (4 * t) (4 * t + eta - 4 * t) values ys) (4 * n + k)) e
        ∙ put_within (4 * t) (4 * t + eta - 4 * t) values ys (omega arith) len k 0 (omega arith)
        ∙ ap (λ (v : List ℕ). entry v k) hy
        ∙ values_at_lem (pieces width eta masks) x k (subst (λ (n : ℕ). k < n) (sym (length-pieces width eta masks)) h)
        ∙ ap₂ (λ (p : List ℕ) (z : ℕ). eval_n p z) (pieces_at width eta k masks h) (hx ∙ ap (λ (n : ℕ). first + n) (sym e))
    go (no e) = put_before (4 * t) (4 * t + eta - 4 * t) values ys (omega arith) len (4 * i + k) 0 (omega arith) ∙ old i k (omega arith) h

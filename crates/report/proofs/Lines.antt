-- The lines of one point, and of all points: one more each turn.
use mathlib.Core.Path.{◌≡◌, refl, sym, ap, ◌∙◌}
use mathlib.Core.List.{List, [], ◌++◌, map, flatten, append_assoc, append-nil}
use Prim.Native.Nat.{ℕ, zero, suc, ◌+◌, ◌*◌, ◌≤◌, ◌<◌}
use native.Mathlib.Nat.{add-zero, suc-add, add-suc, zero-add, mul-suc, mul_assoc, mul_comm, mul-le-mul_left}
use native.Mathlib.Numerals.{add-one}
use native.Mathlib.Omega.{arith}
use lib.ListN.{length, get_or, length-append}
use Rattle.lists.specs.Range.{up_from}
use Rattle.lists.specs.Bytes.{Bytes}
use Rattle.scheme.specs.Program.{value_line, value_lines}
use Rattle.report.specs.Written.{written, point_lines}
use Rattle.report.proofs.Writing.{written_more, left_over}
use Rattle.report.proofs.Line.{length_line}

-- ---- texts of consecutive numbers, put together

run_next : (f : ℕ → Bytes) (a n : ℕ) → flatten (map f (up_from a (suc n))) ≡ flatten (map f (up_from a n)) ++ f (a + n)
unfolding up_from flatten
run_next f a zero = append-nil (f a) ∙ ap f (sym (add-zero a))
run_next f a (suc n) =
    ap (λ (t : Bytes). f a ++ t) (run_next f (suc a) n ∙ ap (λ (k : ℕ). flatten (map f (up_from (suc a) n)) ++ f k) (suc-add a n ∙ sym (add-suc a n)))
    ∙ sym (append_assoc (f a) (flatten (map f (up_from (suc a) n))) (f (a + suc n)))

run_more : (f : ℕ → Bytes) (n : ℕ) → flatten (map f (up_from 0 (n + 1))) ≡ flatten (map f (up_from 0 n)) ++ f n
run_more f n = ap (λ (k : ℕ). flatten (map f (up_from 0 k))) (add-one n) ∙ run_next f 0 n ∙ ap (λ (k : ℕ). flatten (map f (up_from 0 n)) ++ f k) (zero-add n)

run_short : (f : ℕ → Bytes) (k n : ℕ) → ((i : ℕ) → i < n → length (f i) ≤ k) → length (flatten (map f (up_from 0 n))) ≤ k * n
unfolding up_from flatten
run_short f k zero h = omega arith
run_short f k (suc n) h =
    let e = run_next f 0 n in
    omega (arith, ap length (run_next f 0 n), length-append (flatten (map f (up_from 0 n))) (f (0 + n)), run_short f k n (λ i l. h i (omega arith)), h (0 + n) (omega arith), mul-suc k n)

-- ---- the lines of a point

pub point_none : (p w : ℕ) (vs : List ℕ) → [] ≡ point_lines p w vs 0
unfolding point_lines up_from flatten
point_none p w vs = refl

point_more : (p w : ℕ) (vs : List ℕ) (i : ℕ) → point_lines p w vs (i + 1) ≡ point_lines p w vs i ++ value_line p i (get_or vs (p * w + i) 0)
unfolding point_lines
point_more p w vs i = run_more (λ i. value_line p i (get_or vs (p * w + i) 0)) i

point_short : (p w : ℕ) (vs : List ℕ) (n : ℕ) → p < 9 → length (point_lines p w vs n) ≤ 24 * n
unfolding point_lines
point_short p w vs n l = run_short (λ i. value_line p i (get_or vs (p * w + i) 0)) 24 n (λ i h. length_line p i (get_or vs (p * w + i) 0) l)

module _ (out : Bytes) (at p w : ℕ) (vs : List ℕ) (i next : ℕ) (o : Bytes) (small : p < 9) (l : i < w) (room : at + 24 * w ≤ length out)
    (e : (next, o) ≡ written out at (point_lines p w vs i)) where
  pub point_room : next + 24 ≤ length o
  point_room = left_over out at (point_lines p w vs i) next o (24 * w) 24 room (omega (arith, point_short p w vs i small)) e

  pub point_turn : (z : ℕ × Bytes) → z ≡ written o next (value_line p i (get_or vs (p * w + i) 0)) → z ≡ written out at (point_lines p w vs (i + 1))
  point_turn z f =
      written_more out at (point_lines p w vs i) _ next o z (omega (arith, point_short p w vs i small)) e f ∙ ap (written out at) (sym (point_more p w vs i))

-- ---- the lines of all points

pub values_none : (w : ℕ) (vs : List ℕ) → [] ≡ value_lines 0 w vs
unfolding value_lines up_from flatten
values_none w vs = refl

values_more : (p w : ℕ) (vs : List ℕ) → value_lines (p + 1) w vs ≡ value_lines p w vs ++ point_lines p w vs w
unfolding value_lines point_lines
values_more p w vs = run_more (λ p. flatten (map (λ i. value_line p i (get_or vs (p * w + i) 0)) (up_from 0 w))) p

values_short : (m w : ℕ) (vs : List ℕ) → m ≤ 9 → length (value_lines m w vs) ≤ 24 * (w * m)
unfolding value_lines point_lines
values_short m w vs l =
    let e : 24 * w * m ≡ 24 * (w * m) = mul_assoc 24 w m in
    let h = run_short (λ p. flatten (map (λ i. value_line p i (get_or vs (p * w + i) 0)) (up_from 0 w))) (24 * w) m (λ p h. point_short p w vs w (omega arith)) in
    omega (arith, e, h)

-- points below p, and point p
pub values_fit : (w p m : ℕ) → p < m → p * w + w ≤ w * m
values_fit w p m l = omega (arith, mul-suc w p, mul-le-mul_left w l, mul_comm p w)

module _ (out : Bytes) (at m w : ℕ) (vs : List ℕ) (p next : ℕ) (o : Bytes) (few : m ≤ 8) (l : p < m) (room : at + 24 * (w * m) ≤ length out)
    (e : (next, o) ≡ written out at (value_lines p w vs)) where
  pub values_room : next + 24 * w ≤ length o
  values_room = left_over out at (value_lines p w vs) next o (24 * (w * m)) (24 * w) room (omega (arith, values_short p w vs (omega arith), values_fit w p m l, mul_comm p w)) e

  pub values_turn : (z : ℕ × Bytes) → z ≡ written o next (point_lines p w vs w) → z ≡ written out at (value_lines (p + 1) w vs)
  values_turn z f =
      written_more out at (value_lines p w vs) _ next o z (omega (arith, values_short p w vs (omega arith), values_fit w p m l, mul_comm p w)) e f ∙ ap (written out at) (sym (values_more p w vs))

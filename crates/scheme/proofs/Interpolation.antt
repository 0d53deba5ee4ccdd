-- Interpolation over any points: what its verdict says, and that verdict 0 gives the one polynomial.
use mathlib.Core.Path.{◌≡◌, refl, sym, ◌∙◌, ap, subst}
use mathlib.Core.Logic.{◌≢◌, ⊎_elim}
use mathlib.Core.Bool.{Bool, true, false, not}
use mathlib.Core.List.{List, [], ◌∷◌}
use Prim.Native.Nat.{ℕ, ◌+◌, ◌≤◌}
use native.Mathlib.Nat.{pos_of_ne-zero, suc-ne-zero}
use native.Mathlib.Omega.{arith}
use lib.Dec.{eqb}
use lib.ListN.{length}
use borrow.Author.Tests.{eqb-true, eq-eqb, ne_eqb, le-leb, not-false}
use Rattle.lists.specs.Choice.{pick, tested, both_true}
use Rattle.lists.specs.All.{Distinct, distinct_at}
use Rattle.lists.specs.Range.{up_from, length-up_from, up_from_below, up_from_distinct}
use Rattle.lists.specs.Tests.{verdict_of, Numbered, passed, pass, verdict_hit, verdict_miss, verdict_go, verdict_stop, verdict_other, every_true, true_every, within, within_low, within_high}
use Rattle.lists.specs.Differ.{differ, differ_true, true_differ, EqualPair, differ_false, false_differ}
use Rattle.algebra.specs.Prime.{q}
use Rattle.algebra.specs.Numbers.{Elements, interp_n, interp_n_below, interp_n-length, interp_n_values}
use Rattle.algebra.specs.Cases.{interp_n_is}
use Rattle.scheme.specs.Sizes.{elements}
use Rattle.scheme.specs.Commit.{after}
use Rattle.scheme.specs.Interpolate.{most_samples, samples_tests, interpolation_tests, interpolation_verdict, interpolating, OnePolynomial}
use Rattle.scheme.proofs.Accepted.{elements_below}
use Rattle.scheme.proofs.Lent.{below_elements}

-- ---- the tests as facts

pub record Sampled (points values room : List ℕ) : Type 0 where
  pub some : 1 ≤ length points
  pub few : length points ≤ most_samples
  pub values_count : length values ≡ length points
  pub room_count : length room ≡ length points
  pub points_below : Elements points
  pub values_below : Elements values

module _ (points values room : List ℕ) where
  numbered : Numbered (samples_tests points values room)
  unfolding samples_tests
  numbered = omega arith

  pub sampled : verdict_of (samples_tests points values room) ≡ 0 → Sampled points values room
  unfolding samples_tests
  sampled e =
      let t = passed (samples_tests points values room) numbered e in
      let n : within 1 most_samples (length points) ≡ true = not-false _ t.0 in
      let l = every_true (eqb (length values) (length points) ∷ eqb (length room) (length points) ∷ []) (not-false _ t.1.0) in
      let b = every_true (elements points ∷ elements values ∷ []) (not-false _ t.1.1.0) in
      record {
        some = within_low 1 most_samples (length points) n;
        few = within_high 1 most_samples (length points) n;
        values_count = eqb-true _ _ l.0;
        room_count = eqb-true _ _ l.1.0;
        points_below = elements_below points b.0;
        values_below = elements_below values b.1.0;
      }

  pub samples_pass : Sampled points values room → verdict_of (samples_tests points values room) ≡ 0
  unfolding samples_tests
  samples_pass s =
      pass (samples_tests points values room) (
        ap not (both_true _ _ (le-leb 1 (length points) s.some) (le-leb (length points) most_samples s.few)),
        (
          ap not (true_every (eqb (length values) (length points) ∷ eqb (length room) (length points) ∷ []) (eq-eqb _ _ s.values_count, (eq-eqb _ _ s.room_count, tt))),
          (ap not (true_every (elements points ∷ elements values ∷ []) (below_elements points s.points_below, (below_elements values s.values_below, tt))), tt),
        ),
      )

  -- ---- the verdict after them

  pub verdict_lent : (v : ℕ) → v ≡ verdict_of (samples_tests points values room) → v ≢ 0 → interpolation_verdict points values room ≡ v
  unfolding interpolation_verdict interpolation_tests
  verdict_lent v e n = verdict_stop (samples_tests points values room) _ v (pos_of_ne-zero n) (sym e)

  verdict_on : verdict_of (samples_tests points values room) ≡ 0 → interpolation_verdict points values room ≡ verdict_of ((13, not (differ points)) ∷ [])
  unfolding interpolation_verdict interpolation_tests
  verdict_on e = verdict_go (samples_tests points values room) ((13, not (differ points)) ∷ []) numbered e

  pub verdict_equal : verdict_of (samples_tests points values room) ≡ 0 → differ points ≡ false → interpolation_verdict points values room ≡ 13
  verdict_equal e d = verdict_on e ∙ verdict_hit 13 (not (differ points)) [] (ap not d)

  pub verdict_taken : verdict_of (samples_tests points values room) ≡ 0 → differ points ≡ true → interpolation_verdict points values room ≡ 0
  unfolding verdict_of
  verdict_taken e d = verdict_on e ∙ verdict_miss 13 (not (differ points)) [] (ap not d)

  taken : interpolation_verdict points values room ≡ 0 → Sampled points values room × Distinct points
  unfolding interpolation_verdict interpolation_tests samples_tests
  taken e =
      let t = passed (interpolation_tests points values room) (omega arith) e in
      (sampled (pass (samples_tests points values room) (t.0, (t.1.0, (t.1.1.0, tt)))), differ_true points (not-false _ t.1.1.1.0))

  -- ---- what is returned

  pub left : (v : ℕ) → interpolation_verdict points values room ≡ v → v ≢ 0 → (v, room) ≡ interpolating points values room
  unfolding interpolating
  left v e n =
      ap (λ (b : Bool). (v, pick b (interp_n points values) room)) (sym (ne_eqb v 0 n))
      ∙ ap (λ (x : ℕ). (x, after x (interp_n points values) room)) (sym e)

  pub filled : (r : List ℕ) → interpolation_verdict points values room ≡ 0 → r ≡ interp_n points values → (0, r) ≡ interpolating points values room
  unfolding interpolating
  filled r e f = ap (λ (t : List ℕ). (0, t)) f ∙ ap (λ (x : ℕ). (x, after x (interp_n points values) room)) (sym e)

-- ---- the one polynomial

pub one_polynomial : (points values : List ℕ) → Elements points → Distinct points → Elements values → length values ≡ length points → OnePolynomial points values (interp_n points values)
one_polynomial points values bx d by l = record {
  count = interp_n-length points values l;
  below = interp_n_below points values;
  takes = interp_n_values points values bx d by l;
  only = λ r m b e. sym (interp_n_is points values r bx d by b m l e);
}

-- verdict 0: the slice holds the one polynomial of degree below the number of points that takes the values at the points
pub interpolated : (points values room : List ℕ) → (interpolating points values room).0 ≡ 0 → OnePolynomial points values (interpolating points values room).1
unfolding interpolating
interpolated points values room e =
    let t = taken points values room e in
    subst (λ (p : List ℕ). OnePolynomial points values p) (ap (λ (v : ℕ). after v (interp_n points values) room) (sym e))
    (one_polynomial points values t.0.points_below t.1 t.0.values_below t.0.values_count)

-- ---- equal points

-- 13 says that two points are equal, and points that pass the other tests and of which two are equal are a 13
pub equal_points : (points values room : List ℕ) → (interpolating points values room).0 ≡ 13 → EqualPair points
unfolding interpolating interpolation_verdict interpolation_tests samples_tests
equal_points points values room e =
    ⊎_elim
    (λ (d : differ points ≡ true). absurd (verdict_other 13 (interpolation_tests points values room) (λ z. suc-ne-zero 12 z) (refl, (refl, (refl, (ap not d, tt)))) e))
    (λ (d : differ points ≡ false). differ_false points d)
    (tested (differ points))

pub points_equal : (points values room : List ℕ) → Sampled points values room → EqualPair points → (interpolating points values room).0 ≡ 13
unfolding interpolating
points_equal points values room s h = verdict_equal points values room (samples_pass points values room s) (false_differ points h)

-- ---- consecutive points

pub consecutive_never_13 : (first n : ℕ) (values room : List ℕ) → (interpolating (up_from first n) values room).0 ≢ 13
consecutive_never_13 first n values room e =
    let h : EqualPair (up_from first n) = equal_points (up_from first n) values room e in
    distinct_at 0 (up_from first n) (up_from_distinct first n) h.0 h.1 h.2 h.3 (sym h.4)

-- where interpolation over consecutive points may be called, this one is taken and fills the same
pub consecutive_alike : (first n : ℕ) (values room : List ℕ) → 1 ≤ n → n ≤ most_samples → first + n ≤ q → Elements values → length values ≡ n → length room ≡ n
    → interpolating (up_from first n) values room ≡ (0, interp_n (up_from first n) values)
consecutive_alike first n values room some few fits by lv lr =
    let l : length (up_from first n) ≡ n = length-up_from first n in
    let s : Sampled (up_from first n) values room = record {
      some = omega arith;
      few = omega arith;
      values_count = lv ∙ sym l;
      room_count = lr ∙ sym l;
      points_below = up_from_below first n q fits;
      values_below = by;
    } in
    sym (filled (up_from first n) values room _ (verdict_taken (up_from first n) values room (samples_pass (up_from first n) values room s) (true_differ (up_from first n) (up_from_distinct first n))) refl)

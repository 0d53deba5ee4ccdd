-- The values of lanes with changing signs, as they are loaded.
use mathlib.Core.Path.{◌≡◌, refl, sym, ap, ◌∙◌, subst}
use mathlib.Core.Logic.{◌≢◌}
use mathlib.Core.List.{List}
use Prim.Native.Nat.{ℕ, zero, suc, ◌+◌, ◌-◌, ◌*◌, ◌/◌, ◌%◌, ◌≤◌, ◌<◌}
use native.Mathlib.Nat.{not-suc-le-zero, add-suc, suc-add, div-add-mod}
use native.Mathlib.Decide.{ℕ_discrete}
use native.Mathlib.Omega.{arith}
use lib.ListN.{length, set}
use Rattle.algebra.specs.Field.{K, of, of_path, of_neg, of_zero, same_mod, ◌⊗◌, ⊖, 𝟏, dv, ring, dif_path, ⊗-zero}
use Rattle.algebra.specs.Lagrange.{sign}
use Rattle.algebra.specs.Differences.{clip, clip_below, clip_above}
use Rattle.stepping.specs.Lanes.{limit, entry, Small, KeptLanes}
use Rattle.loading.specs.Signs.{value_from, Signed}
use Rattle.stepping.proofs.Kernel.{below, put_here, put_else, put_lane}

-- ---- signs

sign_double : (h : ℕ) → sign (h + h) ≡ 𝟏
unfolding sign
sign_double zero = refl
sign_double (suc h) = ap sign (suc-add h (suc h) ∙ ap suc (add-suc h h)) ∙ twice (sign (h + h)) ∙ sign_double h
  where
    twice : (s : K) → ⊖ (⊖ s) ≡ s
    twice s = rw (← dv s) (simp ring (dif_path _ _ _ _ (omega arith)))

pub signed_even : (v k : ℕ) → k % 2 ≡ 0 → of v ≡ sign k ⊗ of v
signed_even v k e =
    let h : k ≡ k / 2 + k / 2 = omega (arith, div-add-mod k 2) in
    sym (ap (λ (s : K). s ⊗ of v) (ap sign h ∙ sign_double (k / 2)) ∙ one (of v))
  where
    one : (a : K) → 𝟏 ⊗ a ≡ a
    one a = rw (← dv a) (simp ring (dif_path _ _ _ _ (omega arith)))

pub signed_odd : (v k : ℕ) → v < 4294967296 → k % 2 ≢ 0 → of (8589934582 - v) ≡ sign k ⊗ of v
unfolding sign
signed_odd v k l e =
    let h : k ≡ suc (k / 2 + k / 2) = omega (arith, div-add-mod k 2, e) in
    of_path (8589934582 - v) (4294967290 * v) (same_mod (8589934582 - v) (4294967290 * v) v 2 (omega arith))
    ∙ sym (of_neg v)
    ∙ sym (ap (λ (s : K). s ⊗ of v) (ap sign h ∙ ap ⊖ (sign_double (k / 2))) ∙ minus (of v))
  where
    minus : (a : K) → ⊖ 𝟏 ⊗ a ≡ ⊖ a
    minus a = rw (← dv a) (simp ring (dif_path _ _ _ _ (omega arith)))

-- ---- a value

pub value_inside : (src : List ℕ) (width j k r : ℕ) → k < width → of r ≡ sign k ⊗ of (entry src (4 * (width - 1 - k) + j)) → of r ≡ sign k ⊗ clip width (value_from src width j) k
unfolding value_from
value_inside src width j k r l e =
    let s : width - 1 - k ≡ width - suc k = omega arith in
    e ∙ ap (λ (m : ℕ). sign k ⊗ of (entry src (4 * m + j))) s ∙ ap (λ (t : K). sign k ⊗ t) (sym (clip_below width (value_from src width j) k l))

pub value_outside : (src : List ℕ) (width j k : ℕ) → width ≤ k → of 0 ≡ sign k ⊗ clip width (value_from src width j) k
value_outside src width j k l = of_zero ∙ sym (ap (λ (t : K). sign k ⊗ t) (clip_above width (value_from src width j) k l) ∙ ⊗-zero (sign k))

-- ---- a lane

pub record LoadInv (src : List ℕ) (width lines j : ℕ) (u₀ u : List ℕ) (r : ℕ) : Type 0 where
  pub small : Small u
  pub kept : KeptLanes u₀ j u
  pub signed : Signed src width lines r j u

pub load_none : (src : List ℕ) (width lines j : ℕ) (u : List ℕ) → Small u → LoadInv src width lines j u u 0
unfolding KeptLanes Signed
load_none src width lines j u s = record {
  small = s;
  kept = λ n i l h. refl;
  signed = λ r k l. absurd (not-suc-le-zero l);
}

pub load_turn : (src : List ℕ) (width lines j : ℕ) (u₀ u : List ℕ) (r v : ℕ) → j < 4 → r < lines → 4 * lines ≤ length u → LoadInv src width lines j u₀ u r
    → (of v ≡ sign (lines - 1 - r) ⊗ clip width (value_from src width j) (lines - 1 - r)) × (v < limit)
    → LoadInv src width lines j u₀ (set u (4 * r + j) v) (r + 1)
unfolding KeptLanes Signed Small
load_turn src width lines j u₀ u r v b l fit inv e = record {
  small = below u (4 * r + j) v inside e.1 inv.small;
  kept = λ n i a h. put_lane u r j v inside b n i a h ∙ inv.kept n i a h;
  signed = λ m k a z. one m k a z (ℕ_discrete m r);
}
  where
    inside : 4 * r + j < length u
    inside = omega arith

    one : (m k : ℕ) → m < r + 1 → m + suc k ≡ lines → Dec (m ≡ r) → of (entry (set u (4 * r + j) v) (4 * m + j)) ≡ sign k ⊗ clip width (value_from src width j) k
    one m k a z (yes d) =
        let s : lines - 1 - r ≡ k = omega arith in
        ap of (put_here u r j v inside b m d) ∙ e.0 ∙ ap (λ (n : ℕ). sign n ⊗ clip width (value_from src width j) n) s
    one m k a z (no d) = ap of (put_else u r j v inside b m d) ∙ inv.signed m k (omega arith) z

-- ---- all lanes

abbrev pub LanesSigned : List ℕ → ℕ → ℕ → ℕ → List ℕ → Type 0
LanesSigned src lanes width lines u = (j : ℕ) → j < lanes → Signed src width lines lines j u

pub lanes_turn : (src : List ℕ) (width lines : ℕ) (u u' : List ℕ) (j : ℕ) → j < 4 → LanesSigned src j width lines u → KeptLanes u j u'
    → Signed src width lines lines j u' → LanesSigned src (j + 1) width lines u'
unfolding KeptLanes Signed
lanes_turn src width lines u u' j b h kept own i l = go (ℕ_discrete i j)
  where
    go : Dec (i ≡ j) → Signed src width lines lines i u'
    go (yes e) = subst (λ (m : ℕ). Signed src width lines lines m u') (sym e) own
    go (no e) = λ r k a z. ap of (kept r i (omega arith) e) ∙ h i (omega arith) r k a z

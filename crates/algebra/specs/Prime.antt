-- The modulus q = 4294967291, and that no number from 2 below q divides it.
use Rattle.std.specs.Prelude.{◌≡◌, refl, ◌≢◌, Bool, true, false, ℕ, zero, suc, ◌+◌, ◌*◌, ◌-◌, ◌/◌, ◌%◌, ◌≤◌, ◌<◌, T, ltb}
use Rattle.std.proofs.Common.{sym, ap, subst, ⊎_elim, mod-lt, div-add-mod', not-suc-le-zero, sub-add_cancel, lt_of_mul-lt-mul_right, lt_of_le_of_lt, mul-le-mul_left, one-mul, le_refl, add-sub_of_le, div-le_self, ne_of_gt, le_trans, arith, ltb→lt, lit<}
use Rattle.std.proofs.Math.Nat.{le-suc_iff, mul-mod_right, suc_inj}
use Rattle.std.proofs.Math.Numerals.{add-two}
use Rattle.std.proofs.Math.Decide.{dec_le}

abbrev pub q : ℕ
q = 4294967291

-- both tests hold, computed
unfoldable pub both : Bool → Bool → Bool
both true b = b
both false b = false

-- no number from 2 to n + 1 divides q
trial : ℕ → Bool
trial zero = true
trial (suc n) = both (ltb 0 (q % suc (suc n))) (trial n)

trial_ok : T (trial 65535)
unfolding trial both
trial_ok = tt

pub both_left : (a b : Bool) → T (both a b) → T a
unfolding both
both_left true b t = tt
both_left false b t = absurd t

pub both_right : (a b : Bool) → T (both a b) → T b
unfolding both
both_right true b t = t
both_right false b t = absurd t

step : (n : ℕ) → T (ltb 0 (q % suc (suc n))) → 0 < q % (n + 2)
step n t = rw add-two (ltb→lt 0 (q % suc (suc n)) t)

trial_at : (n k : ℕ) → T (trial n) → k < n → 0 < q % (k + 2)
unfolding trial
trial_at zero k t h = absurd (not-suc-le-zero h)
trial_at (suc n) k t h =
    ⊎_elim (λ (h' : suc k ≤ n). trial_at n k (both_right (ltb 0 (q % suc (suc n))) (trial n) t) h')
    (λ (e : suc k ≡ suc n). subst (λ (m : ℕ). 0 < q % (m + 2)) (suc_inj (sym e)) (step n (both_left _ (trial n) t))) (le-suc_iff.0 h)

-- no number from 2 to 65536 divides q
small : (d : ℕ) → 2 ≤ d → d ≤ 65536 → 0 < q % d
small d l u =
    subst (λ (m : ℕ). 0 < q % m) (sub-add_cancel l)
    (trial_at 65535 (d - 2) trial_ok (omega arith))

-- no number from 2 below q divides q
pub prime : (d : ℕ) → 2 ≤ d → d < q → q % d ≢ 0
prime d l u e = go (dec_le d 65536)
  where
    c : ℕ
    c = q / d

    dc : c * d ≡ q
    dc = omega (arith, div-add-mod' q d)

    go : Dec (d ≤ 65536) → ⊥
    go (yes h) = omega (arith, small d l h)
    go (no h) =
        let high : 65537 ≤ d = omega arith in
        let c2 : 2 ≤ c = lt_of_mul-lt-mul_right d (subst (λ (m : ℕ). 1 * d < m) (sym dc) (subst (λ (m : ℕ). m < q) (sym (one-mul d)) u)) in
        let cs : c < 65537 = lt_of_mul-lt-mul_right 65537 (lt_of_le_of_lt (mul-le-mul_left c high) (subst (λ (m : ℕ). m < 65537 * 65537) (sym dc) (lit< tt))) in
        ne_of_gt (small c c2 (omega arith)) (subst (λ (m : ℕ). m % c ≡ 0) dc (mul-mod_right c d))

expand : (a c d r s : ℕ) → c + d ≡ q → c * a + r ≡ q → a * (d * s) + q * s ≡ q * (a * s) + r * s
expand a c d r s g e = omega (arith, ap (λ (m : ℕ). m * s) e, ap (λ (m : ℕ). m * (a * s)) g)

mod_one : (x y z w : ℕ) → x + q * y ≡ q * z + w → w % q ≡ 1 → x % q ≡ 1
mod_one x y z w e f = omega arith

-- an inverse s of r = q - c a gives one of a
pub inverse_by_remainder : (a c r s : ℕ) → c * a + r ≡ q → 0 < a → c ≤ q → (r * s) % q ≡ 1 → (a * ((q - c) * s)) % q ≡ 1
inverse_by_remainder a c r s e h w f =
    let d : ℕ = q - c in
    let g : c + d ≡ q = add-sub_of_le w in
    let k : a * (d * s) + q * s ≡ q * (a * s) + r * s = expand a c d r s g e in
    mod_one (a * (d * s)) s (a * s) (r * s) k f

-- an inverse modulo q, by the remainders q % a, q % (q % a), ..
unfoldable pub inverse_chain : (n a : ℕ) → a ≤ n → 0 < a → a < q → (b : ℕ) × ((a * b) % q ≡ 1)
inverse_chain zero a h l u = absurd (not-suc-le-zero (le_trans l h))
inverse_chain (suc n) a h l u = one_step (dec_le a 1) (λ k v w. inverse_chain n (q % a) k v w)
  where
    one_step : Dec (a ≤ 1) → (q % a ≤ n → 0 < q % a → q % a < q → (b : ℕ) × ((q % a * b) % q ≡ 1)) → (b : ℕ) × ((a * b) % q ≡ 1)
    one_step (yes k) f = (1, let e : a ≡ 1 = omega arith in subst (λ (m : ℕ). (m * 1) % q ≡ 1) (sym e) refl)
    one_step (no k) f =
        let r : q % a < a = mod-lt q l in
        let z : q % a ≢ 0 = prime a (omega arith) u in
        let t = f (omega arith) (omega arith) (omega arith) in
        let c : q / a * a + q % a ≡ q = div-add-mod' q a in
        let w : q / a ≤ q = div-le_self q a in
        ((q - q / a) * t.0, inverse_by_remainder a (q / a) (q % a) t.0 c l w t.1)

unfoldable pub inverse : (a : ℕ) → 0 < a → a < q → (b : ℕ) × ((a * b) % q ≡ 1)
inverse a l u = inverse_chain a a (le_refl a) l u

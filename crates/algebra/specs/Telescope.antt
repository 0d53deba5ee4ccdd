-- A sum over columns in which what each column adds is taken off the next.
use Rattle.std.specs.Prelude.{◌≡◌, map, ℕ, zero, suc, ◌+◌, ◌≤◌, ◌<◌}
use Rattle.std.proofs.Common.{sym, ap, ◌∙◌, add-zero, arith}
use Rattle.lists.specs.Range.{up_from}
use Rattle.algebra.specs.Field.{K, ◌⊕◌, ◌⊗◌, 𝟎, 𝟏, dv, ring, dif_path}
use Rattle.algebra.specs.Poly.{eval}
use Rattle.algebra.specs.Rows.{power}

none_left : (p : K) → 𝟎 ⊕ p ≡ 𝟎 ⊕ 𝟏 ⊗ p
none_left p = rw (← dv p) (simp ring (dif_path _ _ _ _ (omega arith)))

pub first_out : (v w s p : K) → (v ⊕ w ⊗ s) ⊕ p ≡ (v ⊕ p) ⊕ w ⊗ s
first_out v w s p = rw (← dv v, ← dv w, ← dv s, ← dv p) (simp ring (dif_path _ _ _ _ (omega arith)))

carried_on : (a w s p : K) → (a ⊕ w ⊗ p) ⊕ w ⊗ s ≡ a ⊕ w ⊗ (s ⊕ p)
carried_on a w s p = rw (← dv a, ← dv w, ← dv s, ← dv p) (simp ring (dif_path _ _ _ _ (omega arith)))

last_out : (a w e m p : K) → a ⊕ w ⊗ (e ⊕ m ⊗ p) ≡ (a ⊕ w ⊗ e) ⊕ (w ⊗ m) ⊗ p
last_out a w e m p = rw (← dv a, ← dv w, ← dv e, ← dv m, ← dv p) (simp ring (dif_path _ _ _ _ (omega arith)))

-- where v_t = a_t - p_t + w p_(t+1), the sum of w^t v_t is that of w^t a_t, but for the first p and the last
pub telescope : (a p v : ℕ → K) (w : K) (m n t : ℕ) → t + n ≤ m → ((k : ℕ) → k < m → v k ⊕ p k ≡ a k ⊕ w ⊗ p (suc k))
    → eval (map v (up_from t n)) w ⊕ p t ≡ eval (map a (up_from t n)) w ⊕ power w n ⊗ p (t + n)
unfolding eval up_from power
telescope a p v w m zero t l h = none_left (p t) ∙ ap (λ (k : ℕ). 𝟎 ⊕ 𝟏 ⊗ p k) (sym (add-zero t))
telescope a p v w m (suc n) t l h =
    let s : K = eval (map v (up_from (suc t) n)) w in
    let e : suc t + n ≡ t + suc n = omega arith in
    first_out (v t) w s (p t)
    ∙ ap (λ (x : K). x ⊕ w ⊗ s) (h t (omega arith))
    ∙ carried_on (a t) w s (p (suc t))
    ∙ ap (λ (x : K). a t ⊕ w ⊗ x) (telescope a p v w m n (suc t) (omega arith) h)
    ∙ last_out (a t) w (eval (map a (up_from (suc t) n)) w) (power w n) (p (suc t + n))
    ∙ ap (λ (k : ℕ). (a t ⊕ w ⊗ eval (map a (up_from (suc t) n)) w) ⊕ (w ⊗ power w n) ⊗ p k) e

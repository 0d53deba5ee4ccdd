-- The least number of which a test holds.
use Rattle.std.specs.Prelude.{◌≡◌, refl, Bool, true, false, ◌⊎◌, ℕ, zero, suc, ◌≤◌, ◌<◌}
use Rattle.std.proofs.Common.{sym, ap, ◌∙◌, subst, inl, inr, ⊎_elim, suc-le-suc, not-suc-le-zero, le_of_suc-le-suc, zero-lt-suc, eq-or-lt_of_le}
use Rattle.std.proofs.lemmas.Bool.{false≢true}
use Rattle.lists.specs.Choice.{pick, tested}
use Rattle.lists.specs.Number.{order}

-- the least number below n of which f holds, and n where there is none
unfoldable pub least : ℕ → (ℕ → Bool) → ℕ
least zero f = 0
least (suc n) f = pick (f 0) 0 (suc (least n (λ i. f (suc i))))

-- f holds of it, or of no number below n
pub least_cases : (n : ℕ) (f : ℕ → Bool) → ((least n f < n) × (f (least n f) ≡ true)) ⊎ ((i : ℕ) → i < n → f i ≡ false)
unfolding least
least_cases zero f = inr (λ i l. absurd (not-suc-le-zero l))
least_cases (suc n) f = ⊎_elim
    (λ (e : f 0 ≡ true).
    let z : pick (f 0) 0 (suc (least n (λ i. f (suc i)))) ≡ 0 = ap (λ (b : Bool). pick b 0 (suc (least n (λ i. f (suc i))))) e in
    inl (subst (λ (k : ℕ). k < suc n) (sym z) (zero-lt-suc n), ap f z ∙ e))
    (λ (e : f 0 ≡ false).
    let s : pick (f 0) 0 (suc (least n (λ i. f (suc i)))) ≡ suc (least n (λ i. f (suc i))) = ap (λ (b : Bool). pick b 0 (suc (least n (λ i. f (suc i))))) e in
    ⊎_elim
    (λ h. inl (subst (λ (k : ℕ). k < suc n) (sym s) (suc-le-suc h.0), ap f s ∙ h.1))
    (λ h. inr (none e h))
    (least_cases n (λ i. f (suc i))))
    (tested (f 0))
  where
    none : f 0 ≡ false → ((i : ℕ) → i < n → f (suc i) ≡ false) → (i : ℕ) → i < suc n → f i ≡ false
    none e h zero l = e
    none e h (suc i) l = h i (le_of_suc-le-suc l)

-- and of no number below it
pub least_first : (n : ℕ) (f : ℕ → Bool) (i : ℕ) → i < least n f → f i ≡ false
unfolding least
least_first zero f i l = absurd (not-suc-le-zero l)
least_first (suc n) f i l = step (least_first n (λ i. f (suc i))) (tested (f 0)) i l
  where
    step : ((j : ℕ) → j < least n (λ i. f (suc i)) → f (suc j) ≡ false) → (f 0 ≡ true) ⊎ (f 0 ≡ false) → (i : ℕ) → i < pick (f 0) 0 (suc (least n (λ i. f (suc i)))) → f i ≡ false
    step h (inl e) i l = absurd (not-suc-le-zero (subst (λ (b : Bool). i < pick b 0 (suc (least n (λ i. f (suc i))))) e l))
    step h (inr e) zero l = e
    step h (inr e) (suc i) l = h i (le_of_suc-le-suc (subst (λ (b : Bool). suc i < pick b 0 (suc (least n (λ i. f (suc i))))) e l))

-- so it is known by that: the first of which f holds ..
pub least_is : (n : ℕ) (f : ℕ → Bool) (i : ℕ) → i < n → f i ≡ true → ((j : ℕ) → j < i → f j ≡ false) → least n f ≡ i
least_is n f i l e h = ⊎_elim
    (λ c. ⊎_elim
    (λ (k : least n f ≤ i). ⊎_elim (λ (s : least n f ≡ i). s) (λ (s : least n f < i). absurd (false≢true (sym (h (least n f) s) ∙ c.1))) (eq-or-lt_of_le k))
    (λ (k : i < least n f). absurd (false≢true (sym (least_first n f i k) ∙ e)))
    (order (least n f) i))
    (λ (c : (j : ℕ) → j < n → f j ≡ false). absurd (false≢true (sym (c i l) ∙ e)))
    (least_cases n f)

-- .. or n, where f holds of none
pub least_none : (n : ℕ) (f : ℕ → Bool) → ((j : ℕ) → j < n → f j ≡ false) → least n f ≡ n
unfolding least
least_none zero f h = refl
least_none (suc n) f h =
    ap (λ (b : Bool). pick b 0 (suc (least n (λ i. f (suc i))))) (h 0 (zero-lt-suc n)) ∙ ap suc (least_none n (λ i. f (suc i)) (λ j l. h (suc j) (suc-le-suc l)))

-- Turns of the loops that fill what the barycentric form takes: inverses of distances, weights, weighed values, products of distances.
use Rattle.std.specs.Prelude.{◌≡◌, refl, ◌≢◌, List, ℕ, suc, ◌+◌, ◌*◌, ◌-◌, ◌/◌, ◌%◌, ◌≤◌, ◌<◌, length, get_or, set}
use Rattle.std.proofs.Common.{sym, ◌∙◌, ap, ap₂, mod-lt, div-add-mod', div-le_self, mul_comm, lt_trans, le_refl, add-one, arith, lit<}
use Rattle.algebra.specs.Prime.{q, prime, inverse_by_remainder}
use Rattle.algebra.specs.Inverse.{inv_n, inv_n-unique, inv_n_right}
use Rattle.algebra.specs.Table.{inverse_factorials}
use Rattle.lists.specs.Number.{mul-mod-mod}
use Rattle.lists.specs.Fill.{Filled, entry_of, fill_next, filled_none, filled_is}
use Rattle.lists.specs.Tabulate.{tabulate, get_d_tabulate, length-tabulate, tabulate_ext}
use Rattle.algebra.specs.Barycentric.{sign_n, weight_n, weights_n, weighed_n, rise_n, fall_n, above_n, cofactors_n}

-- ---- inverses
pub inverse_first : (s : List ℕ) → 2 ≤ length s → Filled inv_n (set s 1 1) 1 2
inverse_first s l = fill_next inv_n s 1 1 1 l (inv_n-unique 1 1 (lit< tt) refl) (filled_none inv_n s 1 1 (omega arith))

-- an inverse from that of the remainder, which stands before it
pub inverse_turn : (k : ℕ) (s : List ℕ) (v : ℕ) → 2 ≤ k → k < q → Filled inv_n s 1 k → v ≡ (q - q / k) * get_or s (q % k) 0 % q → v ≡ inv_n k
inverse_turn k s v l u h f =
    inv_n-unique k v below
    (ap (λ (t : ℕ). k * t % q) f ∙ mul-mod-mod k ((q - q / k) * get_or s (q % k) 0) q
    ∙ inverse_by_remainder k (q / k) (q % k) (get_or s (q % k) 0) (div-add-mod' q k) (omega arith) (div-le_self q k) one)
  where
    below : v < q
    below = let m : (q - q / k) * get_or s (q % k) 0 % q < q = mod-lt _ (lit< tt) in rw f m

    above : 0 < q % k
    above = let n : q % k ≢ 0 = prime k l u in omega arith

    less : q % k < k
    less = mod-lt q (omega arith)

    one : (q % k * get_or s (q % k) 0) % q ≡ 1
    one = ap (λ (t : ℕ). (q % k * t) % q) (h (q % k) above less) ∙ ap (λ (t : ℕ). t % q) (mul_comm (q % k) (inv_n (q % k))) ∙ inv_n_right (q % k) above (lt_trans less u)

-- ---- weights
pub sign_start : (n : ℕ) → 1 ≡ sign_n (n - n)
unfolding sign_n
sign_start n = let z : 0 ≡ n - n = omega arith in ap sign_n z

pub sign_turn : (n c s r : ℕ) → 0 < c → c ≤ n → s ≡ sign_n (n - c) → r ≡ (0 + (q - s)) % q → r ≡ sign_n (n - (c - 1))
unfolding sign_n
sign_turn n c s r l u e f =
    let m : suc (n - c) ≡ n - (c - 1) = omega arith in
    f ∙ ap (λ (i : ℕ). (0 + (q - i)) % q) e ∙ ap sign_n m

pub weight-entry : (t : List ℕ) (n c s w v : ℕ) → 0 < c → c ≤ n → s ≡ sign_n (n - c) → w ≡ get_or t (n - c) 0 * s % q → v ≡ get_or t (c - 1) 0 * w % q → v ≡ weight_n t n (c - 1)
unfolding weight_n
weight-entry t n c s w v l u e f g =
    let m : n - c ≡ n - suc (c - 1) = omega arith in
    g ∙ ap (λ (i : ℕ). get_or t (c - 1) 0 * i % q) (f ∙ ap (λ (i : ℕ). get_or t (n - c) 0 * i % q) e ∙ ap (λ (i : ℕ). get_or t i 0 * sign_n i % q) m)

pub weights_done : (n : ℕ) (t s : List ℕ) → t ≡ inverse_factorials → s ≡ tabulate n (weight_n t n) → s ≡ weights_n n
unfolding weights_n
weights_done n t s e f = f ∙ ap (λ (u : List ℕ). tabulate n (weight_n u n)) e

pub weighed_entry : (ws ys now : List ℕ) (i n v : ℕ) → i < n → Filled (entry_of ys) now i n → v ≡ get_or ws i 0 * get_or now i 0 % q → v ≡ get_or ws i 0 * get_or ys i 0 % q
weighed_entry ws ys now i n v l h e = e ∙ ap (λ (t : ℕ). get_or ws i 0 * t % q) (h i (le_refl i) l)

pub weighed_done : (ws ys s : List ℕ) → length s ≡ length ws → Filled (λ i. get_or ws i 0 * get_or ys i 0 % q) s 0 (length ws) → s ≡ weighed_n ws ys
unfolding weighed_n
weighed_done ws ys s e h = filled_is (λ i. get_or ws i 0 * get_or ys i 0 % q) s (length ws) e h

-- ---- products of distances
pub rise_start : (k : ℕ) → 1 ≡ rise_n k 0
unfolding rise_n
rise_start k = refl

pub rise_turn : (k c p r : ℕ) → p ≡ rise_n k c → r ≡ p * (k + c) % q → r ≡ rise_n k (c + 1)
unfolding rise_n
rise_turn k c p r e f = f ∙ ap (λ (t : ℕ). t * (k + c) % q) e ∙ ap (rise_n k) (sym (add-one c))

pub fall_start : (e n : ℕ) → 1 ≡ fall_n e (n - n)
unfolding fall_n
fall_start e n = let z : 0 ≡ n - n = omega arith in ap (fall_n e) z

pub fall_turn : (k n t p r : ℕ) → 0 < t → t ≤ n → p ≡ fall_n (k + n) (n - t) → r ≡ p * (k + (t - 1)) % q → r ≡ fall_n (k + n) (n - (t - 1))
unfolding fall_n
fall_turn k n t p r l u e f =
    let d : k + (t - 1) ≡ k + n - suc (n - t) = omega arith in
    let m : suc (n - t) ≡ n - (t - 1) = omega arith in
    f ∙ ap₂ (λ (i j : ℕ). i * j % q) e d ∙ ap (fall_n (k + n)) m

pub above_entry : (k n t p : ℕ) → 0 < t → t ≤ n → p ≡ fall_n (k + n) (n - t) → p ≡ above_n k n (t - 1)
unfolding above_n
above_entry k n t p l u e = let m : n - t ≡ n - suc (t - 1) = omega arith in e ∙ ap (fall_n (k + n)) m

pub cofactors_done : (k n : ℕ) (below above s : List ℕ) → below ≡ tabulate n (rise_n k) → above ≡ tabulate n (above_n k n) → s ≡ weighed_n above below → s ≡ cofactors_n k n
unfolding weighed_n cofactors_n
cofactors_done k n below above s f g h =
    h
    ∙ ap₂ (λ (xs ys : List ℕ). tabulate (length xs) (λ c. get_or xs c 0 * get_or ys c 0 % q)) g f
    ∙ ap (λ (i : ℕ). tabulate i (λ c. get_or (tabulate n (above_n k n)) c 0 * get_or (tabulate n (rise_n k)) c 0 % q)) (length-tabulate n (above_n k n))
    ∙ tabulate_ext n _ _ (λ c l. ap₂ (λ (i j : ℕ). i * j % q) (get_d_tabulate n (above_n k n) c l) (get_d_tabulate n (rise_n k) c l))

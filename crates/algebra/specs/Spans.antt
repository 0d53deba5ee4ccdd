-- The value of a polynomial by spans of its coefficients: as many at a time as there are powers of the point.
use Rattle.std.specs.Prelude.{◌≡◌, List, ◌++◌, ℕ, suc, ◌+◌, ◌-◌, ◌*◌, ◌/◌, ◌%◌, ◌≤◌, ◌<◌, length, get_or, take, drop}
use Rattle.std.proofs.Common.{sym, ◌∙◌, ap, ap₂, mod-lt, mul-suc, div-add-mod', arith, lit<, length-drop, take-append-drop, length-take-le, drop-drop, take_at}
use Rattle.std.proofs.Math.Nat.{sub-zero}
use Rattle.std.proofs.lemmas.List.{length-map}
use Rattle.algebra.specs.Prime.{q}
use Rattle.algebra.specs.Field.{K, of, of_add, of_mul, ◌⊕◌, ◌⊗◌}
use Rattle.algebra.specs.Poly.{eval}
use Rattle.algebra.specs.Rows.{power, eval-append}
use Rattle.algebra.specs.Numbers.{ofs, ofs-append, eval_n, eval_n_below, of_eval_n, of_injective}
use Rattle.algebra.specs.Divided.{of_mod}
use Rattle.algebra.specs.Columns.{pow_n, pow_n_turn, of_pow_n}
use Rattle.algebra.specs.Dot.{dot_n, dot_powers_n}
use Rattle.lists.specs.Tabulate.{tabulate, length-tabulate, get_d_tabulate, split_from}

eval_n-append : (p r : List ℕ) (x : ℕ) → eval_n (p ++ r) x ≡ (eval_n p x + pow_n x (length p) * eval_n r x) % q
eval_n-append p r x =
    of_injective _ _ (eval_n_below (p ++ r) x) (mod-lt _ (lit< tt))
    (of_eval_n (p ++ r) x
    ∙ ap (λ (t : List K). eval t (of x)) (ofs-append p r)
    ∙ eval-append (ofs p) (ofs r) (of x)
    ∙ ap₂ ◌⊕◌ (sym (of_eval_n p x)) (ap₂ ◌⊗◌ (ap (power (of x)) (length-map p of) ∙ sym (of_pow_n x (length p))) (sym (of_eval_n r x)) ∙ of_mul _ _)
    ∙ of_add _ _ ∙ sym (of_mod _))

front_powers : (n m x : ℕ) → n ≤ m → take n (tabulate m (pow_n x)) ≡ tabulate n (pow_n x)
front_powers n m x l =
    let e : m ≡ n + (m - n) = omega arith in
    ap (λ (k : ℕ). take n (tabulate k (pow_n x))) e
    ∙ ap (take n) (split_from 0 n (m - n) (pow_n x))
    ∙ take_at (tabulate n (pow_n x)) _ n (length-tabulate n (pow_n x))

-- the coefficients behind the last full span
pub spans_start : (powers p : List ℕ) (x rest at v : ℕ) → powers ≡ tabulate (length powers) (pow_n x) → rest ≤ length powers → at + rest ≡ length p
    → v ≡ dot_n (take (rest - 0) powers) (drop at p) → v ≡ eval_n (drop at p) x
spans_start powers p x rest at v e l f g =
    let n : rest ≡ length (drop at p) = omega (arith, length-drop at p) in
    g
    ∙ ap (λ (t : List ℕ). dot_n t (drop at p)) (ap₂ (λ (k : ℕ) (t : List ℕ). take k t) (sub-zero rest) e ∙ front_powers rest (length powers) x l ∙ ap (λ (k : ℕ). tabulate k (pow_n x)) n)
    ∙ dot_powers_n (drop at p) x

-- one span more, which begins at `at`
pub spans_turn : (powers p : List ℕ) (x at end step part v r : ℕ) → powers ≡ tabulate (length powers) (pow_n x) → step ≡ pow_n x (length powers) → end ≡ at + length powers → end ≤ length p
    → v ≡ eval_n (drop end p) x → part ≡ dot_n powers (take (end - at) (drop at p)) → r ≡ (part + step * v) % q → r ≡ eval_n (drop at p) x
spans_turn powers p x at end step part v r e f g l h k m =
    let n : end - at ≡ length powers = omega arith in
    let s : length (take (end - at) (drop at p)) ≡ length powers = length-take-le (end - at) (drop at p) (omega (arith, length-drop at p)) ∙ n in
    m
    ∙ ap₂ (λ (i j : ℕ). (i + j) % q)
    (k ∙ ap (λ (t : List ℕ). dot_n t (take (end - at) (drop at p))) (e ∙ ap (λ (i : ℕ). tabulate i (pow_n x)) (sym s)) ∙ dot_powers_n (take (end - at) (drop at p)) x)
    (ap₂ ◌*◌ (f ∙ ap (pow_n x) (sym s)) (h ∙ ap (λ (i : ℕ). eval_n (drop i p) x) g ∙ ap (λ (t : List ℕ). eval_n t x) (sym (drop-drop (length powers) at p)) ∙ ap (λ (i : ℕ). eval_n (drop i (drop at p)) x) (sym n)))
    ∙ sym (eval_n-append (take (end - at) (drop at p)) (drop (end - at) (drop at p)) x)
    ∙ ap (λ (t : List ℕ). eval_n t x) (take-append-drop (end - at) (drop at p))

-- the last power, and the point, give the one after it
pub next_power : (powers : List ℕ) (x r : ℕ) → 0 < length powers → powers ≡ tabulate (length powers) (pow_n x) → r ≡ x * get_or powers (length powers - 1) 0 % q → r ≡ pow_n x (length powers)
next_power powers x r l e f =
    let n : length powers - 1 + 1 ≡ length powers = omega arith in
    pow_n_turn x (length powers - 1) (get_or powers (length powers - 1) 0) r (ap (λ (t : List ℕ). get_or t (length powers - 1) 0) e ∙ get_d_tabulate (length powers) (pow_n x) (length powers - 1) (omega arith)) f
    ∙ ap (pow_n x) n

-- full spans, and what is behind them
pub spans_fit : (n s : ℕ) → 0 < s → (s * (n / s) ≤ n) × (n - s * (n / s) ≤ s)
spans_fit n s l =
    let d : n / s * s + n % s ≡ n = div-add-mod' n s in
    let m : n % s < s = mod-lt n l in
    (omega arith, omega arith)

pub span_back : (s k : ℕ) → 0 < k → s * (k - 1) + s ≡ s * k
span_back s k l = let e : suc (k - 1) ≡ k = omega arith in omega (arith, mul-suc s (k - 1), ap (λ (i : ℕ). s * i) e)

-- Newton's form expanded two points at a time: two sweeps as one, where the points are small.
use Rattle.std.specs.Prelude.{◌≡◌, refl, List, [], ◌∷◌, ◌++◌, ℕ, suc, ◌+◌, ◌*◌, ◌-◌, ◌%◌, ◌≤◌, ◌<◌, length, get_or, take, drop, set}
use Rattle.std.proofs.Common.{sym, ◌∙◌, ap, ap₂, subst, not-suc-le-zero, le_of_suc-le-suc, le_of_lt, mod-lt, mul-le-mul, add-zero, add-one, arith, lit<, length-drop, take-append-drop, drop_of_length-le, get_or-drop, drop-cons, take-suc, take_at, drop_at, length-take-le}
use Rattle.std.proofs.Math.Seq.{append_snoc}
use Rattle.algebra.specs.Prime.{q}
use Rattle.algebra.specs.Field.{K, of, of_path, same_mod, of_add, of_mul, of_neg, of_zero, ◌⊕◌, ◌⊗◌, ◌⊝◌, ⊖, 𝟎, dv, ring, dif_path}
use Rattle.algebra.specs.Numbers.{of_injective}
use Rattle.algebra.specs.Divided.{sub_n, lin_n, of_sub_n, of_mod, sweep_n, sweep_n_at, sweep_n_end, length-sweep_n, stage, stage_get, stage-set, expanded, expand_turn, length-expanded}

-- 32769 q, which is above 2^15 times any word
abbrev pub multiple : ℕ
multiple = 140741783158779

-- points up to 2^14: their sum and their product keep a - e b + p c small
abbrev pub points_end : ℕ
points_end = 16384

-- a - e b + p c modulo q, where e b does not exceed the multiple of q that is added
abbrev pub three_n : ℕ → ℕ → ℕ → ℕ → ℕ → ℕ
three_n a b c e p = (a + p * c + (multiple - e * b)) % q

of_three_n : (a b c e p : ℕ) → e * b ≤ multiple → of (three_n a b c e p) ≡ of a ⊕ of p ⊗ of c ⊝ of e ⊗ of b
of_three_n a b c e p l =
    of_mod _
    ∙ sym (of_add (a + p * c) (multiple - e * b))
    ∙ ap₂ ◌⊕◌ (sym (of_add a (p * c)) ∙ ap (λ (t : K). of a ⊕ t) (sym (of_mul p c))) (negative (e * b) l ∙ ap ⊖ (sym (of_mul e b)))
  where
    negative : (m : ℕ) → m ≤ multiple → of (multiple - m) ≡ ⊖ (of m)
    negative m l = of_path _ (4294967290 * m) (same_mod (multiple - m) (4294967290 * m) m 32769 (omega arith)) ∙ sym (of_neg m)

pub of_step : (a x b : ℕ) → of (sub_n a (x * b % q)) ≡ of a ⊝ of x ⊗ of b
of_step a x b = of_sub_n a (x * b % q) (le_of_lt (mod-lt (x * b) (lit< tt))) ∙ ap (λ (t : K). of a ⊝ t) (of_mod (x * b) ∙ sym (of_mul x b))

-- e is at most 2^15, b a word
pub pair_small : (e b : ℕ) → e ≤ 32768 → b < 4294967296 → e * b ≤ multiple
pair_small e b l u = let h : e * b ≤ 32768 * 4294967295 = mul-le-mul {n₂ = 32768} {m₂ = 4294967295} l (omega arith) in omega arith

-- ---- two sweeps: their entries
abbrev pub twice_n : ℕ → ℕ → List ℕ → List ℕ
twice_n x y s = sweep_n x (sweep_n y s)

length-twice_n : (x y : ℕ) (s : List ℕ) → length (twice_n x y s) ≡ length s
length-twice_n x y s = length-sweep_n x (sweep_n y s) ∙ length-sweep_n y s

twice_at : (x y : ℕ) (s : List ℕ) (i : ℕ) → suc (suc i) < length s → (x + y) * get_or s (suc i) 0 ≤ multiple
    → get_or (twice_n x y s) i 0 ≡ three_n (get_or s i 0) (get_or s (suc i) 0) (get_or s (suc (suc i)) 0) (x + y) (x * y)
twice_at x y s i l h =
    sweep_n_at x (sweep_n y s) i (omega (arith, length-sweep_n y s))
    ∙ of_injective _ _ (mod-lt _ (lit< tt)) (mod-lt _ (lit< tt))
    (of_step (get_or (sweep_n y s) i 0) x (get_or (sweep_n y s) (suc i) 0)
    ∙ ap₂ (λ (u v : K). u ⊝ of x ⊗ v)
    (ap of (sweep_n_at y s i (omega arith)) ∙ of_step (get_or s i 0) y (get_or s (suc i) 0))
    (ap of (sweep_n_at y s (suc i) l) ∙ of_step (get_or s (suc i) 0) y (get_or s (suc (suc i)) 0))
    ∙ step (of (get_or s i 0)) (of (get_or s (suc i) 0)) (of (get_or s (suc (suc i)) 0)) (of x) (of y)
    ∙ ap₂ (λ (u v : K). of (get_or s i 0) ⊕ u ⊗ of (get_or s (suc (suc i)) 0) ⊝ v ⊗ of (get_or s (suc i) 0)) (of_mul x y) (of_add x y)
    ∙ sym (of_three_n (get_or s i 0) (get_or s (suc i) 0) (get_or s (suc (suc i)) 0) (x + y) (x * y) h))
  where
    step : (a b c x y : K) → (a ⊝ y ⊗ b) ⊝ x ⊗ (b ⊝ y ⊗ c) ≡ a ⊕ (x ⊗ y) ⊗ c ⊝ (x ⊕ y) ⊗ b
    step a b c x y = rw (← dv a, ← dv b, ← dv c, ← dv x, ← dv y) (simp ring (dif_path _ _ _ _ (omega arith)))

-- the last but one, and the last
twice_end : (x y : ℕ) (s : List ℕ) (i : ℕ) → suc (suc i) ≡ length s → (x + y) * get_or s (suc i) 0 ≤ multiple
    → get_or (twice_n x y s) i 0 ≡ three_n (get_or s i 0) (get_or s (suc i) 0) 0 (x + y) (x * y)
twice_end x y s i l h =
    sweep_n_at x (sweep_n y s) i (omega (arith, length-sweep_n y s))
    ∙ of_injective _ _ (mod-lt _ (lit< tt)) (mod-lt _ (lit< tt))
    (of_step (get_or (sweep_n y s) i 0) x (get_or (sweep_n y s) (suc i) 0)
    ∙ ap₂ (λ (u v : K). u ⊝ of x ⊗ v)
    (ap of (sweep_n_at y s i (omega arith)) ∙ of_step (get_or s i 0) y (get_or s (suc i) 0))
    (ap of (sweep_n_end y s (suc i) l))
    ∙ step (of (get_or s i 0)) (of (get_or s (suc i) 0)) (of x) (of y)
    ∙ ap₂ (λ (u v : K). of (get_or s i 0) ⊕ u ⊗ 𝟎 ⊝ v ⊗ of (get_or s (suc i) 0)) (of_mul x y) (of_add x y)
    ∙ ap (λ (t : K). of (get_or s i 0) ⊕ of (x * y) ⊗ t ⊝ of (x + y) ⊗ of (get_or s (suc i) 0)) (sym of_zero)
    ∙ sym (of_three_n (get_or s i 0) (get_or s (suc i) 0) 0 (x + y) (x * y) h))
  where
    step : (a b x y : K) → (a ⊝ y ⊗ b) ⊝ x ⊗ b ≡ a ⊕ (x ⊗ y) ⊗ 𝟎 ⊝ (x ⊕ y) ⊗ b
    step a b x y = rw (← dv a, ← dv b, ← dv x, ← dv y) (simp ring (dif_path _ _ _ _ (omega arith)))

twice_last : (x y : ℕ) (s : List ℕ) (i : ℕ) → suc i ≡ length s → get_or (twice_n x y s) i 0 ≡ get_or s i 0
twice_last x y s i l = sweep_n_end x (sweep_n y s) i (l ∙ sym (length-sweep_n y s)) ∙ sweep_n_end y s i l

-- ---- the loop: the places before i are new, the others are as they were
module _ (x y : ℕ) (s : List ℕ) where
  next : (now : List ℕ) (i v : ℕ) → i < length s → now ≡ stage (twice_n x y s) s i → v ≡ get_or (twice_n x y s) i 0 → set now i v ≡ stage (twice_n x y s) s (i + 1)
  next now i v l e h = ap (λ (u : List ℕ). set u i v) e ∙ stage-set (twice_n x y s) s i v (length-twice_n x y s) l h ∙ ap (stage (twice_n x y s) s) (sym (add-one i))

  old : (now : List ℕ) (i j k : ℕ) → i ≤ length s → i ≤ j → j ≡ k → now ≡ stage (twice_n x y s) s i → get_or now j 0 ≡ get_or s k 0
  old now i j k l m f e = ap (λ (u : List ℕ). get_or u j 0) e ∙ stage_get (twice_n x y s) s i j (length-twice_n x y s) l m ∙ ap (λ (t : ℕ). get_or s t 0) f

  pub twice_turn : (now : List ℕ) (i v : ℕ) → i + 2 < length s → now ≡ stage (twice_n x y s) s i → (x + y) * get_or now (i + 1) 0 ≤ multiple
      → v ≡ three_n (get_or now i 0) (get_or now (i + 1) 0) (get_or now (i + 2) 0) (x + y) (x * y) → set now i v ≡ stage (twice_n x y s) s (i + 1)
  twice_turn now i v l e h f =
      let a : get_or now i 0 ≡ get_or s i 0 = old now i i i (omega arith) (omega arith) refl e in
      let b : get_or now (i + 1) 0 ≡ get_or s (suc i) 0 = old now i (i + 1) (suc i) (omega arith) (omega arith) (omega arith) e in
      let c : get_or now (i + 2) 0 ≡ get_or s (suc (suc i)) 0 = old now i (i + 2) (suc (suc i)) (omega arith) (omega arith) (omega arith) e in
      next now i v (omega arith) e
      (f
      ∙ ap₂ (λ (t u : ℕ). three_n t u (get_or now (i + 2) 0) (x + y) (x * y)) a b
      ∙ ap (λ (t : ℕ). three_n (get_or s i 0) (get_or s (suc i) 0) t (x + y) (x * y)) c
      ∙ sym (twice_at x y s i (omega arith) (subst (λ (t : ℕ). (x + y) * t ≤ multiple) b h)))

  pub twice_done : (now : List ℕ) (i v : ℕ) → i + 2 ≡ length s → now ≡ stage (twice_n x y s) s i → (x + y) * get_or now (i + 1) 0 ≤ multiple
      → v ≡ three_n (get_or now i 0) (get_or now (i + 1) 0) 0 (x + y) (x * y) → set now i v ≡ twice_n x y s
  twice_done now i v l e h f =
      let a : get_or now i 0 ≡ get_or s i 0 = old now i i i (omega arith) (omega arith) refl e in
      let b : get_or now (i + 1) 0 ≡ get_or s (suc i) 0 = old now i (i + 1) (suc i) (omega arith) (omega arith) (omega arith) e in
      next now i v (omega arith) e
      (f
      ∙ ap₂ (λ (t u : ℕ). three_n t u 0 (x + y) (x * y)) a b
      ∙ sym (twice_end x y s i (omega arith) (subst (λ (t : ℕ). (x + y) * t ≤ multiple) b h)))
      ∙ ap (λ (t : List ℕ). take (i + 1) (twice_n x y s) ++ t) ends
      ∙ take-append-drop (i + 1) (twice_n x y s)
    where
      ends : drop (i + 1) s ≡ drop (i + 1) (twice_n x y s)
      ends =
          drop-cons s (i + 1) 0 (omega arith)
          ∙ ap₂ (λ (c : ℕ) (t : List ℕ). c ∷ t) (sym (twice_last x y s (i + 1) (omega arith)))
          (drop_of_length-le s {i = suc (i + 1)} (omega arith) ∙ sym (drop_of_length-le (twice_n x y s) {i = suc (i + 1)} (omega (arith, length-twice_n x y s))))
          ∙ sym (drop-cons (twice_n x y s) (i + 1) 0 (omega (arith, length-twice_n x y s)))

-- ---- a turn of the expansion, two points at once: the first entry, and two sweeps of those after it
split : (x y c : ℕ) (p : List ℕ) → 1 < length p → sweep_n x (c ∷ sweep_n y p) ≡ sub_n c (x * sub_n (get_or p 0 0) (y * get_or p 1 0 % q) % q) ∷ twice_n x y p
unfolding sweep_n lin_n
split x y c [] l = absurd (not-suc-le-zero l)
split x y c (a ∷ []) l = absurd (not-suc-le-zero (le_of_suc-le-suc l))
split x y c (a ∷ b ∷ p) l = refl

first : (x y c a b : ℕ) → x * a ≤ multiple → sub_n c (x * sub_n a (y * b % q) % q) ≡ three_n c a b x (x * y)
first x y c a b h =
    of_injective _ _ (mod-lt _ (lit< tt)) (mod-lt _ (lit< tt))
    (of_step c x (sub_n a (y * b % q))
    ∙ ap (λ (v : K). of c ⊝ of x ⊗ v) (of_step a y b)
    ∙ step (of c) (of a) (of b) (of x) (of y)
    ∙ ap (λ (u : K). of c ⊕ u ⊗ of b ⊝ of x ⊗ of a) (of_mul x y)
    ∙ sym (of_three_n c a b x (x * y) h))
  where
    step : (c a b x y : K) → c ⊝ x ⊗ (a ⊝ y ⊗ b) ≡ c ⊕ (x ⊗ y) ⊗ b ⊝ x ⊗ a
    step c a b x y = rw (← dv c, ← dv a, ← dv b, ← dv x, ← dv y) (simp ring (dif_path _ _ _ _ (omega arith)))

pub expand-pair : (xs s : List ℕ) (k x y v : ℕ) → length s ≡ length xs → suc (suc k) < length xs → x ≡ get_or xs k 0 → y ≡ get_or xs (suc k) 0
    → x * get_or (expanded xs s (suc (suc k))) (suc k) 0 ≤ multiple
    → v ≡ three_n (get_or (expanded xs s (suc (suc k))) k 0) (get_or (expanded xs s (suc (suc k))) (suc k) 0) (get_or (expanded xs s (suc (suc k))) (suc (suc k)) 0) x (x * y)
    → take k (expanded xs s (suc (suc k))) ++ (v ∷ twice_n x y (drop (suc k) (expanded xs s (suc (suc k))))) ≡ expanded xs s k
expand-pair xs s k x y v e l f g h m =
    let E : List ℕ = expanded xs s (suc (suc k)) in
    let n : length E ≡ length s = length-expanded xs s (suc (suc k)) e (omega arith) in
    let w : List ℕ = sweep_n (get_or xs (suc k) 0) (drop (suc k) E) in
    let t : expanded xs s (suc k) ≡ take k E ++ (get_or E k 0 ∷ w) =
    sym (expand_turn xs s (suc k) e (omega arith)) ∙ ap (λ (t : List ℕ). t ++ w) (take-suc E k 0 (omega arith)) ∙ append_snoc (take k E) (get_or E k 0) w in
    let u : length (take k E) ≡ k = length-take-le k E (omega arith) in
    let d : 1 < length (drop (suc k) E) = omega (arith, length-drop (suc k) E) in
    let i0 : get_or (drop (suc k) E) 0 0 ≡ get_or E (suc k) 0 = get_or-drop (suc k) E 0 0 ∙ ap (λ (j : ℕ). get_or E j 0) (add-zero (suc k)) in
    let i1 : get_or (drop (suc k) E) 1 0 ≡ get_or E (suc (suc k)) 0 = get_or-drop (suc k) E 1 0 ∙ ap (λ (j : ℕ). get_or E j 0) (add-one (suc k)) in
    ap (λ (c : ℕ). take k E ++ (c ∷ twice_n x y (drop (suc k) E)))
    (m ∙ sym (first x y (get_or E k 0) (get_or E (suc k) 0) (get_or E (suc (suc k)) 0) h)
    ∙ ap₂ (λ (a b : ℕ). sub_n (get_or E k 0) (x * sub_n a (y * b % q) % q)) (sym i0) (sym i1))
    ∙ ap (λ (r : List ℕ). take k E ++ r) (sym (split x y (get_or E k 0) (drop (suc k) E) d))
    ∙ ap₂ (λ (a b : ℕ). take k E ++ sweep_n a (get_or E k 0 ∷ sweep_n b (drop (suc k) E))) f g
    ∙ ap₂ (λ (r o : List ℕ). r ++ sweep_n (get_or xs k 0) o)
    (sym (ap (take k) t ∙ take_at (take k E) (get_or E k 0 ∷ w) k u))
    (sym (ap (drop k) t ∙ drop_at (take k E) (get_or E k 0 ∷ w) k u))
    ∙ expand_turn xs s k e (omega arith)

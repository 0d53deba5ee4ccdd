-- How many nodes are missing: on each level b for each parent, less those of the set; in all at most (b - 1) for each leaf and level.
use mathlib.Core.Bool.{true, false}
use mathlib.Core.List.Memᴰ.{append_cases as in-cases, cases_cons, head as here, not-nil, tail as there}
use mathlib.Core.List.{List, [], ◌∷◌, ◌++◌, Memᴰ as Mem}
use mathlib.Core.Logic.{⊎_elim}
use mathlib.Core.Path.{◌≡◌, refl, sym, ap, ◌∙◌}
use Prim.Native.Nat.{ℕ, zero, suc, ◌+◌, ◌*◌, ◌/◌, ◌≤◌, ◌<◌, zero-le}
use native.Mathlib.Nat.{lt-div-mul-add, zero-lt-suc, mul-le-mul_right, mul-suc, mul-zero, one-mul, zero-mul, le_refl, le-div_iff_mul-le, div-mul-le_self}
use native.Mathlib.Omega.{arith}
use lib.Dec.{eqb}
use lib.ListN.{length, length-append, length-map}
use borrow.Author.Tests.{eqb-false, ne_eqb}
use Rattle.lists.specs.Choice.{pick, tested}
use Rattle.lists.specs.Range.{length-up_from, up_from, up_from-rising}
use Rattle.lists.specs.Rising.{Rising}
use Rattle.tree.specs.Sets.{children, parents, siblings, missing, below, mem, without, push}
use Rattle.tree.proofs.Members.{child_in, child_of, below_in, below_of, mem_in, mem_true, parents_in, parents_of}

pub mem_false : (c : ℕ) (s : List ℕ) → (Mem c s → ⊥) → mem c s ≡ false
mem_false c s n = ⊎_elim (λ e. absurd (n (mem_in c s e))) (λ (e : mem c s ≡ false). e) (tested (mem c s))

-- a first node that the list does not have takes nothing from it
pub without_cons : (i : ℕ) (s cs : List ℕ) → ((c : ℕ) → Mem c cs → i < c) → without (i ∷ s) cs ≡ without s cs
unfolding without mem
without_cons i s [] h = refl
without_cons i s (c ∷ cs) h =
    let l : i < c = h c (here refl) in
    rw (ne_eqb i c (omega arith)) (ap (λ (r : List ℕ). pick (mem c s) r (c ∷ r)) (without_cons i s cs (λ d m. h d (there m))))

-- the rest of a list has what lies above its first node
in_rest : {c x : ℕ} {cs : List ℕ} → c < x → Mem x (c ∷ cs) → Mem x cs
in_rest {c} {x} {cs} l m = ⊎_elim (λ (e : x ≡ c). absurd (omega arith)) (λ (k : Mem x cs). k) (cases_cons m)

-- a rising list, less a rising part of it
without_count : (cs s : List ℕ) → Rising cs → Rising s → ((c : ℕ) → Mem c s → Mem c cs) → length (without s cs) + length s ≡ length cs
unfolding without
without_count [] [] rc rs sub = refl
without_count [] (i ∷ s) rc rs sub = absurd (not-nil (sub i (here refl)))
without_count (c ∷ cs) [] rc rs sub = rw (mem_false c [] not-nil) (omega (arith, without_count cs [] rc.1 tt (λ x m. absurd (not-nil m))))
without_count (c ∷ cs) (i ∷ s) rc rs sub = ⊎_elim
    (λ (q : i ≡ c).
    let above : (x : ℕ) → Mem x s → c < x = λ x m. omega (arith, rs.0 x m) in
    rw (mem_true {c = c} {s = i ∷ s} (here (sym q)), without_cons i s cs (λ d m. omega (arith, rc.0 d m)))
    (omega (arith, without_count cs s rc.1 rs.1 (λ x m. in_rest (above x m) (sub x (there m))))))
    (λ (k : Mem i cs).
    let l : c < i = rc.0 i k in
    let above : (x : ℕ) → Mem x (i ∷ s) → c < x = λ x m. ⊎_elim (λ (e : x ≡ i). omega arith) (λ (n : Mem x s). omega (arith, rs.0 x n)) (cases_cons m) in
    rw (mem_false c (i ∷ s) (λ m. omega (arith, above c m)))
    (omega (arith, without_count cs (i ∷ s) rc.1 rs (λ x m. in_rest (above x m) (sub x m)))))
    (cases_cons (sub i (here refl)))

-- ---- the lists are rising

append-rising : (xs ys : List ℕ) → Rising xs → Rising ys → ((x y : ℕ) → Mem x xs → Mem y ys → x < y) → Rising (xs ++ ys)
append-rising [] ys rx ry h = ry
append-rising (x ∷ xs) ys rx ry h = (
  λ j m. ⊎_elim (λ k. rx.0 j k) (λ k. h x j (here refl) k) (in-cases xs m),
  append-rising xs ys rx.1 ry (λ u v m k. h u v (there m) k),
)

-- where the parents are in order, the children are
div_lt : (b x y : ℕ) → zero < b → x / b < y / b → x < y
div_lt b x y h l = omega (arith, mul-le-mul_right b l, lt-div-mul-add {a = x} h, div-mul-le_self y b)

pub below_rising : (b : ℕ) (ps : List ℕ) → zero < b → Rising ps → Rising (below b ps)
unfolding below children
below_rising b [] h r = tt
below_rising b (p ∷ ps) h r =
    append-rising (up_from (b * p) b) (below b ps) (up_from-rising (b * p) b) (below_rising b ps h r.1)
    (λ x y m k. div_lt b x y h (rw (child_of b p x h m) (r.0 (y / b) (below_of b ps h k))))

push-rising : (p : ℕ) (ps : List ℕ) → Rising ps → ((q : ℕ) → Mem q ps → p ≤ q) → Rising (push p ps)
unfolding push
push-rising p [] r h = (λ j m. absurd (not-nil m), tt)
push-rising p (q ∷ ps) r h = ⊎_elim
    (λ (e : eqb p q ≡ true). rw (e, push) r)
    (λ (e : eqb p q ≡ false).
    let l : p < q = omega (arith, h q (here refl), eqb-false p q e) in
    rw (e, push) (λ j m. ⊎_elim (λ (d : j ≡ q). omega arith) (λ (k : Mem j ps). omega (arith, r.0 j k)) (cases_cons m), r))
    (tested (eqb p q))

pub parents-rising : (b : ℕ) (s : List ℕ) → zero < b → Rising s → Rising (parents b s)
unfolding parents
parents-rising b [] h r = tt
parents-rising b (i ∷ s) h r = push-rising (i / b) (parents b s) (parents-rising b s h r.1) (λ q m.
    let o = parents_of b s m in
    rw o.2 ((le-div_iff_mul-le h).1 (omega (arith, div-mul-le_self i b, r.0 o.0 o.1))))

-- ---- how many

below_count : (b : ℕ) (ps : List ℕ) → length (below b ps) ≡ length ps * b
unfolding below children
below_count b [] = sym (zero-mul b)
below_count b (p ∷ ps) = simp (length-append, length-up_from) (omega (arith, below_count b ps))

-- on a level: what is missing and the set are together the children of the set's parents
pub siblings_count : (b : ℕ) (s : List ℕ) → zero < b → Rising s → length (siblings b s) + length s ≡ length (parents b s) * b
unfolding siblings
siblings_count b s h r =
    without_count (below b (parents b s)) s (below_rising b (parents b s) h (parents-rising b s h r)) r
    (λ c m. below_in b (parents_in b m) (child_in b c h))
    ∙ below_count b (parents b s)

push_count : (p : ℕ) (ps : List ℕ) → length (push p ps) ≤ suc (length ps)
unfolding push
push_count p [] = le_refl 1
push_count p (q ∷ ps) = ⊎_elim
    (λ (e : eqb p q ≡ true). rw (e, push) (omega arith))
    (λ (e : eqb p q ≡ false). rw (e, push) (omega arith))
    (tested (eqb p q))

-- a set has no more parents than nodes
pub parents_count : (b : ℕ) (s : List ℕ) → length (parents b s) ≤ length s
unfolding parents
parents_count b [] = zero-le
parents_count b (i ∷ s) = omega (arith, push_count (i / b) (parents b s), parents_count b s)

-- level by level
pub missing_none : (b : ℕ) (s : List ℕ) → length (missing b 0 s) ≡ 0
unfolding missing
missing_none b s = refl

pub missing_count : (b h : ℕ) (s : List ℕ) → length (missing b (suc h) s) ≡ length (siblings b s) + length (missing b h (parents b s))
unfolding missing
missing_count b h s = simp (length-append, length-map)

-- in all, where a node has c + 1 children: at most c for each leaf of the set and each level
pub missing_bound : (c h : ℕ) (s : List ℕ) → Rising s → length (missing (suc c) h s) ≤ length s * c * h
missing_bound c zero s r = unfold missing in zero-le
missing_bound c (suc h) s r =
    let n : ℕ = length s in
    let p : ℕ = length (parents (suc c) s) in
    let up : p ≤ n = parents_count (suc c) s in
    let ih = missing_bound c h (parents (suc c) s) (parents-rising (suc c) s (zero-lt-suc c) r) in
    omega (arith, missing_count (suc c) h s, siblings_count (suc c) s (zero-lt-suc c) r, ih, up, mul-le-mul_right c up, mul-le-mul_right h (mul-le-mul_right c up))

-- of a single leaf: c on each level
pub missing_one : (c h i : ℕ) → length (missing (suc c) h (i ∷ [])) ≡ c * h
missing_one c zero i = unfold missing in sym (mul-zero c)
missing_one c (suc h) i =
    let up : parents (suc c) (i ∷ []) ≡ (i / suc c) ∷ [] = unfold parents push in refl in
    let own : length (siblings (suc c) (i ∷ [])) + 1 ≡ suc c =
    siblings_count (suc c) (i ∷ []) (zero-lt-suc c) (λ j m. absurd (not-nil m), tt) ∙ ap (λ (s : List ℕ). length s * suc c) up ∙ one-mul (suc c) in
    let rest : length (missing (suc c) h (parents (suc c) (i ∷ []))) ≡ c * h = ap (λ (s : List ℕ). length (missing (suc c) h s)) up ∙ missing_one c h (i / suc c) in
    omega (arith, missing_count (suc c) h (i ∷ []), own, rest, mul-suc c h)

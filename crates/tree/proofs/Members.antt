-- Membership in the lists of nodes that the definitions make.
use mathlib.Core.Bool.{Bool, true, false, ◌||◌, false≢true, or-true}
use mathlib.Core.List.Memᴰ.{append_cases as in-cases, append_left as in_left, append_right as in_right, cases_cons, head as here, not-nil, tail as there}
use mathlib.Core.List.{List, [], ◌∷◌, ◌++◌, Memᴰ as Mem}
use mathlib.Core.Logic.{◌⊎◌, inr, ⊎_elim}
use mathlib.Core.Path.{◌≡◌, refl, sym, ap, ◌∙◌, subst}
use Prim.Native.Nat.{ℕ, zero, ◌*◌, ◌/◌, ◌<◌}
use native.Mathlib.Nat.{lt-div-mul-add, mul-div-le, mul_comm, div-lt_iff_lt-mul, div-eq_of_lt-le}
use native.Mathlib.Omega.{arith}
use lib.Dec.{eqb}
use borrow.Author.Tests.{eqb-true, eq-eqb}
use Rattle.lists.specs.All.{Below, below_mem, mem_below}
use Rattle.lists.specs.Choice.{tested, or_cases}
use Rattle.lists.specs.Range.{up_from_in, up_from_of}
use Rattle.tree.specs.Sets.{children, parents, siblings, below, mem, without, push}
use Rattle.tree.specs.Tree.{at}

-- ---- the children of a node

pub child_in : (b i : ℕ) → zero < b → Mem i (children b (i / b))
unfolding children
child_in b i h = up_from_in (b * (i / b)) b i (mul-div-le i b) (omega (arith, lt-div-mul-add {a = i} h, mul_comm b (i / b)))

pub child_of : (b p c : ℕ) → zero < b → Mem c (children b p) → c / b ≡ p
unfolding children
child_of b p c h m =
    let r = up_from_of (b * p) b c m in
    div-eq_of_lt-le b (omega (arith, mul_comm b p)) (omega (arith, mul_comm b p))

pub below_in : {c p : ℕ} (b : ℕ) {ps : List ℕ} → Mem p ps → Mem c (children b p) → Mem c (below b ps)
unfolding below
below_in {c} {p} b (here {x = q} {xs = ps} e) m = in_left (below b ps) (subst (λ (x : ℕ). Mem c (children b x)) e m)
below_in b (there {x = q} k) m = in_right (children b q) (below_in b k m)

pub below_of : {c : ℕ} (b : ℕ) (ps : List ℕ) → zero < b → Mem c (below b ps) → Mem (c / b) ps
unfolding below
below_of b [] h m = absurd (not-nil m)
below_of {c} b (p ∷ ps) h m = ⊎_elim (λ k. here (child_of b p c h k)) (λ k. there (below_of b ps h k)) (in-cases (children b p) m)

-- ---- the test of membership

pub mem_in : (c : ℕ) (s : List ℕ) → mem c s ≡ true → Mem c s
unfolding mem
mem_in c [] e = absurd (false≢true e)
mem_in c (i ∷ s) e = ⊎_elim (λ k. here (sym (eqb-true i c k))) (λ k. there (mem_in c s k)) (or_cases (eqb i c) (mem c s) e)

pub mem_true : {c : ℕ} {s : List ℕ} → Mem c s → mem c s ≡ true
unfolding mem
mem_true {c} (here {x = i} {xs = s} e) = ap (λ (t : Bool). t || mem c s) (eq-eqb i c (sym e))
mem_true {c} (there {x = i} m) = ap (λ (t : Bool). eqb i c || t) (mem_true m) ∙ or-true (eqb i c)

pub without_in : {c : ℕ} (s : List ℕ) {cs : List ℕ} → Mem c cs → mem c s ≡ false → Mem c (without s cs)
unfolding without
without_in {c} s (here {x = d} {xs = cs} e) f = rw (ap (λ (x : ℕ). mem x s) (sym e) ∙ f, without) (here e)
without_in {c} s (there {x = d} {xs = cs} m) f =
    let ih = without_in s m f in
    ⊎_elim (λ (e : mem d s ≡ true). rw (e, without) ih) (λ (e : mem d s ≡ false). rw (e, without) (there ih)) (tested (mem d s))

pub without_of : {c : ℕ} (s cs : List ℕ) → Mem c (without s cs) → Mem c cs × (mem c s ≡ false)
unfolding without
without_of s [] m = absurd (not-nil m)
without_of {c} s (d ∷ cs) m = ⊎_elim
    (λ (e : mem d s ≡ true). let ih = without_of s cs (rw (e, without) at m) in (there ih.0, ih.1))
    (λ (e : mem d s ≡ false). ⊎_elim (λ (q : c ≡ d). (here q, ap (λ (x : ℕ). mem x s) q ∙ e)) (λ k. let ih = without_of s cs k in (there ih.0, ih.1)) (cases_cons (rw (e, without) at m)))
    (tested (mem d s))

-- ---- the nodes above a set

push-here : (p : ℕ) (ps : List ℕ) → Mem p (push p ps)
unfolding push
push-here p [] = here refl
push-here p (q ∷ ps) = ⊎_elim
    (λ (e : eqb p q ≡ true). rw (e, push) (here (eqb-true p q e)))
    (λ (e : eqb p q ≡ false). rw (e, push) (here refl))
    (tested (eqb p q))

push_there : {c : ℕ} (p : ℕ) {ps : List ℕ} → Mem c ps → Mem c (push p ps)
unfolding push
push_there p {ps = []} m = there m
push_there p {ps = q ∷ ps} m = ⊎_elim
    (λ (e : eqb p q ≡ true). rw (e, push) m)
    (λ (e : eqb p q ≡ false). rw (e, push) (there m))
    (tested (eqb p q))

push_of : {c : ℕ} (p : ℕ) (ps : List ℕ) → Mem c (push p ps) → (c ≡ p) ⊎ Mem c ps
unfolding push
push_of p [] m = cases_cons m
push_of p (q ∷ ps) m = ⊎_elim
    (λ (e : eqb p q ≡ true). inr (rw (e, push) at m))
    (λ (e : eqb p q ≡ false). cases_cons (rw (e, push) at m))
    (tested (eqb p q))

pub parents_in : {i : ℕ} (b : ℕ) {s : List ℕ} → Mem i s → Mem (i / b) (parents b s)
unfolding parents
parents_in {i} b (here {x = j} {xs = s} e) = subst (λ (x : ℕ). Mem (x / b) (push (j / b) (parents b s))) (sym e) (push-here (j / b) (parents b s))
parents_in b (there {x = j} m) = push_there (j / b) (parents_in b m)

pub parents_of : {p : ℕ} (b : ℕ) (s : List ℕ) → Mem p (parents b s) → (i : ℕ) × Mem i s × (p ≡ i / b)
unfolding parents
parents_of b [] m = absurd (not-nil m)
parents_of b (j ∷ s) m = ⊎_elim
    (λ e. (j, here refl, e))
    (λ k. let ih = parents_of b s k in (ih.0, there ih.1, ih.2))
    (push_of (j / b) (parents b s) m)

-- a child of a node above the set is in the set or missing
pub known : {c p : ℕ} (b : ℕ) (s : List ℕ) → Mem p (parents b s) → Mem c (children b p) → Mem c (s ++ siblings b s)
unfolding siblings
known {c} b s h m = ⊎_elim
    (λ (e : mem c s ≡ true). in_left (siblings b s) (mem_in c s e))
    (λ (e : mem c s ≡ false). in_right s (without_in s (below_in b h m) e))
    (tested (mem c s))

-- ---- below a bound

pub parents_below : (b n : ℕ) (s : List ℕ) → zero < b → Below (n * b) s → Below n (parents b s)
parents_below b n s h l = mem_below n (parents b s) (λ p m. let o = parents_of b s m in subst (λ (x : ℕ). x < n) (sym o.2) ((div-lt_iff_lt-mul h).1 (below_mem (n * b) s l o.0 o.1)))

pub siblings_below : (b n : ℕ) (s : List ℕ) → zero < b → Below (n * b) s → Below (n * b) (siblings b s)
unfolding siblings
siblings_below b n s h l =
    mem_below (n * b) (siblings b s)
    (λ c m. (div-lt_iff_lt-mul h).0 (below_mem n (parents b s) (parents_below b n s h l) (c / b) (below_of b (parents b s) h (without_of s (below b (parents b s)) m).0)))

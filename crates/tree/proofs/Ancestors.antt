-- The nodes above a set are the quotients of its numbers, each once; so they are counted by neighbours.
use mathlib.Core.Bool.{Bool, true, false, not}
use mathlib.Core.List.{List, [], ◌∷◌}
use mathlib.Core.Logic.{⊎_elim}
use mathlib.Core.Path.{◌≡◌, refl, sym, ap, ◌∙◌}
use Prim.Native.Nat.{ℕ, zero, suc, ◌+◌, ◌*◌, ◌/◌, ◌^◌, ◌<◌}
use native.Mathlib.Nat.{one-mul, pow-zero, pow-suc, div-div-eq-div-mul, not-suc-le-zero}
use native.Mathlib.Numerals.{add-one}
use native.Mathlib.Omega.{arith}
use lib.Dec.{eqb}
use lib.ListN.{length, get_or}
use borrow.Author.Tests.{eqb-true, eq-eqb}
use Rattle.lists.specs.Choice.{pick, tested}
use Rattle.lists.specs.Rising.{Rising}
use Rattle.lists.specs.Tests.{tally, tally_front}
use Rattle.tree.specs.Ancestors.{ancestors, changes}
use Rattle.tree.specs.Sets.{parents, push}
use Rattle.tree.proofs.Counts.{parents-rising}

-- ---- the values of a function on a list, each once where equal ones stand side by side

collapse : (ℕ → ℕ) → List ℕ → List ℕ
collapse f [] = []
collapse f (i ∷ s) = push (f i) (collapse f s)

push_twice : (p : ℕ) (t : List ℕ) → push p (push p t) ≡ push p t
unfolding push
push_twice p [] = ap (λ (b : Bool). pick b (p ∷ []) (p ∷ p ∷ [])) (eq-eqb p p refl)
push_twice p (q ∷ t) = ⊎_elim
    (λ (e : eqb p q ≡ true). rw (e, e) refl)
    (λ (e : eqb p q ≡ false). rw (e, eq-eqb p p refl) refl)
    (tested (eqb p q))

collapse-push : (f : ℕ → ℕ) (p : ℕ) (t : List ℕ) → collapse f (push p t) ≡ push (f p) (collapse f t)
unfolding push collapse
collapse-push f p [] = refl
collapse-push f p (q ∷ t) = ⊎_elim
    (λ (e : eqb p q ≡ true).
    ap (λ (b : Bool). collapse f (pick b (q ∷ t) (p ∷ q ∷ t))) e
    ∙ sym (push_twice (f q) (collapse f t))
    ∙ ap (λ (i : ℕ). push (f i) (push (f q) (collapse f t))) (sym (eqb-true p q e)))
    (λ (e : eqb p q ≡ false). ap (λ (b : Bool). collapse f (pick b (q ∷ t) (p ∷ q ∷ t))) e)
    (tested (eqb p q))

collapse-collapse : (f g : ℕ → ℕ) (s : List ℕ) → collapse f (collapse g s) ≡ collapse (λ i. f (g i)) s
unfolding collapse
collapse-collapse f g [] = refl
collapse-collapse f g (i ∷ s) = collapse-push f (g i) (collapse g s) ∙ ap (push (f (g i))) (collapse-collapse f g s)

collapse_ext : (f g : ℕ → ℕ) → ((i : ℕ) → f i ≡ g i) → (s : List ℕ) → collapse f s ≡ collapse g s
unfolding collapse
collapse_ext f g h [] = refl
collapse_ext f g h (i ∷ s) = ap (λ (p : ℕ). push p (collapse f s)) (h i) ∙ ap (push (g i)) (collapse_ext f g h s)

-- how many they are
push_count : (p q : ℕ) (t : List ℕ) → length (push p (push q t)) ≡ pick (eqb p q) (length (push q t)) (suc (length (push q t)))
unfolding push
push_count p q [] = apart (eqb p q)
  where
    apart : (b : Bool) → length (pick b (q ∷ []) (p ∷ q ∷ [])) ≡ pick b 1 2
    apart true = refl
    apart false = refl
push_count p q (r ∷ t) = ⊎_elim
    (λ (e : eqb q r ≡ true).
    ap (λ (b : Bool). length (push p (pick b (r ∷ t) (q ∷ r ∷ t)))) e
    ∙ ap (λ (x : ℕ). length (push p (x ∷ t))) (sym (eqb-true q r e))
    ∙ apart (eqb p q) (q ∷ t)
    ∙ ap (λ (x : ℕ). pick (eqb p q) (length (x ∷ t)) (suc (length (x ∷ t)))) (eqb-true q r e)
    ∙ ap (λ (b : Bool). pick (eqb p q) (length (pick b (r ∷ t) (q ∷ r ∷ t))) (suc (length (pick b (r ∷ t) (q ∷ r ∷ t))))) (sym e))
    (λ (e : eqb q r ≡ false).
    ap (λ (b : Bool). length (push p (pick b (r ∷ t) (q ∷ r ∷ t)))) e
    ∙ apart (eqb p q) (q ∷ r ∷ t)
    ∙ ap (λ (b : Bool). pick (eqb p q) (length (pick b (r ∷ t) (q ∷ r ∷ t))) (suc (length (pick b (r ∷ t) (q ∷ r ∷ t))))) (sym e))
    (tested (eqb q r))
  where
    apart : (b : Bool) (x : List ℕ) → length (pick b x (p ∷ x)) ≡ pick b (length x) (suc (length x))
    apart true x = refl
    apart false x = refl

collapse_count : (g : ℕ → ℕ) (i : ℕ) (s : List ℕ) → length (collapse g (i ∷ s)) ≡ suc (tally (length s) (λ a. not (eqb (g (get_or (i ∷ s) a 0)) (g (get_or (i ∷ s) (suc a) 0)))))
unfolding collapse push tally
collapse_count g i [] = refl
collapse_count g i (j ∷ s) =
    let n : ℕ = tally (length s) (λ a. not (eqb (g (get_or (j ∷ s) a 0)) (g (get_or (j ∷ s) (suc a) 0)))) in
    push_count (g i) (g j) (collapse g s)
    ∙ ap (λ (k : ℕ). pick (eqb (g i) (g j)) k (suc k)) (collapse_count g j s)
    ∙ other (eqb (g i) (g j)) n
    ∙ ap suc (sym (tally_front (length s) (λ a. not (eqb (g (get_or (i ∷ j ∷ s) a 0)) (g (get_or (i ∷ j ∷ s) (suc a) 0))))))
  where
    other : (b : Bool) (n : ℕ) → pick b (suc n) (suc (suc n)) ≡ suc (pick (not b) (suc n) n)
    other true n = refl
    other false n = refl

-- ---- the nodes above a set

parents-collapse : (b : ℕ) (s : List ℕ) → parents b s ≡ collapse (λ i. i / b) s
unfolding parents collapse
parents-collapse b [] = refl
parents-collapse b (i ∷ s) = ap (push (i / b)) (parents-collapse b s)

ancestors-collapse : (b k : ℕ) (s : List ℕ) → ancestors b (suc k) s ≡ collapse (λ i. i / b ^ suc k) s
unfolding ancestors
ancestors-collapse b zero s = parents-collapse b s ∙ collapse_ext (λ i. i / b) (λ i. i / b ^ 1) (λ i. ap (λ (d : ℕ). i / d) (sym (pow-suc b 0 ∙ ap (λ (m : ℕ). m * b) (pow-zero b) ∙ one-mul b))) s
ancestors-collapse b (suc k) s =
    ap (parents b) (ancestors-collapse b k s)
    ∙ parents-collapse b (collapse (λ i. i / b ^ suc k) s)
    ∙ collapse-collapse (λ i. i / b) (λ i. i / b ^ suc k) s
    ∙ collapse_ext (λ i. i / b ^ suc k / b) (λ i. i / b ^ suc (suc k)) (λ i. div-div-eq-div-mul i (b ^ suc k) b ∙ ap (λ (d : ℕ). i / d) (sym (pow-suc b (suc k)))) s

pub ancestors_count : (b k : ℕ) (s : List ℕ) → zero < length s → length (ancestors b (suc k) s) ≡ changes (b ^ suc k) s + 1
unfolding changes
ancestors_count b k [] l = absurd (not-suc-le-zero l)
ancestors_count b k (i ∷ s) l =
    ap length (ancestors-collapse b k (i ∷ s))
    ∙ collapse_count (λ i. i / b ^ suc k) i s
    ∙ sym (add-one (tally (length s) (λ a. not (eqb (get_or (i ∷ s) a 0 / b ^ suc k) (get_or (i ∷ s) (suc a) 0 / b ^ suc k)))))
    ∙ ap (λ (n : ℕ). tally n (λ a. not (eqb (get_or (i ∷ s) a 0 / b ^ suc k) (get_or (i ∷ s) (suc a) 0 / b ^ suc k))) + 1) (omega arith)

pub ancestors-rising : (b k : ℕ) (s : List ℕ) → zero < b → Rising s → Rising (ancestors b k s)
unfolding ancestors
ancestors-rising b zero s h r = r
ancestors-rising b (suc k) s h r = parents-rising b (ancestors b k s) h (ancestors-rising b k s h r)

-- Whether the elements of a list differ: the test, and what it says.
use Rattle.std.specs.Prelude.{◌≡◌, refl, ◌≢◌, Bool, true, false, not, ◌&&◌, List, [], ◌∷◌, ℕ, suc, ◌<◌, eqb, length, get_or}
use Rattle.std.proofs.Common.{sym, ap, ◌∙◌, ⊎_elim, suc-le-suc, zero-lt-suc, eqb-true, eq-eqb, ne_eqb}
use Rattle.std.proofs.lemmas.Bool.{false≢true}
use Rattle.lists.specs.Choice.{tested, and_true, both_true}
use Rattle.lists.specs.All.{all_imp, Distinct, distinct_at}
use Rattle.lists.specs.Tests.{all, all_true, true_all}

-- no element stands twice
unfoldable pub differ : List ℕ → Bool
differ [] = true
differ (x ∷ xs) = all (λ y. not (eqb y x)) xs && differ xs

pub differ_true : (xs : List ℕ) → differ xs ≡ true → Distinct xs
unfolding differ
differ_true [] e = tt
differ_true (x ∷ xs) e =
    let h = and_true (all (λ y. not (eqb y x)) xs) (differ xs) e in
    (all_imp apart xs (all_true (λ y. not (eqb y x)) xs h.0), differ_true xs h.1)
  where
    apart : (y : ℕ) → not (eqb y x) ≡ true → y ≢ x
    apart y n k = false≢true (ap not (sym (eq-eqb y x k)) ∙ n)

pub true_differ : (xs : List ℕ) → Distinct xs → differ xs ≡ true
unfolding differ
true_differ [] d = refl
true_differ (x ∷ xs) d =
    both_true (all (λ y. not (eqb y x)) xs) (differ xs) (true_all (λ y. not (eqb y x)) xs (all_imp (λ (y : ℕ) (n : y ≢ x). ap not (ne_eqb y x n)) xs d.0)) (true_differ xs d.1)

-- two equal elements of a list, by their places
abbrev pub EqualPair : List ℕ → Type 0
EqualPair xs = (i : ℕ) × (j : ℕ) × (i < j) × (j < length xs) × (get_or xs i 0 ≡ get_or xs j 0)

found : (x : ℕ) (xs : List ℕ) → all (λ y. not (eqb y x)) xs ≡ false → (j : ℕ) × (j < length xs) × (x ≡ get_or xs j 0)
unfolding all
found x [] e = absurd (false≢true (sym e))
found x (y ∷ ys) e =
    ⊎_elim (λ (t : eqb y x ≡ true). (0, zero-lt-suc _, sym (eqb-true y x t)))
    (λ (n : eqb y x ≡ false). let h = found x ys (sym (ap (λ (b : Bool). not b && all (λ y. not (eqb y x)) ys) n) ∙ e) in (suc h.0, suc-le-suc h.1, h.2))
    (tested (eqb y x))

pub differ_false : (xs : List ℕ) → differ xs ≡ false → EqualPair xs
unfolding differ
differ_false [] e = absurd (false≢true (sym e))
differ_false (x ∷ xs) e =
    ⊎_elim
    (λ (t : all (λ y. not (eqb y x)) xs ≡ true).
    let h = differ_false xs (sym (ap (λ (b : Bool). b && differ xs) t) ∙ e) in (suc h.0, suc h.1, suc-le-suc h.2, suc-le-suc h.3, h.4))
    (λ (n : all (λ y. not (eqb y x)) xs ≡ false). let h = found x xs n in (0, suc h.0, zero-lt-suc _, suc-le-suc h.1, h.2))
    (tested (all (λ y. not (eqb y x)) xs))

pub false_differ : (xs : List ℕ) → EqualPair xs → differ xs ≡ false
false_differ xs h =
    ⊎_elim (λ (t : differ xs ≡ true). absurd (distinct_at 0 xs (differ_true xs t) h.0 h.1 h.2 h.3 (sym h.4)))
    (λ (n : differ xs ≡ false). n)
    (tested (differ xs))

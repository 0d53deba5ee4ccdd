-- The place of a rank: how a walk finds it, and that the unused number is inserted there.
use mathlib.Core.Path.{◌≡◌, refl, sym, ap, ◌∙◌}
use mathlib.Core.Bool.{Bool, true, false}
use mathlib.Core.Logic.{⊎_elim}
use mathlib.Core.List.{List, [], ◌∷◌, ◌++◌}
use Prim.Native.Nat.{ℕ, suc, ◌+◌, ◌≤◌, ◌<◌, zero-le, suc-le-suc}
use native.Mathlib.Nat.{add-zero, add-suc, suc-add}
use native.Mathlib.Numerals.{add-one}
use native.Mathlib.Omega.{arith}
use lib.Dec.{leb}
use lib.ListN.{length, get_or, take, drop}
use lib.Seq.{drop-cons}
use borrow.Author.Tests.{le-leb, lt-leb, lt-ltb, le-ltb}
use Rattle.lists.specs.Choice.{pick}
use Rattle.lists.specs.Number.{order}
use Rattle.lists.specs.Sorted.{inserted}
use Rattle.fiat_shamir.specs.Ranks.{ranked}
use Rattle.leaf_draw.specs.Place.{place_of}

-- the first used one is not above the rank, or it is
place_past : (r u : ℕ) (us : List ℕ) → u ≤ r → place_of r (u ∷ us) ≡ suc (place_of (suc r) us)
unfolding place_of
place_past r u us l = ap (λ (b : Bool). pick b (suc (place_of (suc r) us)) 0) (le-leb u r l)

place_here : (r u : ℕ) (us : List ℕ) → r < u → place_of r (u ∷ us) ≡ 0
unfolding place_of
place_here r u us l = ap (λ (b : Bool). pick b (suc (place_of (suc r) us)) 0) (lt-leb u r l)

-- the unused number is the rank and the number of used ones before it
pub ranked_place : (r : ℕ) (us : List ℕ) → ranked r us ≡ r + place_of r us
unfolding ranked place_of
ranked_place r [] = sym (add-zero r)
ranked_place r (u ∷ us) = step (ranked_place (suc r) us) (leb u r)
  where
    step : ranked (suc r) us ≡ suc r + place_of (suc r) us → (b : Bool) → pick b (ranked (suc r) us) r ≡ r + pick b (suc (place_of (suc r) us)) 0
    step h true = h ∙ suc-add r (place_of (suc r) us) ∙ sym (add-suc r (place_of (suc r) us))
    step h false = sym (add-zero r)

pub place_few : (r : ℕ) (us : List ℕ) → place_of r us ≤ length us
unfolding place_of
place_few r [] = zero-le
place_few r (u ∷ us) = step (place_few (suc r) us) (leb u r)
  where
    step : place_of (suc r) us ≤ length us → (b : Bool) → pick b (suc (place_of (suc r) us)) 0 ≤ suc (length us)
    step h true = suc-le-suc h
    step h false = zero-le

-- ---- the walk, at used one k

pub walk_on : (r : ℕ) (us : List ℕ) (k : ℕ) → k < length us → get_or us k 0 ≤ r + k → k + place_of (r + k) (drop k us) ≡ k + 1 + place_of (r + (k + 1)) (drop (k + 1) us)
walk_on r us k l h =
    let e : suc (r + k) ≡ r + (k + 1) = omega arith in
    ap (λ (t : List ℕ). k + place_of (r + k) t) (drop-cons us k 0 l)
    ∙ ap (λ (n : ℕ). k + n) (place_past (r + k) (get_or us k 0) (drop (suc k) us) h)
    ∙ ap (λ (n : ℕ). k + suc (place_of n (drop (suc k) us))) e
    ∙ ap (λ (n : ℕ). k + suc (place_of (r + (k + 1)) (drop n us))) (sym (add-one k))
    ∙ omega arith

pub walk_stop : (r : ℕ) (us : List ℕ) (k : ℕ) → k < length us → r + k < get_or us k 0 → k + place_of (r + k) (drop k us) ≡ k
walk_stop r us k l h =
    ap (λ (t : List ℕ). k + place_of (r + k) t) (drop-cons us k 0 l) ∙ ap (λ (n : ℕ). k + n) (place_here (r + k) (get_or us k 0) (drop (suc k) us) h) ∙ add-zero k

pub walk_end : (r : ℕ) (us : List ℕ) (k : ℕ) → drop k us ≡ [] → k + place_of (r + k) (drop k us) ≡ k
unfolding place_of
walk_end r us k e = ap (λ (t : List ℕ). k + place_of (r + k) t) e ∙ add-zero k

-- ---- the insertion

pub inserted_place : (r : ℕ) (us : List ℕ) → inserted (ranked r us) us ≡ take (place_of r us) us ++ (ranked r us ∷ drop (place_of r us) us)
unfolding inserted ranked place_of
inserted_place r [] = refl
inserted_place r (u ∷ us) = ⊎_elim
    (λ (l : u ≤ r).
    let x : ℕ = ranked (suc r) us in
    let above : u < x = omega (arith, ranked_place (suc r) us) in
    ap (λ (b : Bool). inserted (pick b x r) (u ∷ us)) (le-leb u r l)
    ∙ ap (λ (b : Bool). pick b (x ∷ u ∷ us) (u ∷ inserted x us)) (le-ltb x u (omega arith))
    ∙ ap (λ (t : List ℕ). u ∷ t) (inserted_place (suc r) us)
    ∙ sym (ap (λ (b : Bool). take (pick b (suc (place_of (suc r) us)) 0) (u ∷ us) ++ (pick b x r ∷ drop (pick b (suc (place_of (suc r) us)) 0) (u ∷ us))) (le-leb u r l)))
    (λ (l : r < u).
    let x : ℕ = ranked (suc r) us in
    ap (λ (b : Bool). inserted (pick b x r) (u ∷ us)) (lt-leb u r l)
    ∙ ap (λ (b : Bool). pick b (r ∷ u ∷ us) (u ∷ inserted r us)) (lt-ltb r u l)
    ∙ sym (ap (λ (b : Bool). take (pick b (suc (place_of (suc r) us)) 0) (u ∷ us) ++ (pick b x r ∷ drop (pick b (suc (place_of (suc r) us)) 0) (u ∷ us))) (lt-leb u r l)))
    (order u r)

-- One child of a node: is it the set's next one, or the next of the others?
use mathlib.Core.Bool.{true, false, false≢true}
use mathlib.Core.List.{List, ◌∷◌, ◌++◌, flatten, append_assoc, tail}
use mathlib.Core.Logic.{⊎_elim}
use mathlib.Core.Path.{◌≡◌, sym, ap, ◌∙◌}
use Prim.Native.Nat.{ℕ, zero, suc, ◌+◌, ◌≤◌, ◌<◌, ◌-◌, suc-le-suc, zero-le}
use native.Mathlib.Nat.{not-suc-le-zero, le_step, lt_of_not-le}
use native.Mathlib.Numerals.{sub-one, add-one}
use lib.Dec.{eqb}
use lib.ListN.{length, get_or, drop, drop_of_length-le}
use lib.Seq.{drop-cons}
use Rattle.lists.specs.Bytes.{Bytes}
use Rattle.lists.specs.Choice.{tested}
use Rattle.tree.specs.Tree.{at}
use Rattle.tree.specs.Walk.{used, skipped, fill, heads}

pub heads_at : (s : List ℕ) (a c : ℕ) → a < length s → heads (drop a s) c ≡ eqb (get_or s a 0) c
unfolding heads
heads_at s a c h = ap (λ (r : List ℕ). heads r c) (drop-cons s a 0 h)

pub heads_none : (s : List ℕ) (a c : ℕ) → length s ≤ a → heads (drop a s) c ≡ false
unfolding heads
heads_none s a c h = ap (λ (r : List ℕ). heads r c) (drop_of_length-le s h)

pub heads_lt : (s : List ℕ) (a c : ℕ) → heads (drop a s) c ≡ true → a < length s
heads_lt s a c e = lt_of_not-le (λ h. false≢true (sym (heads_none s a c h) ∙ e))

pub fill_own : (c left : ℕ) (s : List ℕ) (ds ns : List Bytes) → 0 < left → heads s c ≡ true
    → fill c left s ds ns ≡ at ds 0 ∷ fill (c + 1) (left - 1) (tail s) (tail ds) ns
unfolding fill
fill_own c zero s ds ns h e = absurd (not-suc-le-zero h)
fill_own c (suc k) s ds ns h e = rw (e, add-one c, sub-one (suc k))

pub fill_listed : (c left : ℕ) (s : List ℕ) (ds ns : List Bytes) → 0 < left → heads s c ≡ false
    → fill c left s ds ns ≡ at ns 0 ∷ fill (c + 1) (left - 1) s ds (tail ns)
unfolding fill
fill_listed c zero s ds ns h e = absurd (not-suc-le-zero h)
fill_listed c (suc k) s ds ns h e = rw (e, add-one c, sub-one (suc k))

pub used_own : (c left : ℕ) (s : List ℕ) → 0 < left → heads s c ≡ true → used c left s ≡ suc (used (c + 1) (left - 1) (tail s))
unfolding used
used_own c zero s h e = absurd (not-suc-le-zero h)
used_own c (suc k) s h e = rw (e, add-one c, sub-one (suc k))

pub used_listed : (c left : ℕ) (s : List ℕ) → 0 < left → heads s c ≡ false → used c left s ≡ used (c + 1) (left - 1) s
unfolding used
used_listed c zero s h e = absurd (not-suc-le-zero h)
used_listed c (suc k) s h e = rw (e, add-one c, sub-one (suc k))

pub used_most : (c k : ℕ) (s : List ℕ) → used c k s ≤ k
unfolding used
used_most c zero s = zero-le
used_most c (suc k) s = ⊎_elim
    (λ (e : heads s c ≡ true). rw e (suc-le-suc (used_most (suc c) k (tail s))))
    (λ (e : heads s c ≡ false). rw e (le_step (used_most (suc c) k s)))
    (tested (heads s c))

pub skipped_own : (c left : ℕ) (s : List ℕ) → 0 < left → heads s c ≡ true → skipped c left s ≡ skipped (c + 1) (left - 1) (tail s)
unfolding skipped
skipped_own c zero s h e = absurd (not-suc-le-zero h)
skipped_own c (suc k) s h e = rw (e, add-one c, sub-one (suc k))

pub skipped_listed : (c left : ℕ) (s : List ℕ) → 0 < left → heads s c ≡ false → skipped c left s ≡ c ∷ skipped (c + 1) (left - 1) s
unfolding skipped
skipped_listed c zero s h e = absurd (not-suc-le-zero h)
skipped_listed c (suc k) s h e = rw (e, add-one c, sub-one (suc k))

pub next_filled : (front x d : Bytes) (r rest : List Bytes) → x ≡ front ++ d → r ≡ d ∷ rest → x ++ flatten rest ≡ front ++ flatten r
unfolding flatten
next_filled front x d r rest e q =
    ap (λ (y : Bytes). y ++ flatten rest) e ∙ append_assoc front d (flatten rest) ∙ ap (λ (y : List Bytes). front ++ flatten y) (sym q)

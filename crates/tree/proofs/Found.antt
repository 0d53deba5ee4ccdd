-- What is found for a node in a list of nodes and the list of their strings.
use mathlib.Core.Bool.{true, false}
use mathlib.Core.List.Memᴰ.{head as here, tail as there}
use mathlib.Core.List.{List, [], ◌∷◌, ◌++◌, map, Memᴰ as Mem, append-nil, tail}
use mathlib.Core.Logic.{⊎_elim}
use mathlib.Core.Path.{◌≡◌, refl, sym, ap, ◌∙◌}
use Prim.Native.Nat.{ℕ, ◌≤◌}
use native.Mathlib.Nat.{not-suc-le-zero, le_of_suc-le-suc, suc_inj, suc-ne-zero}
use lib.Dec.{eqb}
use lib.ListN.{length, drop}
use borrow.Author.Tests.{eqb-true, eq-eqb, ne_eqb}
use Rattle.lists.specs.Bytes.{Bytes}
use Rattle.lists.specs.Choice.{pick, tested}
use Rattle.tree.specs.Tree.{at, found}

-- strings that a function gives for the nodes of a list are found again
pub found_map : (v : ℕ → Bytes) {c : ℕ} {xs : List ℕ} (rest : List Bytes) → Mem c xs → found xs (map v xs ++ rest) c ≡ v c
unfolding found
found_map v {c} rest (here {x = i} {xs = xs} e) = rw (eq-eqb i c (sym e), found) (ap v (sym e))
found_map v {c} rest (there {x = i} {xs = xs} m) = ⊎_elim
    (λ (e : eqb i c ≡ true). rw (e, found) (ap v (eqb-true i c e)))
    (λ (e : eqb i c ≡ false). rw (e, found) (found_map v rest m))
    (tested (eqb i c))

pub found_all : (v : ℕ → Bytes) {c : ℕ} {xs : List ℕ} → Mem c xs → found xs (map v xs) c ≡ v c
found_all v {c} {xs} m = ap (λ (ds : List Bytes). found xs ds c) (sym (append-nil (map v xs))) ∙ found_map v [] m

-- what stands behind does not count
pub found_left : {c : ℕ} {xs : List ℕ} (ys : List ℕ) (ds es : List Bytes) → Mem c xs → length xs ≡ length ds → found (xs ++ ys) (ds ++ es) c ≡ found xs ds c
unfolding found
found_left ys [] es (here {xs = xs} e) l = absurd (suc-ne-zero (length xs) l)
found_left ys [] es (there {xs = xs} e) l = absurd (suc-ne-zero (length xs) l)
found_left {c} ys (d ∷ ds) es (here {x = i} e) l = rw (eq-eqb i c (sym e), found)
found_left {c} ys (d ∷ ds) es (there {x = i} m) l = ap (λ (r : Bytes). pick (eqb i c) d r) (found_left ys ds es m (suc_inj l))

-- what is found is one of the strings
pub found_in : {c : ℕ} {xs : List ℕ} (ds : List Bytes) → Mem c xs → length xs ≤ length ds → Mem (found xs ds c) ds
unfolding found
found_in [] (here {xs = xs} e) l = absurd (not-suc-le-zero l)
found_in [] (there {xs = xs} e) l = absurd (not-suc-le-zero l)
found_in {c} (d ∷ ds) (here {x = i} e) l = rw (eq-eqb i c (sym e), found) (here refl)
found_in {c} (d ∷ ds) (there {x = i} m) l = ⊎_elim
    (λ (e : eqb i c ≡ true). rw (e, found) (here refl))
    (λ (e : eqb i c ≡ false). rw (e, found) (there (found_in ds m (le_of_suc-le-suc l))))
    (tested (eqb i c))

pub found_under : (f : Bytes → Bytes) {c : ℕ} {xs : List ℕ} (ds : List Bytes) → Mem c xs → length xs ≤ length ds → found xs (map f ds) c ≡ f (found xs ds c)
unfolding found
found_under f [] (here {xs = xs} e) l = absurd (not-suc-le-zero l)
found_under f [] (there {xs = xs} e) l = absurd (not-suc-le-zero l)
found_under f {c} (d ∷ ds) (here {x = i} e) l = rw (eq-eqb i c (sym e), found)
found_under f {c} (d ∷ ds) (there {x = i} m) l = ⊎_elim
    (λ (e : eqb i c ≡ true). rw (e, found))
    (λ (e : eqb i c ≡ false). rw (e, found) (found_under f ds m (le_of_suc-le-suc l)))
    (tested (eqb i c))

found-nil : (xs : List ℕ) (c : ℕ) → found xs [] c ≡ []
unfolding found
found-nil [] c = refl
found-nil (i ∷ xs) c = refl

-- keys behind a key that is there do not count
pub found_prefix : {c : ℕ} {xs : List ℕ} (ys : List ℕ) (es : List Bytes) → Mem c xs → found (xs ++ ys) es c ≡ found xs es c
unfolding found
found_prefix {xs = []} ys [] m = elim m [ ]
found_prefix {xs = x ∷ xs} ys [] m = refl
found_prefix {c} ys (e ∷ es) (here {x = i} q) = rw (eq-eqb i c (sym q), found)
found_prefix {c} ys (e ∷ es) (there {x = i} m) = ap (λ (r : Bytes). pick (eqb i c) e r) (found_prefix ys es m)

-- keys that are not c are passed over
pub found_skip : {c : ℕ} (xs ys : List ℕ) (es : List Bytes) → (Mem c xs → ⊥) → found (xs ++ ys) es c ≡ found ys (drop (length xs) es) c
unfolding found
found_skip [] ys es n = refl
found_skip {c} (x ∷ xs) ys [] n = sym (found-nil ys c)
found_skip {c} (x ∷ xs) ys (e ∷ es) n = rw (ne_eqb x c (λ q. n (here (sym q)))) (found_skip xs ys es (λ m. n (there m)))

-- a listed node between the set's and the other listed ones
pub found_insert : {c x : ℕ} (s ys : List ℕ) (ds nodes : List Bytes) → (c ≡ x → ⊥) → length s ≡ length ds
    → found (s ++ (c ∷ ys)) (ds ++ nodes) x ≡ found (s ++ ys) (ds ++ tail nodes) x
unfolding found
found_insert {c} {x} [] ys [] [] n e = sym (found-nil ys x)
found_insert {c} {x} [] ys [] (d ∷ nodes) n e = rw (ne_eqb c x n)
found_insert [] ys (d ∷ ds) nodes n e = absurd (suc-ne-zero (length ds) (sym e))
found_insert (i ∷ s) ys [] nodes n e = absurd (suc-ne-zero (length s) e)
found_insert {c} {x} (i ∷ s) ys (d ∷ ds) nodes n e = ap (λ (r : Bytes). pick (eqb i x) d r) (found_insert s ys ds nodes n (suc_inj e))

pub found_first : (c : ℕ) (ys : List ℕ) (nodes : List Bytes) → found (c ∷ ys) nodes c ≡ at nodes 0
unfolding found
found_first c ys [] = refl
found_first c ys (d ∷ nodes) = rw (eq-eqb c c refl)

-- Lists given by a function of the place, and what a loop leaves that writes a list from the front.
use Rattle.std.specs.Prelude.{◌≡◌, refl, List, [], ◌∷◌, ◌++◌, ℕ, zero, suc, ◌+◌, ◌<◌, length, get_or, drop, set}
use Rattle.std.proofs.Common.{sym, ap, ap₂, ◌∙◌, append-nil, add-zero, zero-add, suc-add, add-suc, le_of_suc-le-suc, not-suc-le-zero, add-one, arith, length-set, drop-cons, ext_get_or, get_or-set_same, get_or-set_other}
use Rattle.std.proofs.Math.Decide.{ℕ_discrete}
use Rattle.std.proofs.Math.Seq.{drop-length, append_snoc}
use Rattle.std.proofs.lemmas.List.{get_or_at, set_at}

-- f i, f (i + 1), .., f (i + n - 1)
abbrev pub tabulate_from : ℕ → ℕ → (ℕ → ℕ) → List ℕ
tabulate_from i zero f = []
tabulate_from i (suc n) f = f i ∷ tabulate_from (suc i) n f

-- f 0, f 1, .., f (n - 1)
abbrev pub tabulate : ℕ → (ℕ → ℕ) → List ℕ
tabulate n f = tabulate_from 0 n f

-- ---- length, parts, entries

pub length_from : (i n : ℕ) (f : ℕ → ℕ) → length (tabulate_from i n f) ≡ n
length_from i zero f = refl
length_from i (suc n) f = ap suc (length_from (suc i) n f)

pub length-tabulate : (n : ℕ) (f : ℕ → ℕ) → length (tabulate n f) ≡ n
length-tabulate n f = length_from 0 n f

pub split_from : (i a b : ℕ) (f : ℕ → ℕ) → tabulate_from i (a + b) f ≡ tabulate_from i a f ++ tabulate_from (i + a) b f
split_from i zero b f = rw (zero-add, add-zero)
split_from i (suc a) b f =
    ap (λ (k : ℕ). tabulate_from i k f) (suc-add a b)
    ∙ ap (λ (r : List ℕ). f i ∷ r)
    (split_from (suc i) a b f ∙ ap (λ (k : ℕ). tabulate_from (suc i) a f ++ tabulate_from k b f) (suc-add i a ∙ sym (add-suc i a)))

get_or_from : (i n : ℕ) (f : ℕ → ℕ) (k : ℕ) → k < n → get_or (tabulate_from i n f) k 0 ≡ f (i + k)
get_or_from i zero f k h = absurd (not-suc-le-zero h)
get_or_from i (suc n) f zero h = ap f (sym (add-zero i))
get_or_from i (suc n) f (suc k) h = get_or_from (suc i) n f k (le_of_suc-le-suc h) ∙ ap f (suc-add i k ∙ sym (add-suc i k))

pub get_d_tabulate : (n : ℕ) (f : ℕ → ℕ) (k : ℕ) → k < n → get_or (tabulate n f) k 0 ≡ f k
get_d_tabulate n f k h = get_or_from 0 n f k h ∙ ap f (zero-add k)

-- ---- equality, entry by entry

-- a list of n elements, of which element k is f k
pub tabulate_is : (n : ℕ) (f : ℕ → ℕ) (s : List ℕ) → length s ≡ n → ((k : ℕ) → k < n → get_or s k 0 ≡ f k) → s ≡ tabulate n f
tabulate_is n f s e h =
    ext_get_or 0 s (tabulate n f) (e ∙ sym (length-tabulate n f))
    (λ k b. let l : k < n = omega arith in h k l ∙ sym (get_d_tabulate n f k l))

pub tabulate_ext : (n : ℕ) (f g : ℕ → ℕ) → ((k : ℕ) → k < n → f k ≡ g k) → tabulate n f ≡ tabulate n g
tabulate_ext n f g h = tabulate_is n g (tabulate n f) (length-tabulate n f) (λ k b. get_d_tabulate n f k b ∙ h k b)

-- entry k set to v
pub set-tabulate : (n k v : ℕ) (f g : ℕ → ℕ) → k < n → g k ≡ v → ((j : ℕ) → (j ≡ k → ⊥) → f j ≡ g j) → set (tabulate n f) k v ≡ tabulate n g
set-tabulate n k v f g b e h = tabulate_is n g (set (tabulate n f) k v) (length-set (tabulate n f) k v ∙ length-tabulate n f) (λ j l. entry j l (ℕ_discrete j k))
  where
    inside : k < length (tabulate n f)
    inside = rw (length-tabulate n f) b

    entry : (j : ℕ) → j < n → Dec (j ≡ k) → get_or (set (tabulate n f) k v) j 0 ≡ g j
    entry j l (yes d) = ap (λ (i : ℕ). get_or (set (tabulate n f) k v) i 0) d ∙ get_or-set_same (tabulate n f) k v 0 inside ∙ sym e ∙ ap g (sym d)
    entry j l (no d) = get_or-set_other (tabulate n f) k j v 0 d ∙ get_d_tabulate n f j l ∙ h j d

-- ---- a loop that sets element 0, 1, 2, .. of d to f 0, f 1, f 2, ..

-- d after n turns of it
abbrev pub filled : (ℕ → ℕ) → ℕ → List ℕ → List ℕ
filled f n d = tabulate n f ++ drop n d

-- the element that turn n writes is still that of d
pub fill-kept : (f : ℕ → ℕ) (n : ℕ) (d : List ℕ) → n < length d → get_or (filled f n d) n 0 ≡ get_or d n 0
fill-kept f n d h = rw (drop-cons d n 0) (get_or_at (tabulate n f) (get_or d n 0) (drop (suc n) d) 0 n (length-tabulate n f))

pub fill_more : (f : ℕ → ℕ) (n : ℕ) (d : List ℕ) → n < length d → set (filled f n d) n (f n) ≡ filled f (n + 1) d
fill_more f n d h =
    ap (λ (r : List ℕ). set (tabulate n f ++ r) n (f n)) (drop-cons d n 0 h)
    ∙ set_at (tabulate n f) (get_or d n 0) (drop (suc n) d) (f n) n (length-tabulate n f)
    ∙ sym (append_snoc (tabulate n f) (f n) (drop (suc n) d))
    ∙ ap₂ (λ (p q : List ℕ). p ++ q)
    (sym (split_from 0 n 1 f ∙ ap (λ (k : ℕ). tabulate n f ++ (f k ∷ [])) (zero-add n)))
    (ap (λ (k : ℕ). drop k d) (sym (add-one n)))

-- all of d is written
pub fill_all : (f : ℕ → ℕ) (n : ℕ) (d : List ℕ) → length d ≡ n → filled f n d ≡ tabulate n f
fill_all f n d e =
    let none : drop n d ≡ [] = ap (λ (k : ℕ). drop k d) (sym e) ∙ drop-length d in
    ap (λ (r : List ℕ). tabulate n f ++ r) none ∙ append-nil (tabulate n f)

-- `map`, `get_or` and membership.
use Rattle.std.specs.Prelude.{◌≡◌, refl, ℕ, zero, suc, ◌<◌, length, get_or, drop}
use Rattle.std.proofs.Common.{sym, ap, ap₂, ◌∙◌, not-suc-le-zero, le_of_suc-le-suc, drop_at}
use mathlib.Core.List.Memᴰ.{head as here, not-nil, tail as there}
use mathlib.Core.List.{List, [], ◌∷◌, ◌++◌, map, Memᴰ as Mem}

pub map_cong : {A B : Type 0} {f g : A → B} (cs : List A) → ((c : A) → Mem c cs → f c ≡ g c) → map f cs ≡ map g cs
map_cong [] h = refl
map_cong {B = B} (c ∷ cs) h = ap₂ {C = List B} (λ x xs. x ∷ xs) (h c (here refl)) (map_cong cs (λ d m. h d (there m)))

pub map_agree : {A B : Type 0} (f g : A → B) {c : A} {cs : List A} → Mem c cs → map f cs ≡ map g cs → f c ≡ g c
map_agree f g (here e) q = cc
map_agree f g (there m) q = map_agree f g m (cc)

pub map_in : {A B : Type 0} (f : A → B) {c : A} {cs : List A} → Mem c cs → Mem (f c) (map f cs)
map_in f (here e) = here (ap f e)
map_in f (there m) = there (map_in f m)

pub map_of : {A B : Type 0} {f : A → B} {d : B} (cs : List A) → Mem d (map f cs) → (c : A) × Mem c cs × (d ≡ f c)
map_of [] m = absurd (not-nil m)
map_of (c ∷ cs) (here e) = (c, here refl, e)
map_of (c ∷ cs) (there m) = let r = map_of cs m in (r.0, there r.1, r.2)

pub get_or-map_in : {A B : Type 0} (f : A → B) (xs : List A) (i : ℕ) (d : A) (e : B) → i < length xs → get_or (map f xs) i e ≡ f (get_or xs i d)
get_or-map_in f [] i d e l = absurd (not-suc-le-zero l)
get_or-map_in f (x ∷ xs) zero d e l = refl
get_or-map_in f (x ∷ xs) (suc i) d e l = get_or-map_in f xs i d e (le_of_suc-le-suc l)

pub get_or_in : (s : List ℕ) (a : ℕ) → a < length s → Mem (get_or s a 0) s
get_or_in [] a h = absurd (not-suc-le-zero h)
get_or_in (i ∷ s) zero h = here refl
get_or_in (i ∷ s) (suc a) h = there (get_or_in s a (le_of_suc-le-suc h))

pub append-cancel : {A : Type 0} (p xs ys : List A) → p ++ xs ≡ p ++ ys → xs ≡ ys
append-cancel p xs ys e = sym (drop_at p xs (length p) refl) ∙ ap (drop (length p)) e ∙ drop_at p ys (length p) refl

-- One more element at the end of a list.
use Rattle.std.specs.Prelude.{◌≡◌, List, [], ◌∷◌, ◌++◌, ℕ, ◌+◌, ◌<◌, length, get_or, take}
use Rattle.std.proofs.Common.{sym, ap, ◌∙◌, add-one, take-suc}

abbrev pub snoc : {A : Type 0} → List A → A → List A
snoc xs x = xs ++ (x ∷ [])

pub take_next : {A : Type 0} (d : A) (xs : List A) (i : ℕ) → i < length xs → snoc (take i xs) (get_or xs i d) ≡ take (i + 1) xs
take_next d xs i h = sym (take-suc xs i d h) ∙ ap (λ (n : ℕ). take n xs) (sym (add-one i))

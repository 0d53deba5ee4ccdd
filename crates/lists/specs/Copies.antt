-- What a copy leaves in a slice: bytes to a place, numbers to the front.
use Rattle.std.specs.Prelude.{List, [], ◌∷◌, ◌++◌, ◌≡◌, ℕ, ◌+◌, ◌≤◌, ◌<◌, length, get_or, take, drop, set}
use Rattle.std.proofs.Common.{append-nil, sym, ap, ap₂, ◌∙◌, zero-add, le_of_eq, add-one, arith, length-drop, drop_of_length-le, get_or-drop, take_all, take-suc-set, take-suc}
use Rattle.std.proofs.Math.Seq.{paste, paste-suc}
use Rattle.std.proofs.lemmas.List.Edits.{take-paste}
use Rattle.lists.specs.Bytes.{Bytes}

pub copy_step : (dst d src : Bytes) (to from i : ℕ) → dst ≡ paste d to (drop from src) i → to + i < length d → from + i < length src
    → set dst (to + i) (get_or src (from + i) 0) ≡ paste d to (drop from src) (i + 1)
copy_step dst d src to from i e h l =
    ap₂ (λ (x : Bytes) (v : ℕ). set x (to + i) v) e (sym (get_or-drop from src i 0))
    ∙ paste-suc d to (drop from src) i 0 h (omega (arith, length-drop from src))
    ∙ ap (paste d to (drop from src)) (sym (add-one i))

pub paste_front : (d s : Bytes) (n : ℕ) → n ≤ length s → take n (paste d 0 s n) ≡ take n s
paste_front d s n l = ap (λ (k : ℕ). take k (paste d 0 s n)) (sym (zero-add n)) ∙ take-paste d 0 s n (omega arith) l

pub paste_all : (d s : Bytes) (n : ℕ) → length d ≡ n → length s ≡ n → paste d 0 s n ≡ s
paste_all d s n h l =
    let short : length d ≤ 0 + n = omega arith in
    ap₂ (λ (x y : Bytes). x ++ y) (take_all n s (le_of_eq l)) (drop_of_length-le d short) ∙ append-nil s

pub index_step : (dst src : List ℕ) (i : ℕ) → take i dst ≡ take i src → i < length dst → i < length src
    → take (i + 1) (set dst i (get_or src i 0)) ≡ take (i + 1) src
index_step dst src i e h l =
    ap (λ (k : ℕ). take k (set dst i (get_or src i 0))) (add-one i)
    ∙ take-suc-set dst i (get_or src i 0) h
    ∙ ap (λ (r : List ℕ). r ++ (get_or src i 0 ∷ [])) e
    ∙ sym (ap (λ (k : ℕ). take k src) (add-one i) ∙ take-suc src i 0 l)

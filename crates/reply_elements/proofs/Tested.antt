-- What the code tests of a record.
use mathlib.Core.Path.{◌≡◌, refl, ap, ◌∙◌}
use mathlib.Core.Bool.{Bool, ◌&&◌}
use mathlib.Core.List.{List, [], ◌∷◌}
use Prim.Native.Nat.{ℕ}
use native.Mathlib.Nat.{zero-add}
use lib.ListN.{get_or, drop}
use Rattle.std.proofs.lemmas.List.FromFn.{length-range_with_len, get_or-range_with_len}
use Rattle.std.specs.List.{list_all, range_with_len}
use Rattle.lists.specs.Bytes.{words}
use Rattle.lists.specs.Tests.{all, all_is_each, each, each_ext}
use Rattle.scheme.specs.Sizes.{elements}
use Rattle.opened.specs.Records.{record_of, record_words_at}
use Rattle.reply_elements.specs.Elements.{record_elements_at}

-- record r is record a
pub record_tested : (at size n : ℕ) (reply : List ℕ) (a : ℕ) (r : List ℕ) (t : Bool) → r ≡ record_of at size reply a → t ≡ elements (words n (drop 0 r)) → t ≡ record_elements_at at size n reply a
unfolding record_elements_at record_words_at
record_tested at size n reply a r t e f = f ∙ ap (λ (x : List ℕ). elements (words n x)) e

-- a test of each number below n
pub range_each : (f : ℕ → Bool) (n : ℕ) → list_all f (range_with_len 0 n) ≡ each n f
unfolding all
range_each f n =
    each_of (range_with_len 0 n)
    ∙ all_is_each f 0 (range_with_len 0 n)
    ∙ ap (λ (k : ℕ). each k (λ i. f (get_or (range_with_len 0 n) i 0))) (length-range_with_len 0 n)
    ∙ each_ext n _ _ (λ i l. ap f (get_or-range_with_len 0 n i 0 l ∙ zero-add i))
  where
    each_of : (xs : List ℕ) → list_all f xs ≡ all f xs
    each_of [] = refl
    each_of (x ∷ xs) = ap (λ (b : Bool). f x && b) (each_of xs)

-- Leaf records: what the code reads of one.
use mathlib.Core.Path.{◌≡◌, refl, ap, ◌∙◌}
use mathlib.Core.List.{List, ◌++◌}
use Prim.Native.Nat.{ℕ}
use lib.ListN.{length, drop}
use Rattle.lists.specs.Bytes.{words, length-words}
use Rattle.opened.specs.Records.{record_of, record_words_at}
use Rattle.lists.specs.Rows.{front_all}

-- the first values of record r
pub values_read : (at size : ℕ) (reply d : List ℕ) (a : ℕ) (r t : List ℕ) → r ≡ record_of at size reply a → t ≡ words (length d) (drop 0 r) ++ drop (length d) d
    → t ≡ record_words_at at size (length d) reply a
unfolding record_words_at
values_read at size reply d a r t e f = f ∙ front_all (words (length d) r) d (length d) refl ∙ ap (words (length d)) e

pub length-record_words_at : (at size n : ℕ) (reply : List ℕ) (a : ℕ) → length (record_words_at at size n reply a) ≡ n
unfolding record_words_at
length-record_words_at at size n reply a = length-words n _

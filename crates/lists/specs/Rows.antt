-- Rows of one length, one after the other: a loop that writes them, and each row read again.
use Rattle.std.specs.Prelude.{◌≡◌, refl, Bool, ◌&&◌, ℕ, zero, suc, ◌+◌, ◌-◌, ◌*◌, ◌≤◌, ◌<◌, length, take, drop}
use Rattle.std.proofs.Math.Path.{sym, ap}
use Rattle.std.proofs.Common.{ap₂, ◌∙◌, zero-add, add-one, arith, take_at, drop-drop}
use mathlib.Core.List.{List, [], ◌∷◌, ◌++◌, map, flatten, append_assoc, append-nil, map-append}
use Rattle.std.proofs.Math.ListN.{get_or}
use Rattle.std.proofs.lemmas.List.{length-map}
use Rattle.std.proofs.Math.Seq.{drop-length, drop-append-add}
use borrow.Rule.Slice.PartMut.{put_mid, Post-is}
use Rattle.lists.specs.All.{Sized, all_each}
use Rattle.lists.specs.Range.{up_from-snoc, up_from, length-up_from, at_run}
use Rattle.lists.specs.Pieces.{piece, pieces, pieces_at, pieces-flatten, flatten-append, length-flatten}
use Rattle.lists.specs.Parts.{span_length}
use Rattle.lists.specs.Tests.{all, all_join, each}

-- the rows that f gives at the numbers below n, one after the other
unfoldable pub rows_of : (ℕ → List ℕ) → ℕ → List ℕ
rows_of f n = flatten (map f (up_from 0 n))

pub rows_none : (f : ℕ → List ℕ) → rows_of f 0 ≡ []
unfolding rows_of up_from flatten
rows_none f = refl

pub rows_next : (f : ℕ → List ℕ) (n : ℕ) → rows_of f (n + 1) ≡ rows_of f n ++ f n
unfolding rows_of flatten
rows_next f n =
    ap (λ (k : ℕ). flatten (map f (up_from 0 k))) (add-one n)
    ∙ ap (λ (t : List ℕ). flatten (map f t)) (up_from-snoc 0 n ∙ ap (λ (k : ℕ). up_from 0 n ++ (k ∷ [])) (zero-add n))
    ∙ ap flatten (map-append f (up_from 0 n) (n ∷ []))
    ∙ flatten-append (map f (up_from 0 n)) (f n ∷ [])
    ∙ ap (λ (t : List ℕ). flatten (map f (up_from 0 n)) ++ t) (append-nil (f n))

module _ (k : ℕ) (f : ℕ → List ℕ) (sized : (i : ℕ) → length (f i) ≡ k) where
  count : (n : ℕ) → length (map f (up_from 0 n)) ≡ n
  count n = length-map (up_from 0 n) f ∙ length-up_from 0 n

  rows-sized : (n : ℕ) → Sized k (map f (up_from 0 n))
  rows-sized n = all_each (λ (x : List ℕ). length x ≡ k) f (up_from 0 n) sized

  pub length-rows : (n : ℕ) → length (rows_of f n) ≡ k * n
  unfolding rows_of
  length-rows n = length-flatten k (map f (up_from 0 n)) (rows-sized n) ∙ ap (λ (j : ℕ). k * j) (count n)

  -- cut again
  pub rows-pieces : (n : ℕ) (rest : List ℕ) → pieces k n (rows_of f n ++ rest) ≡ map f (up_from 0 n)
  unfolding rows_of
  rows-pieces n rest =
      ap (λ (j : ℕ). pieces k j (flatten (map f (up_from 0 n)) ++ rest)) (sym (count n)) ∙ pieces-flatten k (map f (up_from 0 n)) rest (rows-sized n)

  -- row a of n
  pub row_at : (n a : ℕ) (rest : List ℕ) → a < n → piece k a (rows_of f n ++ rest) ≡ f a
  unfolding rows_of
  row_at n a rest l =
      sym (pieces_at k n a (flatten (map f (up_from 0 n)) ++ rest) l)
      ∙ ap (λ (t : List (List ℕ)). get_or t a []) (rows-pieces n rest)
      ∙ at_run f 0 n a [] l
      ∙ ap f (zero-add a)

  -- where the rows below a stand in front of d, row a is written behind them
  pub row_turn : (d t r : List ℕ) (a : ℕ) → t ≡ rows_of f a ++ drop (k * a) d → r ≡ f a
      → put_mid (k * a) (k * a + k - k * a) t r ≡ rows_of f (a + 1) ++ drop (k * (a + 1)) d
  row_turn d t r a e g =
      let h : length (rows_of f a) ≡ k * a = length-rows a in
      let n : k * a + k ≡ k * (a + 1) = omega arith in
      let rest : drop (k * a + k) t ≡ drop (k * (a + 1)) d =
      ap (drop (k * a + k)) e
      ∙ ap (λ (j : ℕ). drop (j + k) (rows_of f a ++ drop (k * a) d)) (sym h)
      ∙ drop-append-add (rows_of f a) (drop (k * a) d) k
      ∙ drop-drop k (k * a) d
      ∙ ap (λ (j : ℕ). drop j d) n in
      ap₂ (λ (x y : List ℕ). x ++ (r ++ y)) (ap (take (k * a)) e ∙ take_at (rows_of f a) (drop (k * a) d) (k * a) h) (Post-is (k * a) (k * a + k) t (omega arith) ∙ rest)
      ∙ ap (λ (x : List ℕ). rows_of f a ++ (x ++ drop (k * (a + 1)) d)) g
      ∙ sym (append_assoc (rows_of f a) (f a) (drop (k * (a + 1)) d))
      ∙ ap (λ (x : List ℕ). x ++ drop (k * (a + 1)) d) (sym (rows_next f a))

-- none written, and all
pub rows_start : (k : ℕ) (f : ℕ → List ℕ) (d : List ℕ) → d ≡ rows_of f 0 ++ drop (k * 0) d
rows_start k f d = let e : 0 ≡ k * 0 = omega arith in ap (λ (j : ℕ). drop j d) e ∙ ap (λ (x : List ℕ). x ++ drop (k * 0) d) (sym (rows_none f))

pub part_length : (k a : ℕ) (t : List ℕ) → k * a + k ≤ length t → length (take (k * a + k - k * a) (drop (k * a) t)) ≡ k
part_length k a t h = span_length (k * a) k t h

-- behind as many elements as d has, nothing of it is left
pub front_all : (p d : List ℕ) (n : ℕ) → n ≡ length d → p ++ drop n d ≡ p
front_all p d n e = ap (λ (t : List ℕ). p ++ t) (ap (λ (k : ℕ). drop k d) e ∙ drop-length d) ∙ append-nil p

-- ---- by induction

rows-suc : (f : ℕ → List ℕ) (n : ℕ) → rows_of f (suc n) ≡ rows_of f n ++ f n
rows-suc f n = ap (rows_of f) (sym (add-one n)) ∙ rows_next f n

pub rows_ext : (f g : ℕ → List ℕ) (n : ℕ) → ((i : ℕ) → i < n → f i ≡ g i) → rows_of f n ≡ rows_of g n
rows_ext f g zero h = rows_none f ∙ sym (rows_none g)
rows_ext f g (suc n) h =
    rows-suc f n ∙ ap₂ (λ (x y : List ℕ). x ++ y) (rows_ext f g n (λ i l. h i (omega arith))) (h n (omega arith)) ∙ sym (rows-suc g n)

-- a test of all elements, row by row
pub all_rows : (t : ℕ → Bool) (f : ℕ → List ℕ) (n : ℕ) → all t (rows_of f n) ≡ each n (λ k. all t (f k))
unfolding each all
all_rows t f zero = ap (all t) (rows_none f)
all_rows t f (suc n) = ap (all t) (rows-suc f n) ∙ all_join t (rows_of f n) (f n) ∙ ap (λ (b : Bool). b && all t (f n)) (all_rows t f n)

pub row_of : (k : ℕ) (f : ℕ → List ℕ) → ((i : ℕ) → length (f i) ≡ k) → (n a : ℕ) → a < n → piece k a (rows_of f n) ≡ f a
row_of k f h n a l = ap (piece k a) (sym (append-nil (rows_of f n))) ∙ row_at k f h n a [] l

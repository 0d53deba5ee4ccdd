-- Parts of a list as the code takes them, `&a[i..j]` and `&mut a[i..j]`: their lengths, and what they hold.
use Rattle.std.specs.Prelude.{◌≡◌, List, ◌++◌, ℕ, ◌+◌, ◌-◌, ◌*◌, ◌≤◌, ◌<◌, length, get_or, take, drop}
use Rattle.std.proofs.Common.{sym, ap, ◌∙◌, append-nil, mul-suc, mul-le-mul_left, le_of_eq, arith, length-take, length-drop, length-append, drop_of_length-le, take_at, take_all, drop_at, length-take-le, get_or-take, get_or-drop, get_or-append-add}
use Rattle.std.proofs.Math.Nat.{sub-zero}
use Rattle.std.proofs.Math.ListN.{get_or-append}
use borrow.Rule.Slice.PartMut.{mid_of, put_mid}
use Rattle.lists.specs.Pieces.{piece}

-- row a of n rows of k elements fits
pub row_fits : (k a n : ℕ) → a < n → k * a + k ≤ k * n
row_fits k a n h = omega (arith, mul-suc k a, mul-le-mul_left k h)

-- the length of a part of k elements, and of a front
pub span_length : {A : Type 0} (a k : ℕ) (t : List A) → a + k ≤ length t → length (take (a + k - a) (drop a t)) ≡ k
span_length a k t h = simp (length-take, length-drop) (omega arith)

pub front_length : {A : Type 0} (n : ℕ) (t : List A) → n ≤ length t → length (take (n - 0) t) ≡ n
front_length n t h = ap (λ (k : ℕ). length (take k t)) (sub-zero n) ∙ length-take-le n t h

-- row a, taken as a part
pub part_is : {A : Type 0} (k a : ℕ) (t : List A) → take (k * a + k - k * a) (drop (k * a) t) ≡ piece k a t
part_is k a t = let e : k * a + k - k * a ≡ k = omega arith in ap (λ (n : ℕ). take n (drop (k * a) t)) e

pub length-piece : {A : Type 0} (k a : ℕ) (t : List A) → k * a + k ≤ length t → length (piece k a t) ≡ k
length-piece k a t h = length-take-le k (drop (k * a) t) (omega (arith, length-drop (k * a) t))

pub piece_at : (k a : ℕ) (x : List ℕ) (j : ℕ) → j < k → get_or (piece k a x) j 0 ≡ get_or x (k * a + j) 0
piece_at k a x j l = get_or-take k (drop (k * a) x) j 0 l ∙ get_or-drop (k * a) x j 0

-- a front that was written, read again
pub front_is : {A : Type 0} (n : ℕ) (p d : List A) → length p ≡ n → take (n - 0) (p ++ d) ≡ p
front_is n p d e = take_at p d (n - 0) (e ∙ sym (sub-zero n))

pub read_front : {A : Type 0} (n : ℕ) (p b r : List A) → length p ≡ n → r ≡ p ++ drop n b → take (n - 0) r ≡ p
read_front {A} n p b r e f = ap (λ (t : List A). take (n - 0) t) f ∙ front_is n p (drop n b) e

-- p has come back in the first n places of b
module _ {A : Type 0} (n : ℕ) (p b : List A) (l : n ≤ length b) (e : length p ≡ length (take n b)) where
  pub lent_front : take n (p ++ drop n b) ≡ p
  lent_front = take_at p (drop n b) n (e ∙ length-take-le n b l)

  pub lent_length : n ≡ length (take n (p ++ drop n b))
  lent_length = sym (ap length lent_front ∙ e ∙ length-take-le n b l)

  pub lent_fits : n ≤ length (p ++ drop n b)
  lent_fits = omega (arith, length-append p (drop n b), e, length-take-le n b l)

-- ---- a part to the end, `&mut a[n..]`

pub mid_tail : {A : Type 0} (n : ℕ) (xs : List A) → mid_of n (length xs - n) xs ≡ drop n xs
mid_tail n xs = take_all (length xs - n) (drop n xs) (le_of_eq (length-drop n xs))

pub put_tail : {A : Type 0} (n : ℕ) (xs ys : List A) → put_mid n (length xs - n) xs ys ≡ take n xs ++ ys
put_tail {A} n xs ys =
    ap (λ (t : List A). take n xs ++ (ys ++ t)) (drop_of_length-le (drop n xs) (le_of_eq (length-drop n xs)))
    ∙ ap (λ (t : List A). take n xs ++ t) (append-nil ys)

-- ys has come back in the first n places of n + m
module _ {A : Type 0} (n m : ℕ) (old ys : List A) (e : length ys ≡ n) (f : length old ≡ n + m) where
  pub rest-length : length (mid_of n (length (ys ++ drop n old) - n) (ys ++ drop n old)) ≡ m
  rest-length = ap length (mid_tail n (ys ++ drop n old) ∙ drop_at ys (drop n old) n e) ∙ omega (arith, length-drop n old)

  -- .. and zs in the others
  pub two_parts : (zs : List A) → put_mid n (length (ys ++ drop n old) - n) (ys ++ drop n old) zs ≡ ys ++ zs
  two_parts zs = put_tail n (ys ++ drop n old) zs ∙ ap (λ (a : List A). a ++ zs) (take_at ys (drop n old) n e)

-- ---- a part in the middle

-- a part of k elements from a on replaced by ys: what stands before it, what stands in it, how long it all is
module _ {A : Type 0} (a k : ℕ) (xs ys : List A) (fit : a + k ≤ length xs) (len : length ys ≡ k) where
  front : length (take a xs) ≡ a
  front = length-take-le a xs (omega arith)

  pub put_before : (m : ℕ) (d : A) → m < a → get_or (put_mid a k xs ys) m d ≡ get_or xs m d
  put_before m d h = get_or-append (take a xs) (ys ++ drop k (drop a xs)) d m (omega (arith, front)) ∙ get_or-take a xs m d h

  pub put_within : (i : ℕ) (d : A) → i < k → get_or (put_mid a k xs ys) (a + i) d ≡ get_or ys i d
  put_within i d h =
      ap (λ (n : ℕ). get_or (put_mid a k xs ys) (n + i) d) (sym front)
      ∙ get_or-append-add (take a xs) (ys ++ drop k (drop a xs)) i d
      ∙ get_or-append ys (drop k (drop a xs)) d i (omega (arith, len))

  pub put_length : length (put_mid a k xs ys) ≡ length xs
  put_length =
      length-append (take a xs) (ys ++ drop k (drop a xs)) ∙ ap (λ (n : ℕ). length (take a xs) + n) (length-append ys (drop k (drop a xs)))
      ∙ omega (arith, front, len, length-drop k (drop a xs), length-drop a xs)

-- Rows of digests in bytes: reading some, writing one.
use mathlib.Core.List.{List, [], ◌∷◌, ◌++◌, map, flatten, append_assoc, append-nil}
use mathlib.Core.Path.{◌≡◌, refl, sym, ap, ap₂, ◌∙◌}
use Prim.Native.Nat.{ℕ, zero, suc, ◌+◌, ◌*◌, ◌≤◌, ◌<◌, ◌-◌}
use native.Mathlib.Nat.{add-zero, not-suc-le-zero, le_of_suc-le-suc, le_of_eq}
use native.Mathlib.Numerals.{add-one}
use native.Mathlib.Omega.{arith}
use lib.ListN.{length, take, drop, length-append, length-take, length-drop, drop_of_length-le, set}
use lib.Seq.{take_at, drop_at, get_or-drop, drop-drop, length-take-le, paste, take-paste, take-add}
use Rattle.lists.specs.Bytes.{Bytes}
use Rattle.lists.specs.Parts.{mid_tail}
use Rattle.lists.specs.Pieces.{pieces, pieces_at, drop-pieces, pieces_front, flatten-pieces, pieces-snoc, pieces-take}
use Rattle.lists.specs.Range.{up_from}
use Rattle.tree.specs.Tree.{at, parts}

pub at_drop : (ds : List Bytes) (a : ℕ) → at (drop a ds) 0 ≡ at ds a
at_drop ds a = get_or-drop a ds 0 [] ∙ ap (at ds) (add-zero a)

-- a digest of a row is put behind what stands in front
pub copy_part : (buf x : Bytes) (to j m : ℕ) → to + 32 ≤ length buf → j < m → 32 * m ≤ length x
    → take (to + 32) (paste buf to (drop (32 * j) x) 32) ≡ take to buf ++ at (parts m x) j
copy_part buf x to j m h k l =
    take-paste buf to (drop (32 * j) x) 32 (omega arith) (omega (arith, length-drop (32 * j) x))
    ∙ ap (λ (r : Bytes). take to buf ++ r) (sym (pieces_at 32 m j x k))

pub parts-bytes : (n : ℕ) (x : Bytes) → 32 * n ≤ length x → flatten (parts n x) ≡ take (32 * n) x
parts-bytes n x h = ap flatten (sym (pieces_front 32 n x h)) ∙ flatten-pieces 32 n (take (32 * n) x) (length-take-le (32 * n) x h)

-- consecutive digests of a row stand together
pub consecutive : (m c k : ℕ) (x : Bytes) → c + k ≤ m → 32 * m ≤ length x → flatten (map (at (parts m x)) (up_from c k)) ≡ take (32 * k) (drop (32 * c) x)
unfolding up_from flatten
consecutive m c zero x h l = refl
consecutive m c (suc k) x h l =
    let e : 32 + 32 * k ≡ 32 * suc k = omega arith in
    let q : 32 * c + 32 ≡ 32 * suc c = omega arith in
    ap₂ (λ (a r : Bytes). a ++ r) (pieces_at 32 m c x (omega arith)) (consecutive m (suc c) k x (omega arith) l)
    ∙ ap (λ (y : Bytes). take 32 (drop (32 * c) x) ++ take (32 * k) y) (ap (λ (j : ℕ). drop j x) (sym q) ∙ sym (drop-drop 32 (32 * c) x))
    ∙ sym (take-add 32 (32 * k) (drop (32 * c) x)) ∙ ap (λ (j : ℕ). take j (drop (32 * c) x)) e

-- ---- one digest of a row replaced

module _ (x d : Bytes) (w : ℕ) (hd : length d ≡ 32) (room : 32 * w + 32 ≤ length x) where
  -- the row x with d for its digest w
  abbrev pub replaced : Bytes
  replaced = take (32 * w) x ++ (d ++ drop (32 * w + 32) x)

  pub replaced_parts : parts (w + 1) replaced ≡ parts w x ++ (d ∷ [])
  replaced_parts =
      let front : length (take (32 * w) x) ≡ 32 * w = length-take-le (32 * w) x (omega arith) in
      ap (λ (k : ℕ). parts k replaced) (add-one w)
      ∙ pieces-snoc 32 w replaced
      ∙ ap₂ (λ (r : List Bytes) (y : Bytes). r ++ (y ∷ []))
      (pieces-take 32 w (take (32 * w) x) (d ++ drop (32 * w + 32) x) front ∙ pieces_front 32 w x (omega arith))
      (ap (take 32) (drop_at (take (32 * w) x) (d ++ drop (32 * w + 32) x) (32 * w) front) ∙ take_at d (drop (32 * w + 32) x) 32 hd)

  -- what lies behind stays
  pub replaced_rest : (n a : ℕ) → w < a → drop a (parts n replaced) ≡ drop a (parts n x)
  replaced_rest n a h =
      let k : ℕ = 32 * (a - (w + 1)) in
      let e : 32 * w + 32 + k ≡ 32 * a = omega arith in
      let back : drop (32 * w + 32) replaced ≡ drop (32 * w + 32) x =
      ap (drop (32 * w + 32)) (sym (append_assoc (take (32 * w) x) d (drop (32 * w + 32) x)))
      ∙ drop_at (take (32 * w) x ++ d) (drop (32 * w + 32) x) (32 * w + 32)
      (length-append (take (32 * w) x) d ∙ ap₂ (λ (u v : ℕ). u + v) (length-take-le (32 * w) x (omega arith)) hd) in
      let same : drop (32 * a) replaced ≡ drop (32 * a) x =
      ap (λ (j : ℕ). drop j replaced) (sym e) ∙ sym (drop-drop k (32 * w + 32) replaced) ∙ ap (drop k) back
      ∙ drop-drop k (32 * w + 32) x ∙ ap (λ (j : ℕ). drop j x) e in
      drop-pieces 32 n a replaced ∙ ap (parts (n - a)) same ∙ sym (drop-pieces 32 n a x)

  pub replaced_length : length replaced ≡ length x
  replaced_length =
      omega (arith, length-append (take (32 * w) x) (d ++ drop (32 * w + 32) x), length-append d (drop (32 * w + 32) x), length-take (32 * w) x, length-drop (32 * w + 32) x)

-- a digest of a row replaced is a store in the row's list
pub parts-set : (m w : ℕ) (x d : Bytes) → w < m → length d ≡ 32 → 32 * m ≤ length x
    → parts m (take (32 * w) x ++ (d ++ drop (32 * w + 32) x)) ≡ set (parts m x) w d
unfolding pieces
parts-set zero w x d h hd l = absurd (not-suc-le-zero h)
parts-set (suc m) zero x d h hd l =
    ap₂ (λ (a : Bytes) (r : List Bytes). a ∷ r) (take_at d (drop 32 x) 32 hd) (ap (parts m) (drop_at d (drop 32 x) 32 hd))
parts-set (suc m) (suc w) x d h hd l =
    let i : 32 * suc w ≡ 32 + 32 * w = omega arith in
    let j : 32 + (32 * w + 32) ≡ 32 * suc w + 32 = omega arith in
    let e : take (32 * suc w) x ++ (d ++ drop (32 * suc w + 32) x) ≡ take 32 x ++ (take (32 * w) (drop 32 x) ++ (d ++ drop (32 * w + 32) (drop 32 x))) =
    ap₂ (λ (u v : Bytes). u ++ (d ++ v)) (ap (λ (k : ℕ). take k x) i ∙ take-add 32 (32 * w) x)
    (ap (λ (k : ℕ). drop k x) (sym j) ∙ sym (drop-drop (32 * w + 32) 32 x))
    ∙ append_assoc (take 32 x) (take (32 * w) (drop 32 x)) (d ++ drop (32 * w + 32) (drop 32 x)) in
    ap (parts (suc m)) e
    ∙ ap₂ (λ (a : Bytes) (r : List Bytes). a ∷ r)
    (take_at (take 32 x) _ 32 (length-take-le 32 x (omega arith)))
    (ap (parts m) (drop_at (take 32 x) _ 32 (length-take-le 32 x (omega arith))) ∙ parts-set m w (drop 32 x) d (le_of_suc-le-suc h) hd (omega (arith, length-drop 32 x)))

-- a digest written to its place in a row, lent as a part
pub row_put : (x y d : Bytes) (w : ℕ) → y ≡ d
    → take (32 * w) x ++ (y ++ drop (32 * w + 32 - 32 * w) (drop (32 * w) x)) ≡ take (32 * w) x ++ (d ++ drop (32 * w + 32) x)
row_put x y d w e =
    let q : 32 * w + (32 * w + 32 - 32 * w) ≡ 32 * w + 32 = omega arith in
    ap₂ (λ (u v : Bytes). take (32 * w) x ++ (u ++ v)) e (drop-drop (32 * w + 32 - 32 * w) (32 * w) x ∙ ap (λ (k : ℕ). drop k x) q)

-- a digest written to place p of the part that begins after n digests
pub part_put : (x y d : Bytes) (a n p : ℕ) → a ≡ 32 * n
    → y ≡ take (32 * p) (take (length x - a) (drop a x)) ++ (d ++ drop (32 * p + 32) (take (length x - a) (drop a x)))
    → take a x ++ (y ++ drop (length x - a) (drop a x)) ≡ take (32 * (n + p)) x ++ (d ++ drop (32 * (n + p) + 32) x)
part_put x y d a n p q e =
    let i : a + 32 * p ≡ 32 * (n + p) = omega arith in
    let j : a + (32 * p + 32) ≡ 32 * (n + p) + 32 = omega arith in
    ap₂ (λ (u v : Bytes). take a x ++ (u ++ v)) (e ∙ ap (λ (l : Bytes). take (32 * p) l ++ (d ++ drop (32 * p + 32) l)) (mid_tail a x))
    (drop_of_length-le (drop a x) (le_of_eq (length-drop a x)))
    ∙ ap (λ (u : Bytes). take a x ++ u) (append-nil (take (32 * p) (drop a x) ++ (d ++ drop (32 * p + 32) (drop a x))))
    ∙ sym (append_assoc (take a x) (take (32 * p) (drop a x)) (d ++ drop (32 * p + 32) (drop a x)))
    ∙ ap₂ (λ (u v : Bytes). u ++ (d ++ v))
    (sym (take-add a (32 * p) x) ∙ ap (λ (k : ℕ). take k x) i)
    (drop-drop (32 * p + 32) a x ∙ ap (λ (k : ℕ). drop k x) j)

-- What a turn of `hash_level` and of `fill_levels` does, on lists.
use mathlib.Core.List.{List, [], ◌∷◌, ◌++◌, map, flatten, map-append, append_assoc, append-nil}
use mathlib.Core.Path.{◌≡◌, refl, sym, ap, ap₂, ◌∙◌, subst}
use Prim.Native.Nat.{ℕ, zero, suc, ◌+◌, ◌*◌, ◌/◌, ◌^◌, ◌≤◌, ◌<◌, ◌-◌}
use native.Mathlib.Nat.{pow-suc, pow-zero, add-zero, not-suc-le-zero, pow-succ', mul-div_cancel, mul-le-mul_left, le_of_eq, mul_assoc}
use native.Mathlib.Numerals.{sub-one}
use native.Mathlib.Omega.{arith}
use lib.ListN.{length, take, drop, length-append, length-map, get_or-append, length-drop, drop_of_length-le, take-append-drop, set}
use lib.Seq.{take_at, drop_at, length-take-le, append_snoc, paste, drop-cons, set_at, take-append-add, drop-append-add}
use Rattle.sponge.specs.Digest.{digest}
use Rattle.lists.specs.Bytes.{Bytes}
use Rattle.lists.specs.Maps.{map_cong}
use Rattle.lists.specs.Parts.{mid_tail}
use Rattle.lists.specs.Pieces.{length-pieces, drop-pieces, flatten-pieces, flatten-append}
use Rattle.lists.specs.Range.{length-up_from, up_from, up_from_of}
use Rattle.tree_fill.specs.Clauses.{CanHashLevel, with_level, CanFillLevels}
use Rattle.tree.specs.Sets.{children, tree_size}
use Rattle.tree.specs.Tree.{at, node_string, above, tree, parts, all_parts}
use Rattle.tree.proofs.Complete.{length_above}
use Rattle.tree.proofs.Digests.{parts-bytes, consecutive, replaced_length, parts-set, part_put}
use Rattle.lists.specs.Drops.{first_snoc, take-pieces}

-- ---- one level

-- the row with the first p digests of the level above written
unfoldable pub partly : ℕ → Bytes → ℕ → List Bytes → ℕ → List Bytes
partly b pre n ds p = take n ds ++ (map (λ q. digest (node_string b pre (at (take n ds)) q)) (up_from 0 p) ++ drop (n + p) ds)

partly_front : (b : ℕ) (pre : Bytes) (n : ℕ) (ds : List Bytes) (p c : ℕ) → n ≤ length ds → c < n → at (partly b pre n ds p) c ≡ at (take n ds) c
unfolding partly
partly_front b pre n ds p c h l = get_or-append (take n ds) _ [] c (omega (arith, length-take-le n ds h))

partly-step : (b : ℕ) (pre : Bytes) (n : ℕ) (ds : List Bytes) (p : ℕ) → n + p < length ds
    → set (partly b pre n ds p) (n + p) (digest (node_string b pre (at (take n ds)) p)) ≡ partly b pre n ds (p + 1)
unfolding partly
partly-step b pre n ds p h =
    let f : ℕ → Bytes = λ q. digest (node_string b pre (at (take n ds)) q) in
    let e : suc (n + p) ≡ n + (p + 1) = omega arith in
    ap (λ (x : List Bytes). set x (n + p) (f p))
    (ap (λ (r : List Bytes). take n ds ++ (map f (up_from 0 p) ++ r)) (drop-cons ds (n + p) [] h) ∙ sym (append_assoc (take n ds) (map f (up_from 0 p)) _))
    ∙ set_at (take n ds ++ map f (up_from 0 p)) (at ds (n + p)) (drop (suc (n + p)) ds) (f p) (n + p)
    (omega (arith, length-append (take n ds) (map f (up_from 0 p)), length-map (up_from 0 p) f, length-up_from 0 p, length-take-le n ds (omega arith)))
    ∙ append_assoc (take n ds) (map f (up_from 0 p)) (f p ∷ drop (suc (n + p)) ds)
    ∙ ap (λ (r : List Bytes). take n ds ++ r)
    (sym (append_snoc (map f (up_from 0 p)) (f p) (drop (suc (n + p)) ds))
    ∙ ap₂ (λ (x y : List Bytes). x ++ y) (sym (ap (map f) (first_snoc p) ∙ map-append f (up_from 0 p) (p ∷ []))) (ap (λ (k : ℕ). drop k ds) e))

pub record HashLevelInv (b w : ℕ) (part₀ buf₀ : Bytes) (off : ℕ) (part buf : Bytes) (p : ℕ) : Type 0 where
  pub bound : p ≤ w
  pub written : all_parts part ≡ partly b (take off buf₀) (b * w) (all_parts part₀) p
  pub prefix : take off buf ≡ take off buf₀
  pub same_buf : length buf ≡ length buf₀
  pub same_part : length part ≡ length part₀

module _ {b w : ℕ} {part₀ buf₀ : Bytes} {off : ℕ} (can : CanHashLevel b w part₀ buf₀ off) where
  pub hash_level_holds : HashLevelInv b w part₀ buf₀ off part₀ buf₀ 0
  unfolding partly up_from
  hash_level_holds = record {
    bound = omega arith;
    written = sym (ap (λ (k : ℕ). take (b * w) (all_parts part₀) ++ drop k (all_parts part₀)) (add-zero (b * w)) ∙ take-append-drop (b * w) (all_parts part₀));
    prefix = refl;
    same_buf = refl;
    same_part = refl;
  }

  pub hash_level_done : {part buf : Bytes} {p : ℕ} → HashLevelInv b w part₀ buf₀ off part buf p → w ≤ p
      → all_parts part ≡ with_level digest b (take off buf₀) w (all_parts part₀)
  unfolding partly with_level above
  hash_level_done {p = p} v h =
      let e : p ≡ w = omega (arith, v.bound) in
      v.written ∙ ap (partly b (take off buf₀) (b * w) (all_parts part₀)) e

  module _ {part buf : Bytes} {p : ℕ} (v : HashLevelInv b w part₀ buf₀ off part buf p) (more : p < w) where
    inside : b * p + b ≤ b * w
    inside = omega (arith, mul-le-mul_left b more)

    -- there is room for one digest more
    hash_level_room : 32 * (b * w + p) + 32 ≤ length part
    hash_level_room = omega (arith, can.whole, can.levels, v.same_part)

    pub hash_level_part : 32 * b * w ≤ length part
    hash_level_part = omega (arith, mul_assoc 32 b w, hash_level_room)

    pub hash_level_place : 32 * p + 32 ≤ length (take (length part - 32 * b * w) (drop (32 * b * w) part))
    hash_level_place =
        subst (λ (y : Bytes). 32 * p + 32 ≤ length y) (sym (mid_tail (32 * b * w) part))
        (omega (arith, length-drop (32 * b * w) part, mul_assoc 32 b w, hash_level_room))

    pub hash_level_read : 32 * b * p + 32 * b ≤ length part
    hash_level_read = omega (arith, mul_assoc 32 b p, inside, can.whole, can.levels, v.same_part)

    -- the string that is hashed
    hash_level_string : {buf' : Bytes} → buf' ≡ paste buf off (drop (32 * b * p) part) (32 * b) → buf' ≡ node_string b (take off buf₀) (at (take (b * w) (all_parts part₀))) p
    unfolding all_parts node_string children
    hash_level_string e =
        let m : ℕ = length part / 32 in
        let n : ℕ = b * w in
        let ends : length buf ≤ off + 32 * b = omega (arith, can.room, v.same_buf) in
        let q : 32 * b * p ≡ 32 * (b * p) = mul_assoc 32 b p in
        let lm : b * p + b ≤ m = omega (arith, inside, can.levels, v.same_part) in
        let ln : n ≤ length (all_parts part₀) = omega (arith, can.levels, length-pieces 32 (length part₀ / 32) part₀) in
        e
        ∙ ap (λ (r : Bytes). take off buf ++ take (32 * b) (drop (32 * b * p) part) ++ r) (drop_of_length-le buf ends)
        ∙ append-nil (take off buf ++ take (32 * b) (drop (32 * b * p) part))
        ∙ ap₂ (λ (x y : Bytes). x ++ y) v.prefix
        (ap (λ (k : ℕ). take (32 * b) (drop k part)) q ∙ sym (consecutive m (b * p) b part lm (omega arith))
        ∙ ap flatten (map_cong (up_from (b * p) b) (λ c k.
        ap (λ (ds : List Bytes). at ds c) v.written
        ∙ partly_front b (take off buf₀) n (all_parts part₀) p c ln (omega (arith, inside, up_from_of (b * p) b c k)))))

    pub hash_level_again : {buf' : Bytes} (y : Bytes) {part' : Bytes} → ((x : Bytes) → length (digest x) ≡ 32)
        → buf' ≡ paste buf off (drop (32 * b * p) part) (32 * b) → length buf' ≡ length buf
        → (let level : Bytes = take (length part - 32 * b * w) (drop (32 * b * w) part) in y ≡ take (32 * p) level ++ (digest buf' ++ drop (32 * p + 32) level))
        → part' ≡ take (32 * b * w) part ++ (y ++ drop (length part - 32 * b * w) (drop (32 * b * w) part))
        → HashLevelInv b w part₀ buf₀ off part' buf' (p + 1)
    unfolding all_parts
    hash_level_again {buf'} y {part'} hd e lb ey ed =
        let m : ℕ = length part / 32 in
        let ep : part' ≡ take (32 * (b * w + p)) part ++ (digest buf' ++ drop (32 * (b * w + p) + 32) part) =
        ed ∙ part_put part y (digest buf') (32 * b * w) (b * w) p (mul_assoc 32 b w) ey in
        let len : length part' ≡ length part = ap length ep ∙ replaced_length part (digest buf') (b * w + p) (hd buf') hash_level_room in
        let lt : b * w + p < m = omega (arith, can.levels, v.same_part) in
        let lt₀ : b * w + p < length (all_parts part₀) = omega (arith, can.levels, length-pieces 32 (length part₀ / 32) part₀) in
        record {
          bound = omega arith;
          written =
              ap (λ (k : ℕ). parts (k / 32) part') len ∙ ap (parts m) ep
              ∙ parts-set m (b * w + p) part (digest buf') lt (hd buf') (omega arith)
              ∙ ap₂ (λ (x : List Bytes) (y : Bytes). set x (b * w + p) (digest y)) v.written (hash_level_string e)
              ∙ partly-step b (take off buf₀) (b * w) (all_parts part₀) p lt₀;
          prefix = ap (take off) (hash_level_string e) ∙ (unfold node_string in take_at (take off buf₀) _ off (length-take-le off buf₀ (omega (arith, can.room))));
          same_buf = lb ∙ v.same_buf;
          same_part = len ∙ v.same_part;
        }

-- ---- the whole tree

all_is : (y : Bytes) → all_parts y ≡ parts (length y / 32) y
unfolding all_parts
all_is y = refl

with_level_lem : (b : ℕ) (pre : Bytes) (w n : ℕ) (ds : List Bytes) → b * w ≡ n
    → with_level digest b pre w ds ≡ take n ds ++ (above digest b pre w (take n ds) ++ drop (n + w) ds)
unfolding with_level
with_level_lem b pre w n ds e = ap (λ (k : ℕ). take k ds ++ (above digest b pre w (take k ds) ++ drop (k + w) ds)) e

-- a level is hashed: y holds it, with n = b * w digests, and room for the level above
module _ (b w n : ℕ) (pre y y' : Bytes) (e : b * w ≡ n) (len : length y' ≡ length y) (fits : n + w ≤ length y / 32)
    (made : all_parts y' ≡ with_level digest b pre w (all_parts y)) where
  made_n : parts (length y' / 32) y' ≡ parts n y ++ (above digest b pre w (parts n y) ++ drop (n + w) (all_parts y))
  made_n =
      let level : take n (all_parts y) ≡ parts n y = ap (take n) (all_is y) ∙ take-pieces 32 n (length y / 32) y (omega arith) in
      sym (all_is y') ∙ made ∙ with_level_lem b pre w n (all_parts y) e ∙ ap (λ (l : List Bytes). l ++ (above digest b pre w l ++ drop (n + w) (all_parts y))) level

  kept_level : parts n y' ≡ parts n y
  kept_level =
      sym (take-pieces 32 n (length y' / 32) y' (omega arith)) ∙ ap (take n) made_n ∙ take_at (parts n y) _ n (length-pieces 32 n y)

  next_level : parts w (drop (32 * n) y') ≡ above digest b pre w (parts n y)
  next_level =
      sym (take-pieces 32 w (length y' / 32 - n) (drop (32 * n) y') (omega arith))
      ∙ ap (take w) (sym (drop-pieces 32 (length y' / 32) n y') ∙ ap (drop n) made_n ∙ drop_at (parts n y) _ n (length-pieces 32 n y))
      ∙ take_at (above digest b pre w (parts n y)) _ w (length_above digest b pre w (parts n y))

tree_suc : (b : ℕ) (pre : Bytes) (k w : ℕ) (l : List Bytes) → w ≡ b ^ k → l ++ tree digest b pre k (above digest b pre w l) ≡ tree digest b pre (suc k) l
unfolding tree
tree_suc b pre k w l e = ap (λ (j : ℕ). l ++ tree digest b pre k (above digest b pre j l)) e

pub record FillLevelsInv (b h n₀ : ℕ) (tree₀ buf₀ : Bytes) (off : ℕ) (x buf : Bytes) (left n start : ℕ) : Type 0 where
  pub count : n ≡ b ^ left
  pub size : start + 32 * tree_size b left ≡ length x
  pub gives : take start x ++ flatten (tree digest b (take off buf₀) left (parts n (drop start x))) ≡ flatten (tree digest b (take off buf₀) h (parts n₀ tree₀))
  pub prefix : take off buf ≡ take off buf₀
  pub same_buf : length buf ≡ length buf₀
  pub same_tree : length x ≡ length tree₀

-- one level less: n / b digests
halves : (b n k : ℕ) → zero < b → n ≡ b ^ suc k → (n / b ≡ b ^ k) × (b * (n / b) ≡ n)
halves b n k pos e =
    let q : n / b ≡ b ^ k = ap (λ (j : ℕ). j / b) (e ∙ pow-suc b k) ∙ mul-div_cancel (b ^ k) pos in
    (q, ap (λ (j : ℕ). b * j) q ∙ sym (e ∙ pow-succ' b k))

size_pos : (b h : ℕ) → b ^ h ≤ tree_size b h
unfolding tree_size
size_pos b zero = le_of_eq (pow-zero b)
size_pos b (suc h) = omega arith

module _ {b h n₀ : ℕ} {tree₀ buf₀ : Bytes} {off : ℕ} (can : CanFillLevels b h n₀ tree₀ buf₀ off) where
  pub fill-levels_holds : FillLevelsInv b h n₀ tree₀ buf₀ off tree₀ buf₀ h n₀ 0
  fill-levels_holds = record { count = can.leaves; size = omega (arith, can.whole); gives = refl; prefix = refl; same_buf = refl; same_tree = refl }

  fits_suc : (k : ℕ) {x buf : Bytes} {n start : ℕ} → FillLevelsInv b h n₀ tree₀ buf₀ off x buf (suc k) n start
      → (length (drop start x) ≡ 32 * (n + tree_size b k)) × (n + n / b ≤ n + tree_size b k) × (start + 32 * (n + tree_size b k) ≡ length x)
  unfolding tree_size
  fits_suc k {x} {buf} {n} {start} v = omega (arith, v.size, v.count, length-drop start x, size_pos b k, (halves b n k can.arity v.count).0)

  hash_level_suc : (k : ℕ) {x buf : Bytes} {n start : ℕ} → FillLevelsInv b h n₀ tree₀ buf₀ off x buf (suc k) n start → CanHashLevel b (n / b) (drop start x) buf off
  hash_level_suc k {x} {buf} {n} {start} v =
      let f = fits_suc k v in
      let q = (halves b n k can.arity v.count).1 in
      record { whole = omega (arith, f); levels = omega (arith, f, q); room = can.room ∙ sym v.same_buf }

  again_suc : (k : ℕ) {x buf : Bytes} {n start : ℕ} → FillLevelsInv b h n₀ tree₀ buf₀ off x buf (suc k) n start → (y' : Bytes) {x' buf' : Bytes}
      → all_parts y' ≡ with_level digest b (take off buf) (n / b) (all_parts (drop start x)) → length y' ≡ length (drop start x)
      → x' ≡ take start x ++ y' → take off buf' ≡ take off buf → length buf' ≡ length buf
      → FillLevelsInv b h n₀ tree₀ buf₀ off x' buf' k (n / b) (start + 32 * n)
  again_suc k {x} {buf} {n} {start} v y' {x'} {buf'} m ly ex p lb =
      let f = fits_suc k v in
      let w : ℕ = n / b in
      let q = halves b n k can.arity v.count in
      let pre : Bytes = take off buf₀ in
      let y : Bytes = drop start x in
      let fits : n + w ≤ length y / 32 = omega (arith, f) in
      let m₀ : all_parts y' ≡ with_level digest b pre w (all_parts y) = m ∙ ap (λ (r : Bytes). with_level digest b r w (all_parts y)) v.prefix in
      let front : length (take start x) ≡ start = length-take-le start x (omega (arith, f)) in
      record {
        count = q.0;
        size = omega (arith, f, ap length ex ∙ length-append (take start x) y', ly, front);
        gives =
            ap₂ (λ (u t : Bytes). u ++ flatten (tree digest b pre k (parts w t)))
            (ap₂ (λ (j : ℕ) (t : Bytes). take (j + 32 * n) t) (sym front) ex ∙ take-append-add (take start x) y' (32 * n))
            (ap₂ (λ (j : ℕ) (t : Bytes). drop (j + 32 * n) t) (sym front) ex ∙ drop-append-add (take start x) y' (32 * n))
            ∙ ap₂ (λ (u : Bytes) (l : List Bytes). take start x ++ u ++ flatten (tree digest b pre k l))
            (sym (parts-bytes n y' (omega (arith, f))) ∙ ap flatten (kept_level b w n pre y y' q.1 ly fits m₀))
            (next_level b w n pre y y' q.1 ly fits m₀)
            ∙ append_assoc (take start x) (flatten (parts n y)) _
            ∙ ap (λ (u : Bytes). take start x ++ u)
            (sym (flatten-append (parts n y) _) ∙ ap flatten (tree_suc b pre k w (parts n y) q.0))
            ∙ v.gives;
        prefix = p ∙ v.prefix;
        same_buf = lb ∙ v.same_buf;
        same_tree = omega (arith, f, ap length ex ∙ length-append (take start x) y', ly, front, v.same_tree);
      }

  pub fill-levels_hash : {left : ℕ} {x buf : Bytes} {n start : ℕ} → FillLevelsInv b h n₀ tree₀ buf₀ off x buf left n start → 0 < left
      → CanHashLevel b (n / b) (take (length x - start) (drop start x)) buf off
  fill-levels_hash {left = zero} v p = absurd (not-suc-le-zero p)
  fill-levels_hash {left = suc k} {x} {buf} {n} {start} v p = subst (λ (y : Bytes). CanHashLevel b (n / b) y buf off) (sym (mid_tail start x)) (hash_level_suc k v)

  pub fill-levels_fits : {left : ℕ} {x buf : Bytes} {n start : ℕ} → FillLevelsInv b h n₀ tree₀ buf₀ off x buf left n start → 0 < left → start + 32 * n ≤ length x
  fill-levels_fits {left = zero} v p = absurd (not-suc-le-zero p)
  fill-levels_fits {left = suc k} v p = omega (arith, fits_suc k v)

  pub fill-levels_again : {left : ℕ} {x buf : Bytes} {n start : ℕ} → FillLevelsInv b h n₀ tree₀ buf₀ off x buf left n start → 0 < left → (y' : Bytes) {x' buf' : Bytes}
      → all_parts y' ≡ with_level digest b (take off buf) (n / b) (all_parts (take (length x - start) (drop start x)))
      → length y' ≡ length (take (length x - start) (drop start x))
      → x' ≡ take start x ++ (y' ++ drop (length x - start) (drop start x)) → take off buf' ≡ take off buf → length buf' ≡ length buf
      → FillLevelsInv b h n₀ tree₀ buf₀ off x' buf' (left - 1) (n / b) (start + 32 * n)
  fill-levels_again {left = zero} v p y' m ly ex q lb = absurd (not-suc-le-zero p)
  fill-levels_again {left = suc k} {x} {buf} {n} {start} v p y' {x'} {buf'} m ly ex q lb =
      subst (λ (j : ℕ). FillLevelsInv b h n₀ tree₀ buf₀ off x' buf' j (n / b) (start + 32 * n)) (sym (sub-one (suc k)))
      (again_suc k v y'
      (m ∙ ap (λ (y : Bytes). with_level digest b (take off buf) (n / b) (all_parts y)) (mid_tail start x))
      (ly ∙ ap length (mid_tail start x))
      (ex ∙ ap (λ (r : Bytes). take start x ++ r) (ap (λ (r : Bytes). y' ++ r) (drop_of_length-le (drop start x) (le_of_eq (length-drop start x))) ∙ append-nil y')) q lb)

  pub fill-levels_done : {left : ℕ} {x buf : Bytes} {n start : ℕ} → FillLevelsInv b h n₀ tree₀ buf₀ off x buf left n start → left ≤ 0
      → x ≡ flatten (tree digest b (take off buf₀) h (parts n₀ tree₀))
  unfolding tree tree_size
  fill-levels_done {left = suc k} v p = absurd (not-suc-le-zero p)
  fill-levels_done {left = zero} {x} {buf} {n} {start} v p =
      let one : n ≡ 1 = v.count ∙ pow-zero b in
      let l : length (drop start x) ≡ 32 * n = omega (arith, v.size, length-drop start x) in
      sym (take-append-drop start x) ∙ ap (λ (r : Bytes). take start x ++ r) (sym (flatten-pieces 32 n (drop start x) l)) ∙ v.gives

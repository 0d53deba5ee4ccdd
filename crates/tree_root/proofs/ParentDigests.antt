-- What a turn of `hash_parents` does, on lists.
use mathlib.Core.List.{List, [], ◌∷◌, ◌++◌, map, flatten, append-nil}
use mathlib.Core.Path.{◌≡◌, refl, sym, ap, ap₂, ◌∙◌, subst}
use Prim.Native.Nat.{ℕ, ◌+◌, ◌*◌, ◌/◌, ◌^◌, ◌≤◌, ◌<◌, ◌-◌}
use native.Mathlib.Nat.{add-mul, one-mul, zero-mul, mul-le-mul_right}
use native.Mathlib.Omega.{arith}
use lib.ListN.{length, get_or, take, drop, length-drop, drop_of_length-le}
use lib.Seq.{take_at, take-length, drop-drop, length-take-le, append_snoc}
use Rattle.sponge.specs.Digest.{digest-length, digest}
use Rattle.lists.specs.Bytes.{Bytes}
use Rattle.lists.specs.Pieces.{pieces, length-pieces}
use Rattle.tree_root.specs.Clauses.{CanHashParents, ParentsHashed, CanGather, Gathered}
use Rattle.tree.specs.Sets.{parents, siblings}
use Rattle.tree.specs.Tree.{strings, parts, all_parts}
use Rattle.tree.specs.Work.{permutations_for}
use Rattle.tree.specs.Walk.{used, fill}
use Rattle.tree.proofs.Digests.{replaced_parts, replaced_rest, replaced_length}
use Rattle.tree.proofs.Turns.{Turn, no_parents, no_siblings, no_strings}
use Rattle.node_sets.specs.Clauses.{NodeSet}
use Rattle.node_sets.proofs.Sets.{set-alone}
use Rattle.node_sets.proofs.Turns.{set-length, turn_at, children_fit}

-- Where a level stands after some turns. s, ds and ns are the set, its digests and the nodes as the level found them, from node t₀ on:
-- dig holds w digests of nodes above already, for which ran permutations were run, and the set's own from place a on
pub record HashParentsInv (b : ℕ) (s : List ℕ) (n : ℕ) (dig₀ nodes : Bytes) (t₀ : ℕ) (buf₀ : Bytes) (off : ℕ) (dig buf : Bytes) (a w t ran : ℕ) : Type 0 where
  pub behind : w ≤ a
  pub bounded : a ≤ n
  pub rest_digests : drop a (parts n dig) ≡ drop a (parts n dig₀)
  pub counted : w + length (parents b (drop a s)) ≡ length (parents b s)
  pub digests_are : parts w dig ++ map digest (strings digest b (take off buf₀) (drop a s) (drop a (parts n dig₀)) (drop t (all_parts nodes)))
      ≡ map digest (strings digest b (take off buf₀) s (parts n dig₀) (drop t₀ (all_parts nodes)))
  pub missing_are : t + length (siblings b (drop a s)) ≡ t₀ + length (siblings b s)
  pub worked : ran ≡ w * permutations_for (length buf₀)
  pub prefix : take off buf ≡ take off buf₀
  pub same_buf : length buf ≡ length buf₀
  pub same_dig : length dig ≡ length dig₀

strings_at : (b : ℕ) (pre : Bytes) {x₁ y₁ : List ℕ} {x₂ y₂ x₃ y₃ : List Bytes} → x₁ ≡ y₁ → x₂ ≡ y₂ → x₃ ≡ y₃ → strings digest b pre y₁ y₂ y₃ ≡ strings digest b pre x₁ x₂ x₃
strings_at b pre e₁ e₂ e₃ = cc

module _ {b : ℕ} {idx : List ℕ} {n : ℕ} {dig₀ nodes : Bytes} {t₀ : ℕ} {buf₀ : Bytes} {off : ℕ} (can : CanHashParents b idx n dig₀ nodes t₀ buf₀ off) where
  pub hash_parents_holds : HashParentsInv b (take n idx) n dig₀ nodes t₀ buf₀ off dig₀ buf₀ 0 0 t₀ 0
  unfolding pieces
  hash_parents_holds = record {
    behind = omega arith;
    bounded = omega arith;
    rest_digests = refl;
    counted = omega arith;
    digests_are = refl;
    missing_are = refl;
    worked = sym (zero-mul (permutations_for (length buf₀)));
    prefix = refl;
    same_buf = refl;
    same_dig = refl;
  }

  module _ {dig buf : Bytes} {a w t ran : ℕ} (v : HashParentsInv b (take n idx) n dig₀ nodes t₀ buf₀ off dig buf a w t ran) (more : a < n) where
    -- there is room for one digest more
    hash_parents_room : 32 * w + 32 ≤ length dig
    hash_parents_room = omega (arith, v.behind, can.digests, v.same_dig)

    pub parents_gather : CanGather (b * (get_or idx a 0 / b)) b idx n a dig nodes t buf off
    parents_gather = record {
      numbers = children_fit can.set more;
      indices = can.set.indices;
      digests = omega (arith, can.digests, v.same_dig);
      room = can.room ∙ sym v.same_buf;
      listed = omega (arith, (turn_at can.set more).missing_are, v.missing_are, can.listed);
    }

    pub hash_parents_moves : {buf' : Bytes} {a' t' : ℕ} → Gathered (b * (get_or idx a 0 / b)) b (take n idx) (parts n dig) (all_parts nodes) (take off buf) buf' a t a' t' → a < a'
    hash_parents_moves g = omega (arith, g.own, (turn_at can.set more).some)

    one_more : (buf' : Bytes) → length buf' ≡ length buf → {r : ℕ} → r ≡ permutations_for (length buf') → ran + r ≡ (w + 1) * permutations_for (length buf₀)
    one_more buf' lb {r} er =
        let own : r ≡ permutations_for (length buf₀) = er ∙ ap permutations_for (lb ∙ v.same_buf) in
        omega (arith, own, v.worked, add-mul w 1 (permutations_for (length buf₀)), one-mul (permutations_for (length buf₀)))

    -- one node more can be counted
    pub hash_parents_count : (buf' : Bytes) → length buf' ≡ length buf → {r : ℕ} → r ≡ permutations_for (length buf') → ran + r < 2 ^ 64
    hash_parents_count buf' lb er =
        let k = turn_at can.set more in
        let few : w + 1 ≤ length (parents b (take n idx)) = omega (arith, v.counted, ap length k.parents_are) in
        omega (arith, one_more buf' lb er, mul-le-mul_right (permutations_for (length buf₀)) few, can.countable)

    pub hash_parents_again : {dig' buf' : Bytes} {a' t' : ℕ}
        → Gathered (b * (get_or idx a 0 / b)) b (take n idx) (parts n dig) (all_parts nodes) (take off buf) buf' a t a' t' → length buf' ≡ length buf
        → dig' ≡ take (32 * w) dig ++ (digest buf' ++ drop (32 * w + 32) dig) → {r : ℕ} → r ≡ permutations_for (length buf')
        → HashParentsInv b (take n idx) n dig₀ nodes t₀ buf₀ off dig' buf' a' (w + 1) t' (ran + r)
    hash_parents_again {dig'} {buf'} {a'} {t'} g lb ed {r} er =
        let s : List ℕ = take n idx in
        let ds : List Bytes = parts n dig₀ in
        let ns : List Bytes = all_parts nodes in
        let p : ℕ = get_or idx a 0 / b in
        let u : ℕ = used (b * p) b (drop a s) in
        let pre : Bytes = take off buf₀ in
        let k : Turn b (drop a s) p u = turn_at can.set more in
        let lt : w < a' = omega (arith, k.some, v.behind, g.own) in
        let rs : drop u (drop a s) ≡ drop a' s = drop-drop u a s ∙ ap (λ (j : ℕ). drop j s) (sym g.own) in
        let rd : drop u (drop a ds) ≡ drop a' ds = drop-drop u a ds ∙ ap (λ (j : ℕ). drop j ds) (sym g.own) in
        let ri : drop u (drop a (parts n dig)) ≡ drop a' (parts n dig) = drop-drop u a (parts n dig) ∙ ap (λ (j : ℕ). drop j (parts n dig)) (sym g.own) in
        let rn : drop (b - u) (drop t ns) ≡ drop t' ns = drop-drop (b - u) t ns ∙ ap (λ (j : ℕ). drop j ns) (sym g.listed) in
        let e : buf' ≡ pre ++ flatten (fill (b * p) b (drop a s) (drop a ds) (drop t ns)) =
        g.filled ∙ ap₂ (λ (x : Bytes) (y : List Bytes). x ++ flatten (fill (b * p) b (drop a s) y (drop t ns))) v.prefix v.rest_digests in
        let len : length (drop a s) ≡ length (drop a ds) = omega (arith, length-drop a s, length-drop a ds, set-length can.set, length-pieces 32 n dig₀) in
        let front : off ≤ length buf = omega (arith, can.room, v.same_buf) in
        let tail : List Bytes = strings digest b pre (drop u (drop a s)) (drop u (drop a ds)) (drop (b - u) (drop t ns)) in
        record {
          behind = omega arith;
          bounded = omega (arith, k.within, length-drop a s, set-length can.set, g.own);
          rest_digests =
              ap (λ (x : Bytes). drop a' (parts n x)) ed ∙ replaced_rest dig (digest buf') w (digest-length buf') hash_parents_room n a' lt
              ∙ sym ri ∙ ap (drop u) v.rest_digests ∙ rd;
          counted = omega (arith, v.counted, ap length k.parents_are, ap (λ (x : List ℕ). length (parents b x)) rs);
          digests_are =
              ap₂ (λ (x y : List Bytes). x ++ map digest y)
              (ap (parts (w + 1)) ed ∙ replaced_parts dig (digest buf') w (digest-length buf') hash_parents_room) (strings_at b pre rs rd rn)
              ∙ append_snoc (parts w dig) (digest buf') (map digest tail)
              ∙ ap (λ (x : List Bytes). parts w dig ++ map digest x)
              (ap (λ (x : Bytes). x ∷ tail) e ∙ sym (k.strings_are digest pre (drop a ds) (drop t ns) len))
              ∙ v.digests_are;
          missing_are = omega (arith, g.listed, v.missing_are, k.missing_are ∙ ap (λ (x : List ℕ). (b - u) + length (siblings b x)) rs);
          worked = one_more buf' lb er;
          prefix = ap (take off) g.filled ∙ take_at (take off buf) _ off (length-take-le off buf front) ∙ v.prefix;
          same_buf = lb ∙ v.same_buf;
          same_dig = ap length ed ∙ replaced_length dig (digest buf') w (digest-length buf') hash_parents_room ∙ v.same_dig;
        }

  pub hash_parents_done : {dig buf : Bytes} {a w t ran : ℕ} → HashParentsInv b (take n idx) n dig₀ nodes t₀ buf₀ off dig buf a w t ran → n ≤ a
      → ParentsHashed b (take off buf₀) (take n idx) (parts n dig₀) (all_parts nodes) t₀ dig t × (ran ≡ length (parents b (take n idx)) * permutations_for (length buf₀))
  hash_parents_done {dig} {buf} {a} {w} {t} v h =
      let s : List ℕ = take n idx in
      let short : length s ≤ a = omega (arith, set-length can.set) in
      let nil : drop a s ≡ [] = drop_of_length-le s short in
      let count : w ≡ length (parents b s) = omega (arith, v.counted, ap (λ (x : List ℕ). length (parents b x)) nil ∙ ap length (no_parents b)) in (
        record {
          digests =
              ap (λ (k : ℕ). parts k dig) (sym count) ∙ sym (append-nil (parts w dig))
              ∙ ap (λ (x : List Bytes). parts w dig ++ map digest x)
              (sym (ap (λ (x : List ℕ). strings digest b (take off buf₀) x (drop a (parts n dig₀)) (drop t (all_parts nodes))) nil
              ∙ no_strings digest b (take off buf₀) (drop a (parts n dig₀)) (drop t (all_parts nodes))))
              ∙ v.digests_are;
          spent = omega (arith, v.missing_are, ap (λ (x : List ℕ). length (siblings b x)) nil ∙ ap length (no_siblings b));
        },
        v.worked ∙ ap (λ (k : ℕ). k * permutations_for (length buf₀)) count,
      )

-- a set that is a whole slice: what a turn of `hash_parents` gives
pub gathered_whole : {first b : ℕ} {s : List ℕ} {ds ns : List Bytes} {pre buf : Bytes} {a t a' t' : ℕ}
    → Gathered first b s ds ns pre buf a t a' t' → Gathered first b (take (length s) s) ds ns pre buf a t a' t'
gathered_whole g = rw take-length g

-- .. and a set in a longer slice: what `root_from` asks of it, and gets
pub parents-alone : {b : ℕ} {idx : List ℕ} {n : ℕ} {dig nodes : Bytes} {t : ℕ} {buf : Bytes} {off : ℕ} → CanHashParents b idx n dig nodes t buf off
    → CanHashParents b (take n idx) (length (take n idx)) dig nodes t buf off
parents-alone {idx = idx} {n} c = record {
  set = set-alone c.set;
  digests = omega (arith, c.digests, set-length c.set);
  room = c.room;
  listed = rw (take-length (take n idx)) c.listed;
  countable = rw (take-length (take n idx)) c.countable;
}

pub hashed_alone : {b : ℕ} {idx : List ℕ} {n : ℕ} {pre : Bytes} (dig : Bytes) {ns : List Bytes} {t : ℕ} {dig' : Bytes} {t' : ℕ} → NodeSet b idx n
    → ParentsHashed b pre (take n idx) (parts (length (take n idx)) dig) ns t dig' t' → ParentsHashed b pre (take n idx) (parts n dig) ns t dig' t'
hashed_alone {b} {idx} {n} {pre} dig {ns} {t} {dig'} {t'} o h = subst (λ (k : ℕ). ParentsHashed b pre (take n idx) (parts k dig) ns t dig' t') (set-length o) h

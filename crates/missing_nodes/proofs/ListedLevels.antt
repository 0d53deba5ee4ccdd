-- What a turn of `list_level` and of `list_nodes` does, on lists.
use mathlib.Core.List.{List, [], ◌++◌, map, flatten, map-append, append_assoc, append-nil, Memᴰ as Mem}
use mathlib.Core.Path.{◌≡◌, refl, sym, ap, ap₂, ◌∙◌, subst}
use Prim.Native.Nat.{ℕ, zero, suc, ◌+◌, ◌*◌, ◌/◌, ◌^◌, ◌≤◌, ◌<◌, ◌-◌}
use native.Mathlib.Nat.{zero-add, pow-suc, div-lt_iff_lt-mul, add-zero, not-suc-le-zero, pow-succ', mul-div_cancel, mul-le-mul_left}
use native.Mathlib.Numerals.{sub-one}
use native.Mathlib.Omega.{arith}
use lib.ListN.{length, get_or, take, drop, length-drop, drop_of_length-le, take-append-drop}
use lib.Seq.{get_or-drop, drop-drop, take-length}
use Rattle.lists.specs.All.{Below, below_mem}
use Rattle.lists.specs.Bytes.{Bytes}
use Rattle.lists.specs.Maps.{map_cong}
use Rattle.lists.specs.Pieces.{flatten-append}
use Rattle.missing_nodes.specs.Clauses.{CanList, Listed, CanListLevel, LevelListed, CanListNodes, NodesListed}
use Rattle.tree.specs.Sets.{parents, siblings, missing, tree_size}
use Rattle.tree.specs.Tree.{at, opened, all_parts}
use Rattle.tree.specs.Walk.{used, skipped}
use Rattle.tree.proofs.Complete.{opened-suc}
use Rattle.tree.proofs.Counts.{missing_none, missing_count}
use Rattle.lists.specs.Drops.{drop_later}
use Rattle.tree.proofs.Members.{parents_below}
use Rattle.tree.proofs.Turns.{Turn, no_siblings}
use Rattle.node_sets.proofs.Sets.{set-kept, set-alone}
use Rattle.node_sets.proofs.Turns.{set-length, turn_at, index_in}

-- Where `list_level` stands after some turns: what is left of the set s begins at place a
pub record LevelInv (b : ℕ) (s : List ℕ) (n : ℕ) (tree : Bytes) (start : ℕ) (out₀ : Bytes) (t₀ : ℕ) (out : Bytes) (a t : ℕ) : Type 0 where
  pub bounded : a ≤ n
  pub same_out : length out ≡ length out₀
  pub missing_are : t + length (siblings b (drop a s)) ≡ t₀ + length (siblings b s)
  pub written : take (32 * t) out ++ flatten (map (λ c. at (all_parts tree) (start + c)) (siblings b (drop a s)))
      ≡ take (32 * t₀) out₀ ++ flatten (map (λ c. at (all_parts tree) (start + c)) (siblings b s))
  pub rest : drop (32 * t) out ≡ drop (32 * t) out₀

no_listed : (b : ℕ) (rd : ℕ → Bytes) → flatten (map rd (siblings b [])) ≡ []
no_listed b rd = ap (λ (x : List ℕ). flatten (map rd x)) (no_siblings b) ∙ nil
  where
    nil : flatten {A = ℕ} [] ≡ []
    nil = unfold flatten in refl

module _ {b : ℕ} {idx : List ℕ} {n : ℕ} {tree : Bytes} {start : ℕ} {out₀ : Bytes} {t₀ : ℕ} (can : CanListLevel b idx n tree start out₀ t₀) where
  pub level_holds : LevelInv b (take n idx) n tree start out₀ t₀ out₀ 0 t₀
  level_holds = record { bounded = omega arith; same_out = refl; missing_are = refl; written = refl; rest = refl }

  module _ {out : Bytes} {a t : ℕ} (v : LevelInv b (take n idx) n tree start out₀ t₀ out a t) (more : a < n) where
    pub level_list : CanList (b * (get_or idx a 0 / b)) b idx n a tree start out t
    level_list = record {
      indices = can.set.indices;
      tree_has = can.tree_has (get_or idx a 0) (index_in can.set more);
      room = omega (arith, (turn_at can.set more).missing_are, v.missing_are, can.room, v.same_out);
    }

    pub level_moves : {out' : Bytes} {a' t' : ℕ} → Listed (b * (get_or idx a 0 / b)) b (take n idx) (all_parts tree) start out out' a t a' t' → a < a'
    level_moves g = omega (arith, g.own, (turn_at can.set more).some)

    pub level_again : {out' : Bytes} {a' t' : ℕ} → Listed (b * (get_or idx a 0 / b)) b (take n idx) (all_parts tree) start out out' a t a' t'
        → length out' ≡ length out → LevelInv b (take n idx) n tree start out₀ t₀ out' a' t'
    level_again {out'} {a'} {t'} g lo =
        let s : List ℕ = take n idx in
        let p : ℕ = get_or idx a 0 / b in
        let u : ℕ = used (b * p) b (drop a s) in
        let rd : ℕ → Bytes = λ c. at (all_parts tree) (start + c) in
        let k : Turn b (drop a s) p u = turn_at can.set more in
        let rs : drop u (drop a s) ≡ drop a' s = drop-drop u a s ∙ ap (λ (j : ℕ). drop j s) (sym g.own) in
        record {
          bounded = omega (arith, k.within, length-drop a s, set-length can.set, g.own);
          same_out = lo ∙ v.same_out;
          missing_are = omega (arith, g.listed, v.missing_are, k.missing_are ∙ ap (λ (x : List ℕ). (b - u) + length (siblings b x)) rs);
          written =
              ap₂ (λ (x : Bytes) (y : List ℕ). x ++ flatten (map rd (siblings b y))) g.written (sym rs)
              ∙ append_assoc (take (32 * t) out) (flatten (map rd (skipped (b * p) b (drop a s)))) (flatten (map rd (siblings b (drop u (drop a s)))))
              ∙ ap (λ (x : Bytes). take (32 * t) out ++ x)
              (sym (flatten-append (map rd (skipped (b * p) b (drop a s))) (map rd (siblings b (drop u (drop a s)))))
              ∙ ap flatten (sym (map-append rd (skipped (b * p) b (drop a s)) (siblings b (drop u (drop a s)))) ∙ ap (map rd) (sym k.siblings_are)))
              ∙ v.written;
          rest = g.rest ∙ drop_later out out₀ (32 * t) (32 * t') (omega (arith, g.listed)) v.rest;
        }

  pub level_done : {out : Bytes} {a t : ℕ} → LevelInv b (take n idx) n tree start out₀ t₀ out a t → n ≤ a
      → LevelListed b (take n idx) (all_parts tree) start out₀ out t₀ t
  level_done {out} {a} {t} v h =
      let s : List ℕ = take n idx in
      let rd : ℕ → Bytes = λ c. at (all_parts tree) (start + c) in
      let short : length s ≤ a = omega (arith, set-length can.set) in
      let nil : drop a s ≡ [] = drop_of_length-le s short in
      record {
        written =
            sym (append-nil (take (32 * t) out))
            ∙ ap (λ (x : Bytes). take (32 * t) out ++ x) (sym (ap (λ (x : List ℕ). flatten (map rd (siblings b x))) nil ∙ no_listed b rd)) ∙ v.written;
        rest = v.rest;
        spent = omega (arith, v.missing_are, ap (λ (x : List ℕ). length (siblings b x)) nil ∙ ap length (no_siblings b));
      }

-- a level's set is a whole slice: what a turn of `list_level` gives, and what its caller asks with a set in a longer slice
pub listed_whole : {first b : ℕ} {s : List ℕ} {ds : List Bytes} {start : ℕ} {out₀ out : Bytes} {a t a' t' : ℕ}
    → Listed first b s ds start out₀ out a t a' t' → Listed first b (take (length s) s) ds start out₀ out a t a' t'
listed_whole g = rw take-length g

pub level-alone : {b : ℕ} {idx : List ℕ} {n : ℕ} {tree : Bytes} {start : ℕ} {out : Bytes} {t : ℕ} → CanListLevel b idx n tree start out t
    → CanListLevel b (take n idx) (length (take n idx)) tree start out t
level-alone {idx = idx} {n} c = record {
  set = set-alone c.set;
  tree_has = λ i m. c.tree_has i (subst (Mem i) (take-length (take n idx)) m);
  room = rw (take-length (take n idx)) c.room;
}

-- ---- all levels

opened_none : (b : ℕ) (t : List Bytes) (s : List ℕ) → flatten (opened b 0 t s) ≡ []
unfolding opened missing flatten
opened_none b t s = refl

pub record ListNodesInv (b h : ℕ) (idx₀ : List ℕ) (n₀ : ℕ) (tree out₀ : Bytes) (idx : List ℕ) (out : Bytes) (n t start width left : ℕ) : Type 0 where
  pub can : CanListNodes b left width idx n tree out
  pub tree_has : start + tree_size b left ≤ length tree / 32
  pub written : take (32 * t) out ++ flatten (opened b left (drop start (all_parts tree)) (take n idx)) ≡ flatten (opened b h (all_parts tree) (take n₀ idx₀))
  pub rest : drop (32 * t) out ≡ drop (32 * t) out₀
  pub spent : t + length (missing b left (take n idx)) ≡ length (missing b h (take n₀ idx₀))
  pub same_idx : length idx ≡ length idx₀
  pub same_out : length out ≡ length out₀

module _ {b h : ℕ} {idx₀ : List ℕ} {n₀ : ℕ} {tree out₀ : Bytes} {width₀ : ℕ} (first : CanListNodes b h width₀ idx₀ n₀ tree out₀) where
  pub list_nodes_holds : ListNodesInv b h idx₀ n₀ tree out₀ idx₀ out₀ n₀ 0 0 width₀ h
  list_nodes_holds = record {
    can = first;
    tree_has = omega (arith, first.tree_has);
    written = refl;
    rest = refl;
    spent = zero-add (length (missing b h (take n₀ idx₀)));
    same_idx = refl;
    same_out = refl;
  }

  list_suc : (k : ℕ) {idx : List ℕ} {out : Bytes} {n t start width : ℕ} → ListNodesInv b h idx₀ n₀ tree out₀ idx out n t start width (suc k)
      → CanListLevel b idx n tree start out t
  unfolding tree_size
  list_suc k {idx} {out} {n} {t} {start} {width} v = record {
    set = v.can.set;
    tree_has = λ i m.
        let d : i / b < b ^ k = (div-lt_iff_lt-mul v.can.set.arity).1 (subst (λ (x : ℕ). i < x) (pow-suc b k) (below_mem (b ^ suc k) (take n idx) v.can.leaves i m)) in
        omega (arith, v.tree_has, mul-le-mul_left b d, pow-succ' b k);
    room = omega (arith, v.spent, missing_count b k (take n idx), first.room, v.same_out);
  }

  list_nodes_suc : (k : ℕ) {idx : List ℕ} {out : Bytes} {n t start width : ℕ} → ListNodesInv b h idx₀ n₀ tree out₀ idx out n t start width (suc k)
      → {idx' : List ℕ} {out' : Bytes} {n' t' : ℕ} → LevelListed b (take n idx) (all_parts tree) start out out' t t' → length out' ≡ length out
      → n' ≡ length (parents b (take n idx)) → take n' idx' ≡ parents b (take n idx) → length idx' ≡ length idx
      → ListNodesInv b h idx₀ n₀ tree out₀ idx' out' n' t' (start + width) (width / b) k
  unfolding tree_size
  list_nodes_suc k {idx} {out} {n} {t} {start} {width} v {idx'} {out'} {n'} {t'} c lo e q li =
      let s : List ℕ = take n idx in
      let T : List Bytes = all_parts tree in
      let o = v.can in
      let total : length (missing b (suc k) s) ≡ length (siblings b s) + length (missing b k (parents b s)) = missing_count b k s in
      record {
        can = record {
          set = set-kept o.set e q li;
          wide = ap (λ (j : ℕ). j / b) (o.wide ∙ pow-suc b k) ∙ mul-div_cancel (b ^ k) o.set.arity;
          leaves = rw q (parents_below b (b ^ k) s o.set.arity (subst (λ (x : ℕ). Below x s) (pow-suc b k) o.leaves));
          tree_has = omega (arith, v.tree_has);
          room = rw q (omega (arith, o.room, total, lo));
        };
        tree_has = omega (arith, v.tree_has, o.wide);
        written =
            ap₂ (λ (x : Bytes) (y : List ℕ). x ++ flatten (opened b k (drop (start + width) T) y)) c.written q
            ∙ append_assoc (take (32 * t) out) _ _
            ∙ ap (λ (x : Bytes). take (32 * t) out ++ x)
            (sym (flatten-append (map (λ i. at T (start + i)) (siblings b s)) (opened b k (drop (start + width) T) (parents b s)))
            ∙ ap flatten
            (ap₂ (λ (x y : List Bytes). x ++ opened b k y (parents b s))
            (map_cong (siblings b s) (λ i m. sym (get_or-drop start T i [])))
            (ap (λ (j : ℕ). drop (start + j) T) o.wide ∙ sym (drop-drop (b ^ suc k) start T))
            ∙ sym (opened-suc b k (drop start T) s)))
            ∙ v.written;
        rest = c.rest ∙ drop_later out out₀ (32 * t) (32 * t') (omega (arith, c.spent)) v.rest;
        spent = rw q (omega (arith, v.spent, c.spent, total));
        same_idx = li ∙ v.same_idx;
        same_out = lo ∙ v.same_out;
      }

  pub list_nodes_list : {left : ℕ} {idx : List ℕ} {out : Bytes} {n t start width : ℕ} → ListNodesInv b h idx₀ n₀ tree out₀ idx out n t start width left → 0 < left
      → CanListLevel b idx n tree start out t
  list_nodes_list {left = zero} v p = absurd (not-suc-le-zero p)
  list_nodes_list {left = suc k} v p = list_suc k v

  -- the next level begins within the tree
  pub list_nodes_next : {left : ℕ} {idx : List ℕ} {out : Bytes} {n t start width : ℕ} → ListNodesInv b h idx₀ n₀ tree out₀ idx out n t start width left → 0 < left
      → start + width ≤ length tree / 32
  unfolding tree_size
  list_nodes_next {left = zero} v p = absurd (not-suc-le-zero p)
  list_nodes_next {left = suc k} v p = omega (arith, v.tree_has, v.can.wide)

  pub list_nodes_again : {left : ℕ} {idx : List ℕ} {out : Bytes} {n t start width : ℕ} → ListNodesInv b h idx₀ n₀ tree out₀ idx out n t start width left → 0 < left
      → {idx' : List ℕ} {out' : Bytes} {n' t' : ℕ} → LevelListed b (take n idx) (all_parts tree) start out out' t t' → length out' ≡ length out
      → n' ≡ length (parents b (take n idx)) → take n' idx' ≡ parents b (take n idx) → length idx' ≡ length idx
      → ListNodesInv b h idx₀ n₀ tree out₀ idx' out' n' t' (start + width) (width / b) (left - 1)
  list_nodes_again {left = zero} v p c lo e q li = absurd (not-suc-le-zero p)
  list_nodes_again {left = suc k} {start = start} {width} v p {idx'} {out'} {n'} {t'} c lo e q li =
      subst (λ (j : ℕ). ListNodesInv b h idx₀ n₀ tree out₀ idx' out' n' t' (start + width) (width / b) j) (sym (sub-one (suc k))) (list_nodes_suc k v c lo e q li)

  pub list_nodes_done : {left : ℕ} {idx : List ℕ} {out : Bytes} {n t start width : ℕ} → ListNodesInv b h idx₀ n₀ tree out₀ idx out n t start width left → left ≤ 0
      → NodesListed b h (take n₀ idx₀) (all_parts tree) out₀ out t
  list_nodes_done {left = suc k} v p = absurd (not-suc-le-zero p)
  list_nodes_done {left = zero} {idx} {out} {n} {t} {start} {width} v p = record {
    count = sym (add-zero t) ∙ ap (λ (k : ℕ). t + k) (sym (missing_none b (take n idx))) ∙ v.spent;
    content =
        sym (take-append-drop (32 * t) out)
        ∙ ap₂ (λ (x y : Bytes). x ++ y)
        (sym (append-nil (take (32 * t) out)) ∙ ap (λ (x : Bytes). take (32 * t) out ++ x) (sym (opened_none b (drop start (all_parts tree)) (take n idx))) ∙ v.written)
        v.rest;
  }

-- What a turn of `root_from` does, on lists.
use mathlib.Core.List.Memᴰ.{head as here}
use mathlib.Core.List.{List, [], ◌∷◌, map, Memᴰ as Mem}
use mathlib.Core.Path.{◌≡◌, refl, sym, ap, ap₂, ◌∙◌, subst}
use Prim.Native.Nat.{ℕ, zero, suc, ◌+◌, ◌*◌, ◌^◌, ◌≤◌, ◌<◌, ◌-◌}
use native.Mathlib.Nat.{zero-add, zero-mul, pow-suc, pow-zero, not-suc-le-zero}
use native.Mathlib.Numerals.{sub-one}
use native.Mathlib.Omega.{arith}
use lib.ListN.{length, take, drop}
use lib.Seq.{drop-drop}
use borrow.Author.Tests.{eq-eqb}
use Rattle.sponge.specs.Digest.{digest}
use Rattle.lists.specs.All.{Below, below_mem}
use Rattle.lists.specs.Bytes.{Bytes}
use Rattle.lists.specs.Pieces.{pieces}
use Rattle.tree_root.specs.Clauses.{CanHashParents, ParentsHashed, CanRoot}
use Rattle.tree.specs.Ancestors.{nodes_above}
use Rattle.tree.specs.Work.{permutations_for}
use Rattle.tree.specs.Sets.{parents, siblings, missing}
use Rattle.tree.specs.Tree.{found, strings, root_from, parts, all_parts}
use Rattle.tree.proofs.Above.{above_times, above_none}
use Rattle.tree.proofs.Counts.{missing_count}
use Rattle.lists.specs.Drops.{in_length}
use Rattle.tree.proofs.Members.{parents_in, parents_below}
use Rattle.node_sets.proofs.Sets.{set-kept, set_fewer}
use Rattle.node_sets.proofs.Turns.{set-length}
use Rattle.lists.specs.Maps.{get_or_in}

pub record RootInv (b h : ℕ) (idx₀ : List ℕ) (n₀ : ℕ) (dig₀ nodes buf₀ : Bytes) (off : ℕ) (idx : List ℕ) (dig buf : Bytes) (n t ran left : ℕ) : Type 0 where
  pub can : CanRoot b left idx n dig nodes buf off
  pub gives : root_from digest b (take off buf₀) left (take n idx) (parts n dig) (drop t (all_parts nodes))
      ≡ root_from digest b (take off buf₀) h (take n₀ idx₀) (parts n₀ dig₀) (all_parts nodes)
  pub spent : t + length (missing b left (take n idx)) ≡ length (missing b h (take n₀ idx₀))
  pub worked : ran + length (nodes_above b left (take n idx)) * permutations_for (length buf) ≡ length (nodes_above b h (take n₀ idx₀)) * permutations_for (length buf₀)
  pub prefix : take off buf ≡ take off buf₀
  pub same_buf : length buf ≡ length buf₀
  pub same_idx : length idx ≡ length idx₀
  pub same_dig : length dig ≡ length dig₀

-- on the top level, the one node is the first
found-top : (s : List ℕ) (n : ℕ) (dig : Bytes) → zero < length s → zero < n → ((i : ℕ) → Mem i s → i ≡ 0) → found s (parts n dig) 0 ≡ take 32 dig
unfolding found pieces
found-top [] n dig h k l = absurd (not-suc-le-zero h)
found-top (i ∷ s) zero dig h k l = absurd (not-suc-le-zero k)
found-top (i ∷ s) (suc n) dig h k l = rw (eq-eqb i 0 (l i (here refl)))

module _ {b h : ℕ} {idx₀ : List ℕ} {n₀ : ℕ} {dig₀ nodes buf₀ : Bytes} {off : ℕ} (first : CanRoot b h idx₀ n₀ dig₀ nodes buf₀ off) where
  pub root_holds : RootInv b h idx₀ n₀ dig₀ nodes buf₀ off idx₀ dig₀ buf₀ n₀ 0 0 h
  root_holds = record { can = first; gives = refl; spent = zero-add (length (missing b h (take n₀ idx₀))); worked = zero-add (length (nodes_above b h (take n₀ idx₀)) * permutations_for (length buf₀)); prefix = refl; same_buf = refl; same_idx = refl; same_dig = refl }

  module _ {idx : List ℕ} {dig buf : Bytes} {n t ran : ℕ} where
    hash_parents-suc : (k : ℕ) → RootInv b h idx₀ n₀ dig₀ nodes buf₀ off idx dig buf n t ran (suc k) → CanHashParents b idx n dig nodes t buf off
    hash_parents-suc k v = record {
      set = v.can.set;
      digests = v.can.digests;
      room = v.can.room;
      listed = omega (arith, v.spent, missing_count b k (take n idx), first.listed);
      countable = omega (arith, v.can.countable, above_times b k (take n idx) (permutations_for (length buf)));
    }

    again_suc : (k : ℕ) → RootInv b h idx₀ n₀ dig₀ nodes buf₀ off idx dig buf n t ran (suc k) → {idx' : List ℕ} {dig' buf' : Bytes} {n' t' : ℕ}
        → ParentsHashed b (take off buf) (take n idx) (parts n dig) (all_parts nodes) t dig' t' → take off buf' ≡ take off buf
        → {r : ℕ} → r ≡ length (parents b (take n idx)) * permutations_for (length buf)
        → n' ≡ length (parents b (take n idx)) → take n' idx' ≡ parents b (take n idx)
        → length idx' ≡ length idx → length dig' ≡ length dig → length buf' ≡ length buf
        → RootInv b h idx₀ n₀ dig₀ nodes buf₀ off idx' dig' buf' n' t' (ran + r) k
    again_suc k v {idx'} {dig'} {buf'} {n'} {t'} c p {r} er e q li ld lb =
        let s : List ℕ = take n idx in
        let ns : List Bytes = all_parts nodes in
        let pre : Bytes = take off buf₀ in
        let o = v.can in
        let few : n' ≤ n = set_fewer o.set e in
        let total : length (missing b (suc k) s) ≡ length (siblings b s) + length (missing b k (parents b s)) = missing_count b k s in
        record {
          can = record {
            set = set-kept o.set e q li;
            some = subst (λ (x : ℕ). zero < x) (sym e) (in_length (parents_in b (get_or_in s 0 (omega (arith, set-length o.set, o.some)))));
            digests = omega (arith, o.digests);
            leaves = rw q (parents_below b (b ^ k) s o.set.arity (subst (λ (x : ℕ). Below x s) (pow-suc b k) o.leaves));
            room = o.room ∙ sym lb;
            listed = rw q (omega (arith, o.listed, total));
            countable = rw (q, lb) (omega (arith, o.countable, above_times b k (take n idx) (permutations_for (length buf))));
          };
          gives =
              ap₂ (λ (x : List ℕ) (y : List Bytes). root_from digest b pre k x y (drop t' ns)) q
              (ap (λ (j : ℕ). parts j dig') e ∙ c.digests ∙ ap (λ (x : Bytes). map digest (strings digest b x s (parts n dig) (drop t ns))) v.prefix)
              ∙ ap (root_from digest b pre k (parents b s) (map digest (strings digest b pre s (parts n dig) (drop t ns))))
              (ap (λ (x : ℕ). drop x ns) c.spent ∙ sym (drop-drop (length (siblings b s)) t ns))
              ∙ (unfold root_from in v.gives);
          spent = rw q (omega (arith, v.spent, c.spent, total));
          worked = rw (q, lb) (omega (arith, er, v.worked, above_times b k (take n idx) (permutations_for (length buf))));
          prefix = p ∙ v.prefix;
          same_buf = lb ∙ v.same_buf;
          same_idx = li ∙ v.same_idx;
          same_dig = ld ∙ v.same_dig;
        }

    pub root_parents : {left : ℕ} → RootInv b h idx₀ n₀ dig₀ nodes buf₀ off idx dig buf n t ran left → 0 < left → CanHashParents b idx n dig nodes t buf off
    root_parents {left = zero} v p = absurd (not-suc-le-zero p)
    root_parents {left = suc k} v p = hash_parents-suc k v

    pub root_again : {left : ℕ} → RootInv b h idx₀ n₀ dig₀ nodes buf₀ off idx dig buf n t ran left → 0 < left → {idx' : List ℕ} {dig' buf' : Bytes} {n' t' : ℕ}
        → ParentsHashed b (take off buf) (take n idx) (parts n dig) (all_parts nodes) t dig' t' → take off buf' ≡ take off buf
        → {r : ℕ} → r ≡ length (parents b (take n idx)) * permutations_for (length buf)
        → n' ≡ length (parents b (take n idx)) → take n' idx' ≡ parents b (take n idx)
        → length idx' ≡ length idx → length dig' ≡ length dig → length buf' ≡ length buf
        → RootInv b h idx₀ n₀ dig₀ nodes buf₀ off idx' dig' buf' n' t' (ran + r) (left - 1)
    root_again {left = zero} v p c o er e q li ld lb = absurd (not-suc-le-zero p)
    root_again {left = suc k} v p {idx'} {dig'} {buf'} {n'} {t'} c o {r} er e q li ld lb =
        subst (λ (x : ℕ). RootInv b h idx₀ n₀ dig₀ nodes buf₀ off idx' dig' buf' n' t' (ran + r) x) (sym (sub-one (suc k))) (again_suc k v c o er e q li ld lb)

    pub root_done : {left : ℕ} → RootInv b h idx₀ n₀ dig₀ nodes buf₀ off idx dig buf n t ran left → left ≤ 0
        → take 32 dig ≡ root_from digest b (take off buf₀) h (take n₀ idx₀) (parts n₀ dig₀) (all_parts nodes)
    root_done {left = suc k} v p = absurd (not-suc-le-zero p)
    root_done {left = zero} v p =
        let o = v.can in
        sym (found-top (take n idx) n dig (omega (arith, set-length o.set, o.some)) o.some (λ i m. omega (arith, below_mem (b ^ 0) (take n idx) o.leaves i m, pow-zero b)))
        ∙ (unfold root_from in v.gives)

    -- the level's permutations can be counted
    pub root_count : {left : ℕ} → RootInv b h idx₀ n₀ dig₀ nodes buf₀ off idx dig buf n t ran left → 0 < left → {r : ℕ} → r ≡ length (parents b (take n idx)) * permutations_for (length buf) → ran + r < 2 ^ 64
    root_count {left = zero} v p er = absurd (not-suc-le-zero p)
    root_count {left = suc k} v p er = omega (arith, er, v.worked, above_times b k (take n idx) (permutations_for (length buf)), first.countable)

    pub root_worked : {left : ℕ} → RootInv b h idx₀ n₀ dig₀ nodes buf₀ off idx dig buf n t ran left → left ≤ 0 → ran ≡ length (nodes_above b h (take n₀ idx₀)) * permutations_for (length buf₀)
    root_worked {left = suc k} v p = absurd (not-suc-le-zero p)
    root_worked {left = zero} v p =
        let none : length (nodes_above b 0 (take n idx)) * permutations_for (length buf) ≡ 0 = ap (λ (x : ℕ). x * permutations_for (length buf)) (above_none b (take n idx)) ∙ zero-mul (permutations_for (length buf)) in
        omega (arith, none, v.worked)

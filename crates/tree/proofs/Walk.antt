-- Going over a set parent by parent, and over the children of each, gives the strings, the parents and the missing nodes of the definitions.
use mathlib.Core.Bool.{true, false, false≢true}
use mathlib.Core.List.Memᴰ.{append_cases as in-cases, append_left as in_left, append_right as in_right, cases_cons, head as here, not-nil, tail as there}
use mathlib.Core.List.{List, [], ◌∷◌, ◌++◌, map, flatten, append_assoc, Memᴰ as Mem, tail}
use mathlib.Core.Logic.{⊎_elim}
use mathlib.Core.Path.{◌≡◌, refl, sym, ap, ap₂, ◌∙◌, subst}
use Prim.Native.Nat.{ℕ, zero, suc, ◌+◌, ◌*◌, ◌/◌, ◌≤◌, ◌<◌, ◌-◌, suc-le-suc, zero-le}
use native.Mathlib.Nat.{mul-div-le, mul_comm, not-suc-le-zero, zero-lt-suc, suc_inj, suc-ne-zero, le-div_iff_mul-le}
use native.Mathlib.Omega.{arith}
use lib.Dec.{eqb}
use lib.ListN.{length, take, drop, length-take, length-drop, take-append-drop}
use lib.Seq.{drop_at, length-take-le, drop-nil, take-nil}
use borrow.Author.Tests.{eqb-true, eqb-false, eq-eqb, ne_eqb}
use Rattle.lists.specs.Bytes.{Bytes}
use Rattle.lists.specs.Choice.{tested}
use Rattle.lists.specs.Maps.{map_cong}
use Rattle.lists.specs.Range.{up_from, up_from_in, up_from_of}
use Rattle.lists.specs.Rising.{Rising}
use Rattle.tree.specs.Sets.{children, parents, siblings, below, mem, without, push}
use Rattle.tree.specs.Tree.{at, found, node_string, strings}
use Rattle.tree.specs.Walk.{used, skipped, fill, heads}
use Rattle.tree.proofs.Counts.{mem_false, without_cons}
use Rattle.tree.proofs.Found.{found_left, found_prefix, found_skip, found_insert, found_first}
use Rattle.lists.specs.Drops.{in_length}
use Rattle.tree.proofs.Members.{child_of, below_in, below_of, mem_in, mem_true, without_in, without_of, parents_of}

-- ---- the children of one node

-- a rising set from c on, whose first node is not c, lies above c
lies_above : {c j : ℕ} {s : List ℕ} → Rising (j ∷ s) → c ≤ j → (j ≡ c → ⊥) → (i : ℕ) → Mem i (j ∷ s) → c < i
lies_above {c} {j} {s} r l n i m = ⊎_elim (λ (e : i ≡ j). omega arith) (λ (k : Mem i s). omega (arith, r.0 i k)) (cases_cons m)

-- the next child is not the set's: the next listed digest is its
fill_listed : (c k : ℕ) (s : List ℕ) (ds nodes : List Bytes) → ((i : ℕ) → Mem i s → c < i) → length s ≡ length ds
    → fill (suc c) k s ds (tail nodes) ≡ map (found (s ++ without s (up_from (suc c) k)) (ds ++ tail nodes)) (up_from (suc c) k)
    → at nodes 0 ∷ fill (suc c) k s ds (tail nodes) ≡ map (found (s ++ without s (up_from c (suc k))) (ds ++ nodes)) (up_from c (suc k))
unfolding up_from without
fill_listed c k s ds nodes l e ih =
    let w : without s (up_from c (suc k)) ≡ c ∷ without s (up_from (suc c) k) = rw (mem_false c s (λ m. omega (arith, l c m))) in
    subst (λ (ws : List ℕ). at nodes 0 ∷ fill (suc c) k s ds (tail nodes) ≡ map (found (s ++ ws) (ds ++ nodes)) (up_from c (suc k))) (sym w)
    (ap₂ (λ (d : Bytes) (r : List Bytes). d ∷ r)
    (sym (found_skip s (c ∷ without s (up_from (suc c) k)) (ds ++ nodes) (λ m. omega (arith, l c m))
    ∙ ap (λ (r : List Bytes). found (c ∷ without s (up_from (suc c) k)) r c) (drop_at ds nodes (length s) (sym e))
    ∙ found_first c (without s (up_from (suc c) k)) nodes))
    (ih ∙ map_cong (up_from (suc c) k) (λ x m. sym (found_insert {c = c} s (without s (up_from (suc c) k)) ds nodes (λ q. omega (arith, up_from_of (suc c) k x m)) e))))

-- the next child is the set's
fill_own : (c k i : ℕ) (s : List ℕ) (d : Bytes) (ds nodes : List Bytes) → i ≡ c
    → fill (suc c) k s ds nodes ≡ map (found (s ++ without s (up_from (suc c) k)) (ds ++ nodes)) (up_from (suc c) k)
    → d ∷ fill (suc c) k s ds nodes ≡ map (found ((i ∷ s) ++ without (i ∷ s) (up_from c (suc k))) ((d ∷ ds) ++ nodes)) (up_from c (suc k))
unfolding up_from without found
fill_own c k i s d ds nodes q ih =
    let w : without (i ∷ s) (up_from c (suc k)) ≡ without s (up_from (suc c) k)
    = rw (mem_true {c = c} {s = i ∷ s} (here (sym q)), without_cons i s (up_from (suc c) k) (λ x m. omega (arith, up_from_of (suc c) k x m))) in
    subst (λ (ws : List ℕ). d ∷ fill (suc c) k s ds nodes ≡ map (found ((i ∷ s) ++ ws) ((d ∷ ds) ++ nodes)) (up_from c (suc k))) (sym w)
    (ap₂ (λ (d : Bytes) (r : List Bytes). d ∷ r) (rw (eq-eqb i c q))
    (ih ∙ map_cong (up_from (suc c) k) (λ x m. rw (ne_eqb i x (λ p. omega (arith, up_from_of (suc c) k x m))))))

fill_is : (c k : ℕ) (s : List ℕ) (ds nodes : List Bytes) → Rising s → ((i : ℕ) → Mem i s → c ≤ i) → length s ≡ length ds
    → fill c k s ds nodes ≡ map (found (s ++ without s (up_from c k)) (ds ++ nodes)) (up_from c k)
unfolding fill heads
fill_is c zero s ds nodes r l e = unfold up_from in refl
fill_is c (suc k) [] [] nodes r l e = fill_listed c k [] [] nodes (λ i m. absurd (not-nil m)) e (fill_is (suc c) k [] [] (tail nodes) r (λ i m. absurd (not-nil m)) e)
fill_is c (suc k) [] (d ∷ ds) nodes r l e = absurd (suc-ne-zero (length ds) (sym e))
fill_is c (suc k) (i ∷ s) [] nodes r l e = absurd (suc-ne-zero (length s) e)
fill_is c (suc k) (i ∷ s) (d ∷ ds) nodes r l e = ⊎_elim
    (λ (q : eqb i c ≡ true).
    let above : (x : ℕ) → Mem x s → suc c ≤ x = λ x m. omega (arith, r.0 x m, eqb-true i c q) in
    rw q (fill_own c k i s d ds nodes (eqb-true i c q) (fill_is (suc c) k s ds nodes r.1 above (suc_inj e))))
    (λ (q : eqb i c ≡ false).
    let above : (x : ℕ) → Mem x (i ∷ s) → c < x = lies_above r (l i (here refl)) (eqb-false i c q) in
    rw q (fill_listed c k (i ∷ s) (d ∷ ds) nodes above e (fill_is (suc c) k (i ∷ s) (d ∷ ds) (tail nodes) r above e)))
    (tested (eqb i c))

-- the walk finds the children that are missing
pub skipped_is : (c k : ℕ) (s : List ℕ) → Rising s → ((i : ℕ) → Mem i s → c ≤ i) → skipped c k s ≡ without s (up_from c k)
unfolding skipped heads up_from without
skipped_is c zero s r l = refl
skipped_is c (suc k) [] r l = rw (mem_false c [] not-nil) (ap (λ (x : List ℕ). c ∷ x) (skipped_is (suc c) k [] r (λ i m. absurd (not-nil m))))
skipped_is c (suc k) (i ∷ s) r l = ⊎_elim
    (λ (q : eqb i c ≡ true).
    let above : (x : ℕ) → Mem x s → suc c ≤ x = λ x m. omega (arith, r.0 x m, eqb-true i c q) in
    rw (q, mem_true {c = c} {s = i ∷ s} (here (sym (eqb-true i c q))), without_cons i s (up_from (suc c) k) (λ x m. omega (arith, up_from_of (suc c) k x m, eqb-true i c q)))
    (skipped_is (suc c) k s r.1 above))
    (λ (q : eqb i c ≡ false).
    let above : (x : ℕ) → Mem x (i ∷ s) → c < x = lies_above r (l i (here refl)) (eqb-false i c q) in
    rw (q, mem_false c (i ∷ s) (λ m. omega (arith, above c m))) (ap (λ (x : List ℕ). c ∷ x) (skipped_is (suc c) k (i ∷ s) r above)))
    (tested (eqb i c))

-- ---- the set's nodes under one node, and the rest

used_count : (c k : ℕ) (s : List ℕ) → Rising s → ((i : ℕ) → Mem i s → c ≤ i) → length (without s (up_from c k)) + used c k s ≡ k
unfolding used heads without up_from
used_count c zero s r l = refl
used_count c (suc k) [] r l = rw (mem_false c [] not-nil) (omega (arith, used_count (suc c) k [] r (λ i m. absurd (not-nil m))))
used_count c (suc k) (i ∷ s) r l = ⊎_elim
    (λ (q : eqb i c ≡ true).
    let above : (x : ℕ) → Mem x s → suc c ≤ x = λ x m. omega (arith, r.0 x m, eqb-true i c q) in
    rw (q, mem_true {c = c} {s = i ∷ s} (here (sym (eqb-true i c q))), without_cons i s (up_from (suc c) k) (λ x m. omega (arith, up_from_of (suc c) k x m, eqb-true i c q)))
    (omega (arith, used_count (suc c) k s r.1 above)))
    (λ (q : eqb i c ≡ false).
    let above : (x : ℕ) → Mem x (i ∷ s) → c < x = lies_above r (l i (here refl)) (eqb-false i c q) in
    rw (q, mem_false c (i ∷ s) (λ m. omega (arith, above c m))) (omega (arith, used_count (suc c) k (i ∷ s) r above)))
    (tested (eqb i c))

-- a rising set from c on: the first ones lie among the k numbers from c on, and the rest lies-above them
record Split (c k : ℕ) (s own rest : List ℕ) : Type 0 where
  pub parts : s ≡ own ++ rest
  pub among : (i : ℕ) → Mem i own → (c ≤ i) × (i < c + k)
  pub beyond : (i : ℕ) → Mem i rest → c + k ≤ i

pub used_le : (c k : ℕ) (s : List ℕ) → used c k s ≤ length s
unfolding used heads
used_le c zero s = zero-le
used_le c (suc k) [] = used_le (suc c) k []
used_le c (suc k) (i ∷ s) = ⊎_elim
    (λ (q : eqb i c ≡ true). rw q (suc-le-suc (used_le (suc c) k s)))
    (λ (q : eqb i c ≡ false). rw q (used_le (suc c) k (i ∷ s)))
    (tested (eqb i c))

used-split : (c k : ℕ) (s : List ℕ) → Rising s → ((i : ℕ) → Mem i s → c ≤ i) → Split c k s (take (used c k s) s) (drop (used c k s) s)
unfolding used heads
used-split c zero s r l = record { parts = refl; among = λ i m. absurd (not-nil m); beyond = λ i m. omega (arith, l i m) }
used-split c (suc k) [] r l = record {
  parts = sym (take-append-drop (used (suc c) k []) []);
  among = λ i m. absurd (not-nil (rw take-nil at m));
  beyond = λ i m. absurd (not-nil (rw drop-nil at m));
}
used-split c (suc k) (i ∷ s) r l = ⊎_elim
    (λ (q : eqb i c ≡ true).
    let above : (x : ℕ) → Mem x s → suc c ≤ x = λ x m. omega (arith, r.0 x m, eqb-true i c q) in
    let ih = used-split (suc c) k s r.1 above in
    rw q record {
      parts = ap (λ (t : List ℕ). i ∷ t) ih.parts;
      among = λ x m. ⊎_elim (λ (e : x ≡ i). omega (arith, eqb-true i c q)) (λ (k' : Mem x (take (used (suc c) k s) s)). omega (arith, ih.among x k')) (cases_cons m);
      beyond = λ x m. omega (arith, ih.beyond x m);
    })
    (λ (q : eqb i c ≡ false).
    let above : (x : ℕ) → Mem x (i ∷ s) → c < x = lies_above r (l i (here refl)) (eqb-false i c q) in
    let ih = used-split (suc c) k (i ∷ s) r above in
    rw q record { parts = ih.parts; among = λ x m. omega (arith, ih.among x m); beyond = λ x m. omega (arith, ih.beyond x m) })
    (tested (eqb i c))

-- ---- one parent, and the rest of the set

-- p has not been listed: it comes first
push_new : (p : ℕ) (ps : List ℕ) → (Mem p ps → ⊥) → push p ps ≡ p ∷ ps
unfolding push
push_new p [] n = refl
push_new p (q ∷ ps) n = rw (ne_eqb p q (λ e. n (here e)))

parents_group : (b p : ℕ) (own rest : List ℕ) → zero < length own → ((i : ℕ) → Mem i own → i / b ≡ p) → (Mem p (parents b rest) → ⊥)
    → parents b (own ++ rest) ≡ p ∷ parents b rest
unfolding parents
parents_group b p [] rest h o n = absurd (not-suc-le-zero h)
parents_group b p (i ∷ []) rest h o n = rw (o i (here refl)) (push_new p (parents b rest) n)
parents_group b p (i ∷ j ∷ own) rest h o n =
    rw (o i (here refl), parents_group b p (j ∷ own) rest (zero-lt-suc (length own)) (λ x m. o x (there m)) n)
    (unfold push in rw (eq-eqb p p refl))

mem_skip : {c : ℕ} (own rest : List ℕ) → (Mem c own → ⊥) → mem c (own ++ rest) ≡ mem c rest
unfolding mem
mem_skip [] rest n = refl
mem_skip {c} (i ∷ own) rest n = rw (ne_eqb i c (λ e. n (here (sym e)))) (mem_skip own rest (λ m. n (there m)))

-- nodes that a list does not have take nothing from it
without_skip : (own rest cs : List ℕ) → ((c : ℕ) → Mem c cs → Mem c own → ⊥) → without (own ++ rest) cs ≡ without rest cs
unfolding without
without_skip own rest [] h = refl
without_skip own rest (c ∷ cs) h = rw (mem_skip own rest (h c (here refl)), without_skip own rest cs (λ d m. h d (there m)))

without_append : (s xs ys : List ℕ) → without s (xs ++ ys) ≡ without s xs ++ without s ys
unfolding without
without_append s [] ys = refl
without_append s (x ∷ xs) ys = ⊎_elim
    (λ (e : mem x s ≡ true). rw e (without_append s xs ys))
    (λ (e : mem x s ≡ false). rw e (ap (λ (r : List ℕ). x ∷ r) (without_append s xs ys)))
    (tested (mem x s))

module _ (b : ℕ) (pos : zero < b) (i : ℕ) (s₀ : List ℕ) (r : Rising (i ∷ s₀)) where
  -- the first node above the set i ∷ s₀; how many of the set's nodes are under it, which, and the rest
  abbrev pub top : ℕ
  top = i / b

  abbrev pub cut : ℕ
  cut = used (b * (i / b)) b (i ∷ s₀)

  abbrev own : List ℕ
  own = take (used (b * (i / b)) b (i ∷ s₀)) (i ∷ s₀)

  abbrev pub rest : List ℕ
  rest = drop (used (b * (i / b)) b (i ∷ s₀)) (i ∷ s₀)

  pub low : (x : ℕ) → Mem x (i ∷ s₀) → b * top ≤ x
  low x m = ⊎_elim (λ (e : x ≡ i). omega (arith, mul-div-le i b)) (λ (k : Mem x s₀). omega (arith, mul-div-le i b, r.0 x k)) (cases_cons m)

  split : Split (b * top) b (i ∷ s₀) own rest
  split = used-split (b * top) b (i ∷ s₀) r low

  own_under : (x : ℕ) → Mem x own → x / b ≡ top
  own_under x m = child_of b top x pos (unfold children in up_from_in (b * top) b x (split.among x m).0 (split.among x m).1)

  rest_past : (x : ℕ) → Mem x rest → top < x / b
  rest_past x m = (le-div_iff_mul-le pos).1 (omega (arith, split.beyond x m, mul_comm b top))

  own_first : Mem i own
  own_first = ⊎_elim (λ (m : Mem i own). m) (λ (m : Mem i rest). absurd (omega (arith, rest_past i m)))
      (in-cases own (subst (Mem i) split.parts (here refl)))

  rest-parents : Mem top (parents b rest) → ⊥
  rest-parents m = let o = parents_of b rest m in omega (arith, rest_past o.0 o.1, o.2)

  pub parents-step : parents b (i ∷ s₀) ≡ top ∷ parents b rest
  parents-step = ap (parents b) split.parts ∙ parents_group b top own rest (in_length own_first) own_under rest-parents

  apart : (c : ℕ) → Mem c (below b (parents b rest)) → Mem c own → ⊥
  apart c m k =
      let o = parents_of b rest (below_of b (parents b rest) pos m) in
      omega (arith, rest_past o.0 o.1, o.2, own_under c k)

  pub siblings-step : siblings b (i ∷ s₀) ≡ without (i ∷ s₀) (children b top) ++ siblings b rest
  unfolding siblings below
  siblings-step =
      ap (λ (ps : List ℕ). without (i ∷ s₀) (below b ps)) parents-step
      ∙ without_append (i ∷ s₀) (children b top) (below b (parents b rest))
      ∙ ap (λ (t : List ℕ). without (i ∷ s₀) (children b top) ++ t)
      (ap (λ (t : List ℕ). without t (below b (parents b rest))) split.parts ∙ without_skip own rest (below b (parents b rest)) apart)

  pub listed_step : length (without (i ∷ s₀) (children b top)) ≡ b - cut
  unfolding children
  listed_step = omega (arith, used_count (b * top) b (i ∷ s₀) r low)

  pub cut_pos : zero < cut
  cut_pos = omega (arith, in_length own_first, length-take cut (i ∷ s₀))

  abbrev pub listed : List ℕ
  listed = without (i ∷ s₀) (children b (i / b))

  listed_apart : (c : ℕ) → Mem c (below b (parents b rest)) → Mem c listed → ⊥
  listed_apart c m k =
      let o = parents_of b rest (below_of b (parents b rest) pos m) in
      omega (arith, rest_past o.0 o.1, o.2, child_of b top c pos (without_of (i ∷ s₀) (children b top) k).0)

  own_length : length own ≡ cut
  own_length = length-take-le cut (i ∷ s₀) (used_le (b * top) b (i ∷ s₀))

  module _ (ds nodes : List Bytes) (len : length (i ∷ s₀) ≡ length ds) where
    rest-length : length rest ≡ length (drop cut ds)
    rest-length = omega (arith, length-drop cut (i ∷ s₀), length-drop cut ds)

    -- the first node's children, as the code takes them
    fill_step : map (found ((i ∷ s₀) ++ siblings b (i ∷ s₀)) (ds ++ nodes)) (children b top) ≡ fill (b * top) b (i ∷ s₀) ds nodes
    fill_step =
        map_cong (children b top) (λ c m.
        ap (λ (xs : List ℕ). found xs (ds ++ nodes) c) (ap (λ (t : List ℕ). (i ∷ s₀) ++ t) siblings-step ∙ sym (append_assoc (i ∷ s₀) listed (siblings b rest)))
        ∙ found_prefix (siblings b rest) (ds ++ nodes) (⊎_elim
        (λ (e : mem c (i ∷ s₀) ≡ true). in_left listed (mem_in c (i ∷ s₀) e))
        (λ (e : mem c (i ∷ s₀) ≡ false). in_right (i ∷ s₀) (without_in (i ∷ s₀) m e))
        (tested (mem c (i ∷ s₀)))))
        ∙ sym (unfold children in fill_is (b * top) b (i ∷ s₀) ds nodes r low len)

    -- what is found for a node further on does not depend on the first one's
    found-step : (c : ℕ) → Mem c (below b (parents b rest))
        → found ((i ∷ s₀) ++ siblings b (i ∷ s₀)) (ds ++ nodes) c ≡ found (rest ++ siblings b rest) (drop cut ds ++ drop (b - cut) nodes) c
    found-step c m = ⊎_elim
        (λ (e : mem c rest ≡ true).
        let k : Mem c rest = mem_in c rest e in
        let ks : Mem c (i ∷ s₀) = subst (Mem c) (sym split.parts) (in_right own k) in
        found_left (siblings b (i ∷ s₀)) ds nodes ks len
        ∙ ap (λ (xs : List ℕ). found xs ds c) split.parts
        ∙ found_skip own rest ds (apart c m)
        ∙ ap (λ (n : ℕ). found rest (drop n ds) c) own_length
        ∙ sym (found_left (siblings b rest) (drop cut ds) (drop (b - cut) nodes) k rest-length))
        (λ (e : mem c rest ≡ false).
        let n : Mem c rest → ⊥ = λ k. false≢true (sym e ∙ mem_true k) in
        let ns : Mem c (i ∷ s₀) → ⊥ = λ k. ⊎_elim (apart c m) n (in-cases own (subst (Mem c) split.parts k)) in
        found_skip (i ∷ s₀) (siblings b (i ∷ s₀)) (ds ++ nodes) ns
        ∙ ap (λ (es : List Bytes). found (siblings b (i ∷ s₀)) es c) (drop_at ds nodes (length (i ∷ s₀)) (sym len))
        ∙ ap (λ (xs : List ℕ). found xs nodes c) siblings-step
        ∙ found_skip listed (siblings b rest) nodes (listed_apart c m)
        ∙ ap (λ (k : ℕ). found (siblings b rest) (drop k nodes) c) listed_step
        ∙ sym (found_skip rest (siblings b rest) (drop cut ds ++ drop (b - cut) nodes) n
        ∙ ap (λ (es : List Bytes). found (siblings b rest) es c) (drop_at (drop cut ds) (drop (b - cut) nodes) (length rest) (sym rest-length))))
        (tested (mem c rest))

  pub strings_step : (digest : Bytes → Bytes) (pre : Bytes) (ds nodes : List Bytes) → length (i ∷ s₀) ≡ length ds
      → strings digest b pre (i ∷ s₀) ds nodes
      ≡ (pre ++ flatten (fill (b * top) b (i ∷ s₀) ds nodes)) ∷ strings digest b pre rest (drop cut ds) (drop (b - cut) nodes)
  unfolding strings node_string
  strings_step digest pre ds nodes len =
      ap (map (node_string b pre (found ((i ∷ s₀) ++ siblings b (i ∷ s₀)) (ds ++ nodes)))) parents-step
      ∙ ap₂ (λ (x : Bytes) (xs : List Bytes). x ∷ xs)
      (ap (λ (r : List Bytes). pre ++ flatten r) (fill_step ds nodes len))
      (map_cong (parents b rest) (λ p m. ap (λ (r : List Bytes). pre ++ flatten r)
      (map_cong (children b p) (λ c k. found-step ds nodes len c (below_in b m k)))))

-- Collected replies: exactly one list of rows takes the opened values, and every evaluation answer accepted at enough leaves gives the true values.
-- That no two different strings hashed share a digest is a hypothesis of the claim.
use mathlib.Core.Path.{◌≡◌, refl, sym, ap, ap₂, ◌∙◌, subst}
use mathlib.Core.List.Memᴰ.{head as here}
use mathlib.Core.List.{List, [], ◌∷◌, map, Memᴰ as Mem}
use Prim.Native.Nat.{ℕ, zero, suc, ◌+◌, ◌*◌, ◌≤◌, ◌<◌}
use native.Mathlib.Nat.{not-suc-le-zero}
use native.Mathlib.Omega.{arith}
use lib.ListN.{length, get_or, take, drop}
use lib.Seq.{get_or-take}
use Rattle.lists.specs.Bytes.{Bytes, from_bytes}
use Rattle.algebra.specs.Prime.{q}
use Rattle.lists.specs.All.{Distinct, all_from, mem_all}
use Rattle.algebra.specs.Numbers.{values_from, eval_n, interp_n, values_at_n, Elements, Polys, rows_n, rows_n-length, rows_n_polys, rows_n-take, rows_n-unique, answer_n_true}
use Rattle.algebra.specs.Columns.{pow_n}
use Rattle.lists.specs.Pieces.{piece}
use Rattle.scheme.specs.Sizes.{Sizes, SizesInOrder, rows, width, degree, points, leaf_point}
use Rattle.scheme.specs.Layers.{held_polynomial}
use Rattle.scheme.specs.Question.{read_question, header_length, header_sizes}
use Rattle.scheme.specs.Reply.{row_values, mask_value}
use Rattle.scheme.specs.Check.{record_at, challenge_of, batching_of}
use Rattle.scheme.specs.Collect.{Call, Answered, returned, asked, given, Collected, Opens, Holds, NoCollision, Covered, TakesOpened, AcceptedAt, CollectedReplies}
use Rattle.scheme.proofs.Accepted.{leaves-high, degree-suc, points_are_below, points-differ, points_count}
use Rattle.scheme.proofs.Bound.{Placed, same_record}
use Rattle.algebra.specs.Stacked.{stacked_value}
use Rattle.scheme.proofs.AcceptedCall.{Poly, Facts, facts}

-- ---- the header

part_of : (k a n : ℕ) (b : Bytes) → a + k ≤ n → take k (drop a (take n b)) ≡ take k (drop a b)
part_of k zero n b l = take_of k n b l
  where
    take_of : (k n : ℕ) (b : Bytes) → zero + k ≤ n → take k (take n b) ≡ take k b
    take_of zero n b l = refl
    take_of (suc k) zero b l = absurd (omega arith)
    take_of (suc k) (suc n) [] l = refl
    take_of (suc k) (suc n) (x ∷ b) l = ap (λ (t : Bytes). x ∷ t) (take_of k n b (omega arith))
part_of k (suc a) zero b l = absurd (omega arith)
part_of k (suc a) (suc n) [] l = refl
part_of k (suc a) (suc n) (x ∷ b) l = part_of k a n b (omega arith)

pub header_sizes_lem : (b : Bytes) → header_sizes (take header_length b) ≡ header_sizes b
header_sizes_lem b =
    let h = get_or-take header_length b 5 0 (omega arith) in
    let μ = get_or-take header_length b 6 0 (omega arith) in
    let ν = ap from_bytes (part_of 2 7 header_length b (omega arith)) in
    let w = ap from_bytes (part_of 2 9 header_length b (omega arith)) in
    let ℓ = get_or-take header_length b 11 0 (omega arith) in
    let η = get_or-take header_length b 12 0 (omega arith) in
    let β = get_or-take header_length b 14 0 (omega arith) in
    λ i. record { h = h i; μ = μ i; ν = ν i; w = w i; ℓ = ℓ i; η = η i; β = β i }

question_sizes : (b : Bytes) → (read_question b).sizes ≡ header_sizes b
unfolding read_question
question_sizes b = refl

-- ---- lists

first_of : (n : ℕ) (xs : List ℕ) → suc n ≤ length xs → (i : ℕ) × Mem i xs
first_of n [] l = absurd (not-suc-le-zero l)
first_of n (x ∷ xs) l = (x, here refl)

piece-map : (f : ℕ → ℕ) (k a : ℕ) (xs : List ℕ) → take k (drop a (map f xs)) ≡ map f (take k (drop a xs))
piece-map f zero zero xs = refl
piece-map f (suc k) zero [] = refl
piece-map f (suc k) zero (x ∷ xs) = ap (λ (t : List ℕ). f x ∷ t) (piece-map f k zero xs)
piece-map f zero (suc a) [] = refl
piece-map f (suc k) (suc a) [] = refl
piece-map f zero (suc a) (x ∷ xs) = refl
piece-map f (suc k) (suc a) (x ∷ xs) = piece-map f (suc k) a xs

values_map : (ps : List (List ℕ)) (z : ℕ) (xs : List ℕ) → map (λ x. eval_n (values_at_n ps x) z) xs ≡ values_at_n (map (values_at_n ps) xs) z
unfolding values_at_n
values_map ps z [] = refl
values_map ps z (x ∷ xs) = ap (λ (t : List ℕ). eval_n (values_at_n ps x) z ∷ t) (values_map ps z xs)

module _ (calls : List Call) (header root salt : Bytes) (ans : (c : Call) → Mem c calls → Answered c) (nc : NoCollision calls header root salt) where
  abbrev In : Call → Type 0
  In c = Collected calls header root salt c

  abbrev s : Sizes
  s = header_sizes header

  fact : (c : Call) → In c → Facts s c
  fact c k =
      subst (λ (t : Sizes). Facts t c) (question_sizes c.question ∙ sym (header_sizes_lem c.question) ∙ ap header_sizes k.under_header)
      (facts c (ans c k.listed) k.accepted)

  placed_at : (c : Call) → In c → Placed s salt (asked c) (given c)
  placed_at c k = subst (λ (t : Bytes). Placed s t (asked c) (given c)) k.under_salt (fact c k).placed

  -- two calls of the collection have the same record at a leaf that both open
  same : (c₁ c₂ : Call) → In c₁ → In c₂ → (i a₁ a₂ : ℕ) → Opens c₁ i a₁ → Opens c₂ i a₂ → record_at (given c₁) a₁ ≡ record_at (given c₂) a₂
  same c₁ c₂ k₁ k₂ i a₁ a₂ o₁ o₂ =
      same_record s salt (asked c₁) (asked c₂) (given c₁) (given c₂) (placed_at c₁ k₁) (placed_at c₂ k₂) (fact c₁ k₁).rising (fact c₂ k₂).rising
      (k₁.under_root ∙ sym k₂.under_root) k₁.under_salt k₂.under_salt (nc c₁ c₂ k₁ k₂) i a₁ a₂ o₁.place o₂.place o₁.leaf o₂.leaf

  module _ (L : List ℕ) (k : ℕ) (γs : List ℕ) (Rs : List (List ℕ)) (cov : Covered calls header root salt L k γs Rs) where
    abbrev n : ℕ
    n = suc (degree s)

    some_challenge : 0 < length γs
    some_challenge = omega (arith, cov.enough_challenges)

    abbrev opener : (i : ℕ) → Mem i L → (g : ℕ) → g < length γs
        → (c : Call) × (a : ℕ) × Collected calls header root salt c × Opens c i a × (challenge_of (asked c) k ≡ get_or γs g 0) × (batching_of (given c) k ≡ get_or Rs g [])
    opener = cov.opened_under

    sizes_in_order : SizesInOrder s
    sizes_in_order = let i = first_of (degree s) L cov.enough-leaves in let w = opener i.0 i.1 0 some_challenge in (fact w.0 w.2).in_order

    γs-below : Elements γs
    γs-below =
        let i = first_of (degree s) L cov.enough-leaves in
        all_from (λ (x : ℕ). x < q) 0 γs (λ g l. let w = opener i.0 i.1 g l in subst (λ (x : ℕ). x < q) w.4 ((fact w.0 w.2).challenge_below k cov.repetition))

    Rs_polys : Polys n Rs
    Rs_polys =
        let i = first_of (degree s) L cov.enough-leaves in
        all_from (Poly n) [] Rs (λ g l.
        let w = opener i.0 i.1 g (subst (λ (m : ℕ). g < m) cov.one_answer_each l) in
        subst (λ (m : ℕ). Poly m (get_or Rs g [])) (sym (degree-suc s sizes_in_order))
        (subst (λ (x : List ℕ). Poly (width s) x) w.5 ((fact w.0 w.2).batching_poly k cov.repetition)))

    leaf_small : (c : Call) → In c → (i a : ℕ) → Opens c i a → i < q
    leaf_small c m i a o = let l = (fact c m).leaf_below i a o in omega (arith, leaves-high s sizes_in_order)

    L_below : Elements L
    L_below = mem_all (λ (i : ℕ). i < q) L (λ i m. let w = opener i m 0 some_challenge in leaf_small w.0 w.2 i w.1 w.3)

    rs : List (List ℕ)
    rs = rows_n γs Rs (rows s)

    rs_takes : (c : Call) → In c → (i a : ℕ) → Opens c i a → Mem i L → values_at_n rs (leaf_point i) ≡ row_values s (record_at (given c) a)
    unfolding rs
    rs_takes c m i a o l =
        let x : Bytes = record_at (given c) a in
        let f : Poly (rows s) (row_values s x) = (fact c m).row_values_lem i a o in
        ap (λ (t : ℕ). values_at_n (rows_n γs Rs t) i) (sym f.0)
        ∙ rows_n-take γs Rs i (mask_value s x k) (row_values s x) γs-below cov.challenges_differ f.1 (cov.enough_challenges ∙ ap suc (sym f.0))
        (values_from (mask_value s x k ∷ row_values s x) i γs Rs cov.one_answer_each (λ g e.
        let w = opener i l g e in
        ap (λ (t : List ℕ). eval_n t i) (sym w.5)
        ∙ (fact w.0 w.2).batching_right k cov.repetition i w.1 w.3
        ∙ ap₂ (λ (y : Bytes) (γ : ℕ). eval_n (mask_value s y k ∷ row_values s y) γ) (same w.0 c w.2 m i w.1 a w.3 o) w.4))

    rs_polys : Polys n rs
    unfolding rs
    rs_polys = rows_n_polys γs Rs n (rows s) cov.one_answer_each some_challenge Rs_polys

    rs_count : length rs ≡ rows s
    unfolding rs
    rs_count = rows_n-length γs Rs (rows s)

    rs_only : (ps : List (List ℕ)) → TakesOpened calls header root salt L ps → ps ≡ rs
    rs_only ps t =
        rows_n-unique ps rs n L (t.count ∙ sym rs_count) t.polynomials rs_polys cov.enough-leaves L_below cov.leaves-differ
        (mem_all (λ (e : ℕ). values_at_n ps e ≡ values_at_n rs e) L (λ i m.
        let w = opener i m 0 some_challenge in
        t.takes w.0 w.2 i w.1 w.3 m ∙ sym (rs_takes w.0 w.2 i w.1 w.3 m)))

    module _ (z : ℕ) (A : List ℕ) (at : List ℕ) (differ : Distinct at) (enough : suc (degree s) ≤ length at)
        (acc : (i : ℕ) → Mem i at → Mem i L × AcceptedAt calls header root salt z A i) where
      A_poly : Poly n A
      A_poly =
          let i = first_of (degree s) at enough in
          let w = (acc i.0 i.1).1 in
          let p = w.at_point in
          subst (λ (m : ℕ). Poly m A) (sym (degree-suc s sizes_in_order))
          (subst (λ (x : List ℕ). Poly (width s) x) p.1.answer ((fact w.call w.collected).answer_poly p.0 p.1.place))

      A_true : A ≡ map (λ x. eval_n (values_at_n rs x) z) (points s)
      A_true =
          answer_n_true rs n (omega (arith, rs_count, sizes_in_order.μ_low)) rs_polys z (points s) A at
          (points_count s sizes_in_order ∙ sym (degree-suc s sizes_in_order)) A_poly.0 enough
          (mem_all (λ (i : ℕ). i < q) at (λ i m. let w = (acc i m).1 in leaf_small w.call w.collected i w.at_leaf.0 w.at_leaf.1))
          differ (points_are_below s sizes_in_order) (points-differ s sizes_in_order) A_poly.1
          (mem_all (λ (e : ℕ). eval_n (interp_n (points s) A) e ≡ eval_n (values_at_n rs e) z) at (λ i m.
          let w = (acc i m).1 in
          let o = w.at_leaf in
          let p = w.at_point in
          ap (λ (t : List ℕ). eval_n (interp_n (points s) t) i) (sym p.1.answer)
          ∙ (fact w.call w.collected).evaluation_right p.0 p.1.place i o.0 o.1
          ∙ ap₂ eval_n (sym (rs_takes w.call w.collected i o.0 o.1 (acc i m).0)) p.1.point))

      A_values : (c : Call) → In c → (p : ℕ) → Holds c z A p → (i : ℕ) → i < s.w → get_or (returned c) (p * s.w + i) 0 ≡ eval_n (held_polynomial s rs i) z
      unfolding held_polynomial
      A_values c m p h i l =
          (fact c m).returns p h.place i l
          ∙ ap₂ (λ (t : List ℕ) (y : ℕ). eval_n (piece s.ν i t) (pow_n y s.μ)) (h.answer ∙ A_true) h.point
          ∙ ap (λ (t : List ℕ). eval_n t (pow_n z s.μ))
          (piece-map (λ x. eval_n (values_at_n rs x) z) s.ν (s.ν * i) (points s) ∙ values_map rs z (piece s.ν i (points s)))
          ∙ stacked_value s.μ (map (values_at_n rs) (piece s.ν i (points s))) z

pub collected_replies : (calls : List Call) (header root salt : Bytes) → CollectedReplies calls header root salt
collected_replies calls header root salt ans nc L k γs Rs cov = record {
  extracted = rs calls header root salt ans nc L k γs Rs cov;
  takes_opened = record {
    count = rs_count calls header root salt ans nc L k γs Rs cov;
    polynomials = rs_polys calls header root salt ans nc L k γs Rs cov;
    takes = rs_takes calls header root salt ans nc L k γs Rs cov;
  };
  only_one = rs_only calls header root salt ans nc L k γs Rs cov;
  answers_true = λ z A at d e acc. record {
    answer_true = A_true calls header root salt ans nc L k γs Rs cov z A at d e acc;
    values_true = A_values calls header root salt ans nc L k γs Rs cov z A at d e acc;
  };
}

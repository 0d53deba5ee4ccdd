-- The drawn question: its challenges are elements, its leaves rise and lie below N; so it is well formed, and it is read back.
use mathlib.Core.Path.{◌≡◌, refl, sym, ap, ap₂, ◌∙◌, subst}
use mathlib.Core.Bool.{true, not, ◌&&◌}
use mathlib.Core.Logic.{◌≢◌, ⊎_elim}
use mathlib.Core.List.Memᴰ.{cases_cons as in-cons, head as here, not-nil, tail as there}
use mathlib.Core.List.{List, [], ◌∷◌, ◌++◌, map, flatten, append-nil, Memᴰ as Mem}
use Prim.Native.Nat.{ℕ, zero, suc, ◌-◌, ◌*◌, ◌%◌, ◌≤◌, ◌<◌}
use native.Mathlib.Nat.{not-suc-le-zero, le_of_suc-le-suc, mod-lt, lt_irrefl, zero-add}
use native.Mathlib.Omega.{arith}
use lib.Dec.{ltb}
use lib.ListN.{length, get_or, take, drop, length-map, length-append, length-drop}
use lib.Seq.{drop_at, drop-drop, take-take, take-append-le, length-take-le, get_or-take}
use borrow.Author.Tests.{eq-eqb, eqb-true, le-ltb, lt-ltb, ltb-false, not-false}
use Rattle.sponge.specs.Digest.{digest}
use Rattle.lists.specs.Choice.{and_true, both_true}
use Rattle.lists.specs.All.{All, Below, Distinct, all_each, all_imp, mem_all, mem_below}
use Rattle.lists.specs.Range.{up_from, length-up_from, up_from-rising, up_from_of}
use Rattle.lists.specs.Rising.{Rising, rising, true_rising}
use Rattle.lists.specs.Sorted.{sorted-length, sorted_of, sorted-rising}
use Rattle.lists.specs.Maps.{get_or_in}
use Rattle.lists.specs.Pieces.{pieces, length-pieces, pieces-take, drop-take}
use Rattle.lists.specs.Bytes.{Bytes, from_bytes, little_endian, halves, words, doubles, bytes_of, numbers-back, length-numbers, words-bytes_of, length-bytes_of}
use Rattle.lists.specs.Tests.{Test, all, same, passed, pass, true_all, all_join}
use Rattle.algebra.specs.Prime.{q}
use Rattle.algebra.specs.Numbers.{Elements}
use Rattle.tree.specs.Leaf.{salt_length}
use Rattle.scheme.specs.Sizes.{Sizes, SizesInOrder, leaves, sizes_ok, points_ok, elements}
use Rattle.scheme.specs.Question.{Question, question_at, read_question, question_tests, question_verdict, header_length, header_sizes, header_points, mark, salt_at, challenges_at, points_at, indices_at, question_length}
use Rattle.fiat_shamir.specs.Offline.{offline_length, header_root_salt, offline_root, offline_salt, offline_points, most_bits, offline_tests, offline_verdict}
use Rattle.fiat_shamir.specs.Draw.{drawn_challenges, ranks_at, removed, chosen, drawn_indices, drawn, drawn_bytes}
use Rattle.scheme.proofs.Accepted.{sizes_in_order, leaves-high}
use Rattle.scheme.proofs.Lent.{small, below_elements}
use Rattle.scheme.proofs.Replies.{header_sizes_lem}

-- ---- words of a draw

pub length-doubles : (n : ℕ) (x : Bytes) → length (doubles n x) ≡ n
length-doubles n x = length-map (pieces 8 n x) from_bytes ∙ length-pieces 8 n x

-- ---- leaves by rank: each choice takes one of the unused

removed_of : (i : ℕ) (xs : List ℕ) (y : ℕ) → Mem y (removed i xs) → Mem y xs
unfolding removed
removed_of zero [] y m = m
removed_of zero (x ∷ xs) y m = there m
removed_of (suc i) [] y m = m
removed_of (suc i) (x ∷ xs) y m = ⊎_elim (λ (e : y ≡ x). here e) (λ k. there (removed_of i xs y k)) (in-cons m)

removed-length : (i : ℕ) (xs : List ℕ) → i < length xs → suc (length (removed i xs)) ≡ length xs
unfolding removed
removed-length i [] l = absurd (not-suc-le-zero l)
removed-length zero (x ∷ xs) l = refl
removed-length (suc i) (x ∷ xs) l = ap suc (removed-length i xs (le_of_suc-le-suc l))

removed-rising : (i : ℕ) (xs : List ℕ) → Rising xs → Rising (removed i xs)
unfolding removed
removed-rising zero [] r = tt
removed-rising zero (x ∷ xs) r = r.1
removed-rising (suc i) [] r = tt
removed-rising (suc i) (x ∷ xs) r = (λ y m. r.0 y (removed_of i xs y m), removed-rising i xs r.1)

removed_lacks : (i : ℕ) (xs : List ℕ) → Rising xs → i < length xs → Mem (get_or xs i 0) (removed i xs) → ⊥
unfolding removed
removed_lacks i [] r l m = absurd (not-suc-le-zero l)
removed_lacks zero (x ∷ xs) r l m = lt_irrefl x (r.0 x m)
removed_lacks (suc i) (x ∷ xs) r l m = ⊎_elim
    (λ (e : get_or xs i 0 ≡ x). lt_irrefl x (subst (λ (k : ℕ). x < k) e (r.0 (get_or xs i 0) (get_or_in xs i (le_of_suc-le-suc l)))))
    (λ k. removed_lacks i xs r.1 (le_of_suc-le-suc l) k)
    (in-cons m)

-- one word: its rank is one of the unused, and the rest is enough for the words that follow
module _ (n : ℕ) (unused : List ℕ) (x : ℕ) (xs : List ℕ) (count : length unused ≡ n) (few : length (x ∷ xs) ≤ n) where
  pub rank_below : x % n < length unused
  rank_below = subst (λ (k : ℕ). x % n < k) (sym count) (mod-lt x (omega arith))

  pub rest_count : length (removed (x % n) unused) ≡ n - 1
  rest_count = omega (arith, removed-length (x % n) unused rank_below)

  pub rest-enough : length xs ≤ n - 1
  rest-enough = omega arith

chosen-length : (n : ℕ) (unused ws : List ℕ) → length (chosen n unused ws) ≡ length ws
unfolding chosen
chosen-length n unused [] = refl
chosen-length n unused (x ∷ xs) = ap suc (chosen-length (n - 1) _ xs)

chosen_of : (n : ℕ) (unused ws : List ℕ) → length unused ≡ n → length ws ≤ n → (y : ℕ) → Mem y (chosen n unused ws) → Mem y unused
unfolding chosen
chosen_of n unused [] c f y m = absurd (not-nil m)
chosen_of n unused (x ∷ xs) c f y m = ⊎_elim
    (λ (e : y ≡ get_or unused (x % n) 0). subst (λ (k : ℕ). Mem k unused) (sym e) (get_or_in unused (x % n) (rank_below n unused x xs c f)))
    (λ k. removed_of (x % n) unused y (chosen_of (n - 1) (removed (x % n) unused) xs (rest_count n unused x xs c f) (rest-enough n unused x xs c f) y k))
    (in-cons m)

pub chosen_distinct : (n : ℕ) (unused ws : List ℕ) → Rising unused → length unused ≡ n → length ws ≤ n → Distinct (chosen n unused ws)
unfolding chosen
chosen_distinct n unused [] r c f = tt
chosen_distinct n unused (x ∷ xs) r c f =
    let rest : List ℕ = removed (x % n) unused in (
      mem_all (λ (y : ℕ). y ≢ get_or unused (x % n) 0) (chosen (n - 1) rest xs) (λ y m e.
          removed_lacks (x % n) unused r (rank_below n unused x xs c f)
          (subst (λ (k : ℕ). Mem k rest) e (chosen_of (n - 1) rest xs (rest_count n unused x xs c f) (rest-enough n unused x xs c f) y m))),
      chosen_distinct (n - 1) rest xs (removed-rising (x % n) unused r) (rest_count n unused x xs c f) (rest-enough n unused x xs c f),
    )

-- what is known of ℓ drawn leaves
pub record Leaves (s : Sizes) (is : List ℕ) : Type 0 where
  pub count : length is ≡ s.ℓ
  pub rise : Rising is
  pub inside : Below (leaves s) is

pub drawn-leaves : (s : Sizes) → SizesInOrder s → (x : Bytes) → Leaves s (drawn_indices s x)
unfolding drawn_indices
drawn-leaves s g x =
    let ws : List ℕ = doubles s.ℓ (drop ranks_at x) in
    let run : List ℕ = up_from 0 (leaves s) in
    let long : length ws ≡ s.ℓ = length-doubles s.ℓ (drop ranks_at x) in
    let few : length ws ≤ leaves s = omega (arith, long, g.fits) in
    let all_of : length run ≡ leaves s = length-up_from 0 (leaves s) in
    record {
      count = sorted-length (chosen (leaves s) run ws) ∙ chosen-length (leaves s) run ws ∙ long;
      rise = sorted-rising (chosen (leaves s) run ws) (chosen_distinct (leaves s) run ws (up_from-rising 0 (leaves s)) all_of few);
      inside = mem_below (leaves s) _ (λ y m.
          subst (λ (k : ℕ). y < k) (zero-add (leaves s)) (up_from_of 0 (leaves s) y (chosen_of (leaves s) run ws all_of few y (sorted_of (chosen (leaves s) run ws) y m))).1);
    }

-- ---- a question without a conversation

pub record AskedOffline (b : Bytes) (κ : ℕ) : Type 0 where
  pub marked : same (take 5 b) mark ≡ true
  pub sizes_right : sizes_ok (header_sizes b) ≡ true
  pub m_right : points_ok (header_points b) ≡ true
  pub κ-high : κ ≤ most_bits
  pub long : length b ≡ offline_length (header_points b)
  pub points_right : elements (offline_points b) ≡ true

pub offline_numbers : (b : Bytes) (κ : ℕ) → All (λ (t : Test). 0 < t.0) (offline_tests b κ)
unfolding offline_tests
offline_numbers b κ = omega arith

pub asked_offline_lem : (b : Bytes) (κ : ℕ) → offline_verdict b κ ≡ 0 → AskedOffline b κ
unfolding offline_tests
asked_offline_lem b κ e =
    let t = passed (offline_tests b κ) (offline_numbers b κ) e in
    let ok = and_true _ _ (not-false _ t.1.1.0) in
    record {
      marked = not-false _ t.1.0;
      sizes_right = ok.0;
      m_right = ok.1;
      κ-high = ltb-false most_bits κ t.1.1.1.0;
      long = eqb-true _ _ (not-false _ t.1.1.1.1.0);
      points_right = not-false _ t.1.1.1.1.1.0;
    }

-- ---- γ

pub challenges_below : (p : Bytes) → Elements (drawn_challenges p)
unfolding drawn_challenges
challenges_below p = all_each (λ (x : ℕ). x < q) (λ x. x % q) (doubles (header_sizes p).η (digest (2 ∷ p))) (λ x. mod-lt x (omega arith))

pub challenges_count : (p : Bytes) → length (drawn_challenges p) ≡ (header_sizes p).η
unfolding drawn_challenges
challenges_count p =
    let ws : List ℕ = doubles (header_sizes p).η (digest (2 ∷ p)) in
    length-map ws (λ x. x % q) ∙ length-doubles (header_sizes p).η (digest (2 ∷ p))

-- ---- the bytes

module _ (b : Bytes) (κ : ℕ) (a : AskedOffline b κ) (is : List ℕ) where
  abbrev s : Sizes
  s = header_sizes b

  abbrev m : ℕ
  m = header_points b

  in_order : SizesInOrder s
  in_order = sizes_in_order s a.sizes_right

  abbrev γ : List ℕ
  γ = drawn_challenges (header_root_salt b)

  abbrev challenge_bytes : Bytes
  challenge_bytes = bytes_of γ

  abbrev point_bytes : Bytes
  point_bytes = drop challenges_at b

  abbrev index_bytes : Bytes
  index_bytes = flatten (map (little_endian 2) is)

  abbrev question : Bytes
  question = drawn_bytes b is

  question_is : question ≡ header_root_salt b ++ (challenge_bytes ++ (point_bytes ++ index_bytes))
  unfolding drawn_bytes
  question_is = refl

  named_long : length (header_root_salt b) ≡ challenges_at
  named_long = length-take-le challenges_at b (omega (arith, a.long))

  points_long : length point_bytes ≡ 4 * m
  points_long = length-drop challenges_at b ∙ omega (arith, a.long)

  front : (n : ℕ) → n ≤ challenges_at → take n question ≡ take n b
  front n l = ap (take n) question_is ∙ take-append-le n (header_root_salt b) _ (omega (arith, named_long)) ∙ take-take n challenges_at b l

  sizes_front : header_sizes (header_root_salt b) ≡ s
  sizes_front = sym (header_sizes_lem (header_root_salt b)) ∙ ap header_sizes (take-take header_length challenges_at b (omega arith)) ∙ header_sizes_lem b

  γ-count : length γ ≡ s.η
  γ-count = challenges_count (header_root_salt b) ∙ ap (λ (t : Sizes). t.η) sizes_front

  challenges_long : length challenge_bytes ≡ 4 * s.η
  challenges_long = length-bytes_of γ ∙ ap (λ (n : ℕ). 4 * n) γ-count

  -- ---- what stands in them
  sizes_back : header_sizes question ≡ s
  sizes_back = sym (header_sizes_lem question) ∙ ap header_sizes (front header_length (omega arith)) ∙ header_sizes_lem b

  m_back : header_points question ≡ m
  m_back = sym (get_or-take header_length question 13 0 (omega arith)) ∙ ap (λ (x : Bytes). get_or x 13 0) (front header_length (omega arith)) ∙ get_or-take header_length b 13 0 (omega arith)

  root_back : take 32 (drop header_length question) ≡ offline_root b
  root_back = sym (drop-take header_length 32 question) ∙ ap (drop header_length) (front salt_at (omega arith)) ∙ drop-take header_length 32 b

  salt_back : take salt_length (drop salt_at question) ≡ offline_salt b
  salt_back = sym (drop-take salt_at salt_length question) ∙ ap (drop salt_at) (front challenges_at (omega arith)) ∙ drop-take salt_at salt_length b

  after_salt : drop challenges_at question ≡ challenge_bytes ++ (point_bytes ++ index_bytes)
  after_salt = ap (drop challenges_at) question_is ∙ drop_at (header_root_salt b) (challenge_bytes ++ (point_bytes ++ index_bytes)) challenges_at named_long

  after_challenges : drop (points_at s) question ≡ point_bytes ++ index_bytes
  after_challenges = sym (drop-drop (4 * s.η) challenges_at question) ∙ ap (drop (4 * s.η)) after_salt ∙ drop_at challenge_bytes (point_bytes ++ index_bytes) (4 * s.η) challenges_long

  after_points : drop (indices_at s m) question ≡ index_bytes
  after_points = sym (drop-drop (4 * m) (points_at s) question) ∙ ap (drop (4 * m)) after_challenges ∙ drop_at point_bytes index_bytes (4 * m) points_long

  pub challenges_back : words s.η (drop challenges_at question) ≡ γ
  challenges_back = ap (words s.η) after_salt ∙ ap (λ (n : ℕ). words n (challenge_bytes ++ (point_bytes ++ index_bytes))) (sym γ-count) ∙ words-bytes_of γ (point_bytes ++ index_bytes) (small γ (challenges_below (header_root_salt b)))

  pub points-back : words m (drop (points_at s) question) ≡ offline_points b
  points-back = ap (words m) after_challenges ∙ ap (map from_bytes) (pieces-take 4 m point_bytes index_bytes points_long)

  -- under the same header
  pub drawn_header : take header_length question ≡ take header_length b
  drawn_header = front header_length (omega arith)

  -- ---- with leaves for indices

  module _ (ls : Leaves s is) where
    indices_back : halves s.ℓ (drop (indices_at s m) question) ≡ is
    indices_back =
        ap (halves s.ℓ) (after_points ∙ sym (append-nil index_bytes))
        ∙ ap (λ (n : ℕ). halves n (index_bytes ++ [])) (sym ls.count)
        ∙ numbers-back 2 is [] (all_imp (λ (i : ℕ) (l : i < leaves s). omega (arith, l, leaves-high s in_order)) is ls.inside)

    -- it is read back
    pub drawn-back : read_question question ≡ drawn b is
    unfolding read_question
    drawn-back =
        ap₂ (λ (t : Sizes) (n : ℕ). question_at t n question) sizes_back m_back
        ∙ (λ i. record { sizes = s; m = m; root = root_back i; salt = salt_back i; challenges = challenges_back i; evaluation_points = points-back i; indices = indices_back i })

    -- of a question's length
    drawn-length : length question ≡ question_length s m
    drawn-length =
        ap length question_is
        ∙ omega (
          arith,
          length-append (header_root_salt b) (challenge_bytes ++ (point_bytes ++ index_bytes)),
          length-append challenge_bytes (point_bytes ++ index_bytes),
          length-append point_bytes index_bytes,
          named_long,
          challenges_long,
          points_long,
          length-numbers 2 is,
          ls.count,
        )

    -- and well formed
    pub drawn_right : question_verdict question ≡ 0
    unfolding question_tests
    drawn_right =
        let back = drawn-back in
        pass _ (
          le-ltb (length question) header_length (omega (arith, drawn-length)),
          (
            ap not (ap (λ (x : Bytes). same x mark) (front 5 (omega arith)) ∙ a.marked),
            (
              ap not (ap₂ (λ (t : Sizes) (n : ℕ). sizes_ok t && points_ok n) sizes_back m_back ∙ both_true (sizes_ok s) (points_ok m) a.sizes_right a.m_right),
              (
                ap not (eq-eqb _ _ (drawn-length ∙ ap₂ question_length (sym sizes_back) (sym m_back))),
                (
                  ap not (ap (λ (u : Question). elements (u.challenges ++ u.evaluation_points)) back ∙ all_join (λ x. ltb x q) γ (offline_points b)
                      ∙ both_true (elements γ) (elements (offline_points b)) (below_elements γ (challenges_below (header_root_salt b))) a.points_right),
                  (
                    ap not (ap₂ (λ (u : Question) (t : Sizes). rising u.indices && all (λ i. ltb i (leaves t)) u.indices) back sizes_back
                        ∙ both_true (rising is) (all (λ i. ltb i (leaves s)) is) (true_rising is ls.rise)
                        (true_all (λ i. ltb i (leaves s)) is (all_imp (λ (i : ℕ) (l : i < leaves s). lt-ltb i (leaves s) l) is ls.inside))),
                    tt,
                  ),
                ),
              ),
            ),
          ),
        )

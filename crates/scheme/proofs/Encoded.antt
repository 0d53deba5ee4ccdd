-- A question written as bytes is read back, and is well formed where its parts are.
use mathlib.Core.Path.{◌≡◌, refl, sym, ap, ap₂, ◌∙◌}
use mathlib.Core.Bool.{true, not, ◌&&◌}
use mathlib.Core.List.{List, [], ◌++◌, map, flatten, append-nil}
use Prim.Native.Nat.{ℕ, ◌*◌, ◌≤◌, ◌<◌}
use native.Mathlib.Omega.{arith}
use lib.Dec.{ltb}
use lib.ListN.{length, take, drop, length-append}
use lib.Seq.{take_at, drop_at, drop-drop}
use borrow.Author.Tests.{eq-eqb, le-ltb, ltb-true}
use Rattle.lists.specs.Choice.{both_true}
use Rattle.lists.specs.All.{Below, all_append, all_imp}
use Rattle.lists.specs.Rising.{rising}
use Rattle.lists.specs.Bytes.{Bytes, from_bytes, little_endian, halves, words, bytes_of, Small, number-little_endian, numbers-back, length-numbers, words-bytes_of, length-bytes_of}
use Rattle.lists.specs.Tests.{all, same, same_refl, pass, all_true, true_all}
use Rattle.tree.specs.Leaf.{salt_length}
use Rattle.scheme.specs.Sizes.{Sizes, SizesInOrder, leaves, sizes_ok, points_ok, elements}
use Rattle.scheme.specs.Question.{Question, read_question, question_tests, question_verdict, header_length, header_sizes, header_points, mark, salt_at, challenges_at, points_at, indices_at, question_length}
use Rattle.scheme.specs.HonestCalls.{header_bytes, question_bytes}
use Rattle.algebra.specs.Prime.{q}
use Rattle.scheme.proofs.Accepted.{sizes_in_order, leaves-high, elements_below}
use native.Mathlib.Nat.{mul-le-mul_left, mul-le-mul_right}

-- ---- the header

pub header_length_lem : (s : Sizes) (m : ℕ) → length (header_bytes s m) ≡ header_length
unfolding header_bytes little_endian
header_length_lem s m = refl

header_mark : (s : Sizes) (m : ℕ) (rest : Bytes) → take 5 (header_bytes s m ++ rest) ≡ mark
unfolding header_bytes little_endian
header_mark s m rest = refl

header_points_lem : (s : Sizes) (m : ℕ) (rest : Bytes) → header_points (header_bytes s m ++ rest) ≡ m
unfolding header_bytes little_endian
header_points_lem s m rest = refl

two_back : (n : ℕ) → n < 65536 → from_bytes (little_endian 2 n) ≡ n
two_back n l = number-little_endian 2 n l

pub header_sizes_back : (s : Sizes) (m : ℕ) (rest : Bytes) → s.ν < 65536 → s.w < 65536 → header_sizes (header_bytes s m ++ rest) ≡ s
unfolding header_bytes little_endian
header_sizes_back s m rest lν lw = λ i. record { h = s.h; μ = s.μ; ν = two_back s.ν lν i; w = two_back s.w lw i; ℓ = s.ℓ; η = s.η; β = s.β }

-- ---- the whole question

elements-append : (xs ys : List ℕ) → elements xs ≡ true → elements ys ≡ true → elements (xs ++ ys) ≡ true
elements-append xs ys e f = true_all (λ x. ltb x q) (xs ++ ys) (all_append (λ (x : ℕ). ltb x q ≡ true) xs ys (all_true (λ x. ltb x q) xs e) (all_true (λ x. ltb x q) ys f))

-- parts of a question that fit its sizes
pub record Fit (s : Sizes) (m : ℕ) (root salt : Bytes) (challenges points indices : List ℕ) : Type 0 where
  pub sizes_right : sizes_ok s ≡ true
  pub m_right : points_ok m ≡ true
  pub root_length : length root ≡ 32
  pub salt_length_lem : length salt ≡ salt_length
  pub challenges_count : length challenges ≡ s.η
  pub points_count : length points ≡ m
  pub indices_count : length indices ≡ s.ℓ
  pub challenges_right : elements challenges ≡ true
  pub points_right : elements points ≡ true
  pub indices_rise : rising indices ≡ true
  pub indices_right : all (λ i. ltb i (leaves s)) indices ≡ true

module _ (s : Sizes) (m : ℕ) (root salt : Bytes) (γs zs is : List ℕ) (f : Fit s m root salt γs zs is) where
  good_sizes : SizesInOrder s
  good_sizes = sizes_in_order s f.sizes_right

  small_elements : (xs : List ℕ) → elements xs ≡ true → Small xs
  small_elements xs e = all_imp (λ (x : ℕ) (l : x < q). omega (arith, l)) xs (elements_below xs e)

  ν-small : s.ν < 65536
  ν-small = omega (arith, good_sizes.columns-high, mul-le-mul_right s.ν good_sizes.w_low)

  w_small : s.w < 65536
  w_small = omega (arith, good_sizes.columns-high, mul-le-mul_left s.w good_sizes.ν-low)

  indices_small : Below 65536 is
  indices_small = all_imp (λ (i : ℕ) (t : ltb i (leaves s) ≡ true). omega (arith, ltb-true i (leaves s) t, leaves-high s good_sizes)) is (all_true (λ i. ltb i (leaves s)) is f.indices_right)

  abbrev tail₃ : Bytes
  tail₃ = flatten (map (little_endian 2) is)

  abbrev tail₂ : Bytes
  tail₂ = bytes_of zs ++ tail₃

  abbrev tail₁ : Bytes
  tail₁ = bytes_of γs ++ tail₂

  abbrev tail₀ : Bytes
  tail₀ = salt ++ tail₁

  abbrev pub question : Bytes
  question = question_bytes s m root salt γs zs is

  is_question : question ≡ header_bytes s m ++ (root ++ tail₀)
  unfolding question_bytes
  is_question = refl

  after_header : drop header_length question ≡ root ++ tail₀
  after_header = ap (drop header_length) is_question ∙ drop_at (header_bytes s m) (root ++ tail₀) header_length (header_length_lem s m)

  after_root : drop salt_at question ≡ tail₀
  after_root = sym (drop-drop 32 header_length question) ∙ ap (drop 32) after_header ∙ drop_at root tail₀ 32 f.root_length

  after_salt : drop challenges_at question ≡ tail₁
  after_salt = sym (drop-drop salt_length salt_at question) ∙ ap (drop salt_length) after_root ∙ drop_at salt tail₁ salt_length f.salt_length_lem

  after_challenges : drop (points_at s) question ≡ tail₂
  after_challenges =
      sym (drop-drop (4 * s.η) challenges_at question) ∙ ap (drop (4 * s.η)) after_salt
      ∙ drop_at (bytes_of γs) tail₂ (4 * s.η) (length-bytes_of γs ∙ ap (λ (n : ℕ). 4 * n) f.challenges_count)

  after_points : drop (indices_at s m) question ≡ tail₃
  after_points =
      sym (drop-drop (4 * m) (points_at s) question) ∙ ap (drop (4 * m)) after_challenges
      ∙ drop_at (bytes_of zs) tail₃ (4 * m) (length-bytes_of zs ∙ ap (λ (n : ℕ). 4 * n) f.points_count)

  sizes_back : header_sizes question ≡ s
  sizes_back = ap header_sizes is_question ∙ header_sizes_back s m (root ++ tail₀) ν-small w_small

  m_back : header_points question ≡ m
  m_back = ap header_points is_question ∙ header_points_lem s m (root ++ tail₀)

  root_back : take 32 (drop header_length question) ≡ root
  root_back = ap (take 32) after_header ∙ take_at root tail₀ 32 f.root_length

  salt_back : take salt_length (drop salt_at question) ≡ salt
  salt_back = ap (take salt_length) after_root ∙ take_at salt tail₁ salt_length f.salt_length_lem

  challenges_back : words s.η (drop challenges_at question) ≡ γs
  challenges_back =
      ap (words s.η) after_salt ∙ ap (λ (n : ℕ). words n tail₁) (sym f.challenges_count) ∙ words-bytes_of γs tail₂ (small_elements γs f.challenges_right)

  points-back : words m (drop (points_at s) question) ≡ zs
  points-back =
      ap (words m) after_challenges ∙ ap (λ (n : ℕ). words n tail₂) (sym f.points_count) ∙ words-bytes_of zs tail₃ (small_elements zs f.points_right)

  indices_back : halves s.ℓ (drop (indices_at s m) question) ≡ is
  indices_back =
      ap (halves s.ℓ) (after_points ∙ sym (append-nil tail₃)) ∙ ap (λ (n : ℕ). halves n (tail₃ ++ [])) (sym f.indices_count) ∙ numbers-back 2 is [] indices_small

  -- a question is read back
  pub question_back : read_question question ≡ record { sizes = s; m = m; root = root; salt = salt; challenges = γs; evaluation_points = zs; indices = is }
  unfolding read_question
  question_back =
      (λ i. record {
        sizes = sizes_back i;
        m = m_back i;
        root = root_back i;
        salt = salt_back i;
        challenges = words (sizes_back i).η (drop challenges_at question);
        evaluation_points = words (m_back i) (drop (points_at (sizes_back i)) question);
        indices = halves (sizes_back i).ℓ (drop (indices_at (sizes_back i) (m_back i)) question);
      })
      ∙ (λ i. record { sizes = s; m = m; root = root; salt = salt; challenges = challenges_back i; evaluation_points = points-back i; indices = indices_back i })

  question_length_lem : length question ≡ question_length s m
  question_length_lem =
      ap length is_question
      ∙ omega (
        arith,
        length-append (header_bytes s m) (root ++ tail₀),
        length-append root tail₀,
        length-append salt tail₁,
        length-append (bytes_of γs) tail₂,
        length-append (bytes_of zs) tail₃,
        header_length_lem s m,
        f.root_length,
        f.salt_length_lem,
        length-bytes_of γs,
        length-bytes_of zs,
        length-numbers 2 is,
        f.challenges_count,
        f.points_count,
        f.indices_count,
      )

  -- and well formed
  pub question_right : question_verdict question ≡ 0
  unfolding question_tests
  question_right =
      let long : header_length ≤ length question = omega (arith, question_length_lem) in
      let back = question_back in
      pass _ (
        le-ltb (length question) header_length long,
        (
          ap not (ap (λ (x : Bytes). same x mark) (ap (take 5) is_question ∙ header_mark s m (root ++ tail₀)) ∙ same_refl mark),
          (
            ap not (ap₂ (λ (t : Sizes) (n : ℕ). sizes_ok t && points_ok n) sizes_back m_back ∙ both_true (sizes_ok s) (points_ok m) f.sizes_right f.m_right),
            (
              ap not (eq-eqb _ _ (question_length_lem ∙ ap₂ question_length (sym sizes_back) (sym m_back))),
              (
                ap not (ap (λ (u : Question). elements (u.challenges ++ u.evaluation_points)) back ∙ elements-append γs zs f.challenges_right f.points_right),
                (
                  ap not (ap₂ (λ (u : Question) (t : Sizes). rising u.indices && all (λ i. ltb i (leaves t)) u.indices) back sizes_back
                      ∙ both_true (rising is) (all (λ i. ltb i (leaves s)) is) f.indices_rise f.indices_right),
                  tt,
                ),
              ),
            ),
          ),
        ),
      )

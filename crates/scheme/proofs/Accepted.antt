-- What verdict 0 says of a question, and of a question and a reply.
use mathlib.Core.Path.{◌≡◌}
use mathlib.Core.Bool.{true, false}
use mathlib.Core.List.{List, ◌∷◌, ◌++◌}
use Prim.Native.Nat.{ℕ, suc, ◌≤◌, ◌<◌}
use native.Mathlib.Nat.{pow-le-pow_right}
use native.Mathlib.Omega.{arith}
use lib.Dec.{ltb}
use lib.ListN.{length, drop, length-drop}
use lib.Seq.{length-take-le}
use borrow.Author.Tests.{ltb-true, leb-true, eqb-true, not-false}
use Rattle.lists.specs.Rising.{Rising, rising_true}
use Rattle.lists.specs.Bytes.{Bytes}
use Rattle.lists.specs.All.{Below, All, Distinct, all_imp, all_append, all_left, all_right}
use Rattle.algebra.specs.Prime.{q}
use Rattle.algebra.specs.Numbers.{eval_n, interp_n, Elements}
use Rattle.lists.specs.Range.{up_from_below, up_from_distinct, length-up_from}
use Rattle.lists.specs.Tests.{Test, all, passed, every_true, all_true, each_true, same_true, within_low, within_high}
use Rattle.tree.specs.Leaf.{salt_length}
use Rattle.scheme.specs.Sizes.{Sizes, SizesInOrder, leaves, columns, rows, width, degree, points, leaf_point, sizes_ok, elements}
use Rattle.scheme.specs.Question.{Question, read_question, question_tests, question_verdict, header_sizes, header_points, question_length, salt_at}
use Rattle.scheme.specs.Reply.{Reply, read_reply, reply_length, record_words, row_values, mask_value}
use Rattle.scheme.specs.Check.{buffer_test, leaf_at, record_at, challenge_of, batching_of, point_of, answer_of, reply_elements, reply_root, batching_at, evaluation_at, reply_tests, check_verdict}
use Rattle.lists.specs.Choice.{and_true}

-- ---- sizes

pub sizes_in_order : (s : Sizes) → sizes_ok s ≡ true → SizesInOrder s
unfolding sizes_ok
sizes_in_order s e =
    let t = every_true _ e in
    record {
      h_low = within_low 1 12 s.h t.0;
      h_high = within_high 1 12 s.h t.0;
      μ_low = within_low 1 64 s.μ t.1.0;
      μ_high = within_high 1 64 s.μ t.1.0;
      ν-low = within_low 1 256 s.ν t.1.1.0;
      w_low = within_low 1 256 s.w t.1.1.1.0;
      columns-high = leb-true (columns s) 256 t.1.1.1.1.0;
      ℓ-low = within_low 1 64 s.ℓ t.1.1.1.1.1.0;
      ℓ-high = within_high 1 64 s.ℓ t.1.1.1.1.1.0;
      η-low = within_low 1 4 s.η t.1.1.1.1.1.1.0;
      η-high = within_high 1 4 s.η t.1.1.1.1.1.1.0;
      fits = leb-true (width s) (leaves s) t.1.1.1.1.1.1.1.0;
      β-high = within_high 0 16 s.β t.1.1.1.1.1.1.1.1.0;
      β-fits = leb-true s.β s.μ t.1.1.1.1.1.1.1.1.1.0;
      rows-high = leb-true (rows s) 64 t.1.1.1.1.1.1.1.1.1.1.0;
    }

module _ (s : Sizes) (g : SizesInOrder s) where
  pub leaves-high : leaves s ≤ 4096
  leaves-high = pow-le-pow_right (omega arith) g.h_high

  pub degree-suc : suc (degree s) ≡ width s
  degree-suc = omega (arith, g.ℓ-low)

  pub points_are_below : Elements (points s)
  points_are_below = up_from_below (leaves s) (width s) q (omega (arith, leaves-high, g.columns-high, g.ℓ-high))

  pub points-differ : Distinct (points s)
  points-differ = up_from_distinct (leaves s) (width s)

  pub points_count : length (points s) ≡ width s
  points_count = length-up_from (leaves s) (width s)

-- ---- elements

pub elements_below : (xs : List ℕ) → elements xs ≡ true → Elements xs
elements_below xs e = all_imp (λ (x : ℕ) (t : ltb x q ≡ true). ltb-true x q t) xs (all_true _ xs e)

indices_under : (n : ℕ) (s : List ℕ) → all (λ i. ltb i n) s ≡ true → Below n s
indices_under n s e = all_imp (λ (i : ℕ) (t : ltb i n ≡ true). ltb-true i n t) s (all_true (λ i. ltb i n) s e)

-- ---- a question

pub record Asked (u : Question) : Type 0 where
  pub in_order : SizesInOrder u.sizes
  pub m_low : 1 ≤ u.m
  pub m_high : u.m ≤ 8
  pub salted : length u.salt ≡ salt_length
  pub challenges_below : Elements u.challenges
  pub points_below : Elements u.evaluation_points
  pub indices_rising : Rising u.indices
  pub indices_below : Below (leaves u.sizes) u.indices

asked-passed : (b : Bytes) → All (λ (t : Test). t.1 ≡ false) (question_tests b) → Asked (read_question b)
unfolding question_tests read_question
asked-passed b t =
    let u : Question = read_question b in
    let whole : length b ≡ question_length (header_sizes b) (header_points b) = eqb-true _ _ (not-false _ t.1.1.1.0) in
    let room : salt_length ≤ length (drop salt_at b) = omega (arith, length-drop salt_at b, whole) in
    let ok = and_true _ _ (not-false _ t.1.1.0) in
    let el = elements_below _ (not-false _ t.1.1.1.1.0) in
    let ix = and_true _ _ (not-false _ t.1.1.1.1.1.0) in
    record {
      in_order = sizes_in_order _ ok.0;
      m_low = within_low 1 8 _ ok.1;
      m_high = within_high 1 8 _ ok.1;
      salted = length-take-le salt_length (drop salt_at b) room;
      challenges_below = all_left (λ (x : ℕ). x < q) u.challenges u.evaluation_points el;
      points_below = all_right (λ (x : ℕ). x < q) u.challenges u.evaluation_points el;
      indices_rising = rising_true _ ix.0;
      indices_below = indices_under (leaves u.sizes) u.indices ix.1;
    }

pub question_numbers : (b : Bytes) → All (λ (t : Test). 0 < t.0) (question_tests b)
unfolding question_tests
question_numbers b = omega arith

pub well_formed : (b : Bytes) → question_verdict b ≡ 0 → Asked (read_question b)
well_formed b e = asked-passed b (passed (question_tests b) (question_numbers b) e)

-- ---- a question and a reply

pub record Accepted (u : Question) (reply : Bytes) (r : Reply) : Type 0 where
  pub asks : Asked u
  pub reply_length_lem : length reply ≡ reply_length u
  pub batching_below : All Elements r.batching
  pub answers_below : All Elements r.answers
  pub records_below : All (λ (x : Bytes). Elements (record_words u.sizes x)) r.records
  pub root_right : reply_root u r ≡ u.root
  pub batching_right : (k : ℕ) → k < u.sizes.η → (a : ℕ) → a < u.sizes.ℓ
      → eval_n (batching_of r k) (leaf_point (leaf_at u a)) ≡ eval_n (mask_value u.sizes (record_at r a) k ∷ row_values u.sizes (record_at r a)) (challenge_of u k)
  pub evaluation_right : (p : ℕ) → p < u.m → (a : ℕ) → a < u.sizes.ℓ
      → eval_n (interp_n (points u.sizes) (answer_of r p)) (leaf_point (leaf_at u a)) ≡ eval_n (row_values u.sizes (record_at r a)) (point_of u p)

all_elements : (xs : List (List ℕ)) → all elements xs ≡ true → All Elements xs
all_elements xs e = all_imp (λ (x : List ℕ) (t : elements x ≡ true). elements_below x t) xs (all_true elements xs e)

reply_passed : (u : Question) (reply : Bytes) → Asked u → All (λ (t : Test). t.1 ≡ false) (reply_tests u reply) → Accepted u reply (read_reply u reply)
unfolding reply_tests reply_elements batching_at evaluation_at
reply_passed u reply a t =
    let r : Reply = read_reply u reply in
    let el = every_true _ (not-false _ t.1.0) in
    record {
      asks = a;
      reply_length_lem = eqb-true _ _ (not-false _ t.0);
      batching_below = all_elements r.batching el.0;
      answers_below = all_elements r.answers el.1.0;
      records_below =
          all_imp (λ (x : Bytes) (e : elements (record_words u.sizes x) ≡ true). elements_below (record_words u.sizes x) e) r.records
          (all_true (λ x. elements (record_words u.sizes x)) r.records el.1.1.0);
      root_right = same_true _ _ (not-false _ t.1.1.0);
      batching_right = λ k l a m. eqb-true _ _ (each_true _ _ (each_true _ _ (not-false _ t.1.1.1.0) k l) a m);
      evaluation_right = λ p l a m. eqb-true _ _ (each_true _ _ (each_true _ _ (not-false _ t.1.1.1.1.0) p l) a m);
    }

reply_numbers : (u : Question) (reply : Bytes) → All (λ (t : Test). 0 < t.0) (reply_tests u reply)
unfolding reply_tests
reply_numbers u reply = omega arith

pub accepted : (unit : ℕ) (question reply : Bytes) (n : ℕ) → check_verdict unit question reply n ≡ 0
    → Accepted (read_question question) reply (read_reply (read_question question) reply)
unfolding check_verdict
accepted unit question reply n e =
    let u : Question = read_question question in
    let b : Test = buffer_test unit u n in
    let t = passed (question_tests question ++ (b ∷ reply_tests u reply))
    (all_append (λ (t : Test). 0 < t.0) (question_tests question) (b ∷ reply_tests u reply) (question_numbers question) (omega arith, reply_numbers u reply)) e in
    reply_passed u reply
    (asked-passed question (all_left (λ (t : Test). t.1 ≡ false) (question_tests question) (b ∷ reply_tests u reply) t))
    (all_right (λ (t : Test). t.1 ≡ false) (question_tests question) (b ∷ reply_tests u reply) t).1

-- The reply's tests are those on its words.
use mathlib.Core.Path.{◌≡◌, sym, ap, ap₂, ◌∙◌}
use mathlib.Core.Bool.{Bool}
use mathlib.Core.List.{List, [], ◌∷◌}
use Prim.Native.Nat.{ℕ, ◌*◌, ◌<◌}
use lib.Dec.{eqb, ltb}
use lib.Seq.{drop-drop}
use Rattle.algebra.specs.Prime.{q}
use lib.ListN.{length, get_or, take, drop, length-map}
use Rattle.lists.specs.Bytes.{Bytes, words}
use Rattle.lists.specs.Pieces.{pieces, length-pieces}
use Rattle.lists.specs.Tests.{all, every, each, each_ext, each_swap, all_is_each}
use Rattle.algebra.specs.Numbers.{eval_n, interp_n}
use Rattle.scheme.specs.Sizes.{Sizes, elements, leaves, width, record_values, points, leaf_point, rows}
use Rattle.scheme.specs.Question.{Question}
use Rattle.scheme.specs.Reply.{Reply, read_reply, answers_at, records_at, record_length, record_words}
use Rattle.scheme.specs.Check.{leaf_at, record_at, point_of, reply_elements, batching_at, evaluation_at}
use Rattle.scheme.proofs.ReplyPlaces.{batching_at_lem, answer_at_lem, record_at_lem, batching_words_lem, answer_words_lem}
use Rattle.lists.specs.Rows.{all_rows}
use Rattle.opened.specs.Records.{record_words_at}
use Rattle.batching_test.specs.Batching.{batch_of, batched_at, batched_row}
use Rattle.evaluation_test.specs.Evaluation.{evaluated_at, evaluated_leaf}
use Rattle.reply_tests.specs.Words.{batching_words, answer_words, leaf_values_at, row_values_at, leaf_elements_at}
use Rattle.reply_elements.specs.Elements.{record_elements_at}
use Rattle.lists.specs.Numbers.{words_at, words-rows, words_front}

module _ (u : Question) (reply : Bytes) where
  abbrev r : Reply
  r = read_reply u reply

  abbrev s : Sizes
  s = u.sizes

  leaf_values_lem : (a : ℕ) → a < s.ℓ → record_words s (record_at r a) ≡ leaf_values_at u reply a
  unfolding record_words_at
  leaf_values_lem a l = ap (words (record_values s)) (record_at_lem u reply a l)

  -- the row values are the first of them
  row_values_lem : (a : ℕ) → a < s.ℓ → take (rows s) (record_words s (record_at r a)) ≡ row_values_at u reply a
  unfolding record_words_at
  row_values_lem a l = words_front (rows s) s.η (record_at r a) ∙ ap (words (rows s)) (record_at_lem u reply a l)

  -- ---- 3

  batching_elements : all elements r.batching ≡ elements (batching_words u reply)
  unfolding read_reply
  batching_elements =
      all_is_each elements [] r.batching
      ∙ ap (λ (n : ℕ). each n (λ k. elements (get_or r.batching k []))) (length-map (pieces (4 * width s) s.η reply) (words (width s)) ∙ length-pieces (4 * width s) s.η reply)
      ∙ each_ext s.η (λ k. elements (get_or r.batching k [])) (λ k. elements (words_at (width s) reply k)) (λ k l. ap elements (batching_at_lem u reply k l))
      ∙ sym (ap elements (words-rows (width s) s.η reply) ∙ all_rows (λ x. ltb x q) (words_at (width s) reply) s.η)

  answer_elements : all elements r.answers ≡ elements (answer_words u reply)
  unfolding read_reply
  answer_elements =
      let y : Bytes = drop (answers_at s) reply in
      all_is_each elements [] r.answers
      ∙ ap (λ (n : ℕ). each n (λ k. elements (get_or r.answers k []))) (length-map (pieces (4 * width s) u.m y) (words (width s)) ∙ length-pieces (4 * width s) u.m y)
      ∙ each_ext u.m (λ k. elements (get_or r.answers k [])) (λ k. elements (words_at (width s) y k))
      (λ k l. ap elements (answer_at_lem u reply k l ∙ ap (words (width s)) (sym (drop-drop (4 * width s * k) (answers_at s) reply))))
      ∙ sym (ap elements (words-rows (width s) u.m y) ∙ all_rows (λ x. ltb x q) (words_at (width s) y) u.m)

  leaf_elements : all (λ x. elements (record_words s x)) r.records ≡ each s.ℓ (leaf_elements_at u reply)
  unfolding read_reply record_elements_at
  leaf_elements =
      let y : Bytes = drop (records_at s u.m) reply in
      all_is_each (λ x. elements (record_words s x)) [] r.records
      ∙ ap (λ (n : ℕ). each n (λ k. elements (record_words s (get_or r.records k [])))) (length-pieces (record_length s) s.ℓ y)
      ∙ each_ext s.ℓ (λ k. elements (record_words s (get_or r.records k []))) (leaf_elements_at u reply) (λ k l. ap elements (leaf_values_lem k l))

  pub elements_are : every (elements (batching_words u reply) ∷ elements (answer_words u reply) ∷ each u.sizes.ℓ (leaf_elements_at u reply) ∷ []) ≡ reply_elements u (read_reply u reply)
  unfolding reply_elements
  elements_are =
      ap₂ (λ (a b : Bool). every (a ∷ b ∷ each s.ℓ (leaf_elements_at u reply) ∷ [])) (sym batching_elements) (sym answer_elements)
      ∙ ap (λ (c : Bool). every (all elements r.batching ∷ all elements r.answers ∷ c ∷ [])) (sym leaf_elements)

  -- ---- 9

  pub batching_is : length u.challenges ≡ u.sizes.η → length u.indices ≡ u.sizes.ℓ
      → each (length u.challenges) (batched_row (width u.sizes) (rows u.sizes) u.challenges (batching_words u reply) u.indices (leaf_values_at u reply))
      ≡ each u.sizes.η (λ k. each u.sizes.ℓ (batching_at u (read_reply u reply) k))
  unfolding batched_row batched_at batching_at batch_of
  batching_is c i =
      ap (λ (n : ℕ). each n (batched_row (width s) (rows s) u.challenges (batching_words u reply) u.indices (leaf_values_at u reply))) c
      ∙ each_ext s.η (batched_row (width s) (rows s) u.challenges (batching_words u reply) u.indices (leaf_values_at u reply)) (λ k. each s.ℓ (batching_at u r k))
      (λ k l. ap (λ (n : ℕ). each n (batched_at (width s) (rows s) u.challenges (batching_words u reply) u.indices (leaf_values_at u reply) k)) i
      ∙ each_ext s.ℓ (batched_at (width s) (rows s) u.challenges (batching_words u reply) u.indices (leaf_values_at u reply) k) (batching_at u r k)
      (λ a m. ap₂ (λ (p x : List ℕ). eqb (eval_n p (leaf_point (leaf_at u a))) (batch_of (rows s) u.challenges k x)) (sym (batching_words_lem u reply k l)) (sym (leaf_values_lem a m))))

  -- ---- 10

  pub evaluation_is : length u.evaluation_points ≡ u.m → length u.indices ≡ u.sizes.ℓ
      → each (length u.indices) (evaluated_leaf (leaves u.sizes) (width u.sizes) u.evaluation_points (answer_words u reply) u.indices (row_values_at u reply))
      ≡ each u.m (λ p. each u.sizes.ℓ (evaluation_at u (read_reply u reply) p))
  unfolding evaluated_leaf evaluated_at evaluation_at
  evaluation_is e i =
      ap (λ (n : ℕ). each n (evaluated_leaf (leaves s) (width s) u.evaluation_points (answer_words u reply) u.indices (row_values_at u reply))) i
      ∙ each_ext s.ℓ (evaluated_leaf (leaves s) (width s) u.evaluation_points (answer_words u reply) u.indices (row_values_at u reply)) (λ a. each u.m (λ p. evaluation_at u r p a))
      (λ a l. ap (λ (n : ℕ). each n (evaluated_at (leaves s) (width s) u.evaluation_points (answer_words u reply) (leaf_point (leaf_at u a)) (row_values_at u reply a))) e
      ∙ each_ext u.m (evaluated_at (leaves s) (width s) u.evaluation_points (answer_words u reply) (leaf_point (leaf_at u a)) (row_values_at u reply a)) (λ p. evaluation_at u r p a)
      (λ p h. ap₂ (λ (x y : List ℕ). eqb (eval_n (interp_n (points s) x) (leaf_point (leaf_at u a))) (eval_n y (point_of u p)))
      (sym (answer_words_lem u reply p h)) (sym (row_values_lem a l))))
      ∙ sym (each_swap u.m s.ℓ (λ p a. evaluation_at u r p a))

-- Where the parts of a reply stand: each batching answer, evaluation answer and record, as bytes and as words.
use mathlib.Core.Path.{◌≡◌, sym, ap, ◌∙◌, subst}
use mathlib.Core.List.{[]}
use Prim.Native.Nat.{ℕ, ◌+◌, ◌*◌, ◌<◌}
use lib.ListN.{take, drop}
use lib.Seq.{drop-drop}
use Rattle.lists.specs.Bytes.{words_of_piece, Bytes, words}
use Rattle.lists.specs.Pieces.{piece, pieces, length-pieces, pieces_at}
use Rattle.lists.specs.Numbers.{words-piece}
use Rattle.scheme.specs.Sizes.{width}
use Rattle.scheme.specs.Question.{Question}
use Rattle.scheme.specs.Reply.{read_reply, answers_at, records_at, record_length}
use Rattle.scheme.specs.Check.{batching_of, answer_of, record_at}
use Rattle.lists.specs.Maps.{get_or-map_in}

module _ (u : Question) (reply : Bytes) where
  pub batching_at_lem : (k : ℕ) → k < u.sizes.η → batching_of (read_reply u reply) k ≡ words (width u.sizes) (drop (4 * width u.sizes * k) reply)
  unfolding read_reply
  batching_at_lem k l =
      get_or-map_in (words (width u.sizes)) (pieces (4 * width u.sizes) u.sizes.η reply) k [] [] (subst (λ (n : ℕ). k < n) (sym (length-pieces _ _ _)) l)
      ∙ ap (words (width u.sizes)) (pieces_at (4 * width u.sizes) u.sizes.η k reply l)
      ∙ words_of_piece (width u.sizes) (drop (4 * width u.sizes * k) reply)

  pub answer_at_lem : (p : ℕ) → p < u.m → answer_of (read_reply u reply) p ≡ words (width u.sizes) (drop (answers_at u.sizes + 4 * width u.sizes * p) reply)
  unfolding read_reply
  answer_at_lem p l =
      get_or-map_in (words (width u.sizes)) (pieces (4 * width u.sizes) u.m (drop (answers_at u.sizes) reply)) p [] [] (subst (λ (n : ℕ). p < n) (sym (length-pieces _ _ _)) l)
      ∙ ap (words (width u.sizes)) (pieces_at (4 * width u.sizes) u.m p (drop (answers_at u.sizes) reply) l)
      ∙ words_of_piece (width u.sizes) (drop (4 * width u.sizes * p) (drop (answers_at u.sizes) reply))
      ∙ ap (words (width u.sizes)) (drop-drop (4 * width u.sizes * p) (answers_at u.sizes) reply)

  pub record_at_lem : (a : ℕ) → a < u.sizes.ℓ → record_at (read_reply u reply) a ≡ take (record_length u.sizes) (drop (records_at u.sizes u.m + record_length u.sizes * a) reply)
  unfolding read_reply
  record_at_lem a l =
      pieces_at (record_length u.sizes) u.sizes.ℓ a (drop (records_at u.sizes u.m) reply) l
      ∙ ap (take (record_length u.sizes)) (drop-drop (record_length u.sizes * a) (records_at u.sizes u.m) reply)

  -- all batching answers read as words one after the other, and all evaluation answers
  pub batching_words_lem : (k : ℕ) → k < u.sizes.η → batching_of (read_reply u reply) k ≡ piece (width u.sizes) k (words (width u.sizes * u.sizes.η) reply)
  batching_words_lem k l = batching_at_lem k l ∙ sym (words-piece (width u.sizes) u.sizes.η k reply l)

  pub answer_words_lem : (p : ℕ) → p < u.m → answer_of (read_reply u reply) p ≡ piece (width u.sizes) p (words (width u.sizes * u.m) (drop (answers_at u.sizes) reply))
  answer_words_lem p l =
      answer_at_lem p l
      ∙ ap (words (width u.sizes)) (sym (drop-drop (4 * width u.sizes * p) (answers_at u.sizes) reply))
      ∙ sym (words-piece (width u.sizes) u.m p (drop (answers_at u.sizes) reply) l)

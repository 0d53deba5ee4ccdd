-- What an answer says of a question.
use mathlib.Core.Path.{◌≡◌, refl, sym, ap, ◌∙◌, subst}
use mathlib.Core.Bool.{true}
use mathlib.Core.List.{List, ◌++◌}
use Prim.Native.Nat.{ℕ, ◌^◌, ◌≤◌, ◌<◌}
use native.Mathlib.Omega.{arith}
use lib.ListN.{length, take, drop}
use lib.Seq.{take_at}
use borrow.Author.Tests.{eqb-true, ltb-false, not-false}
use Rattle.lists.specs.All.{Below}
use Rattle.lists.specs.Bytes.{Bytes, words, halves, length-words}
use Rattle.lists.specs.Choice.{and_true}
use Rattle.lists.specs.Tests.{passed, Numbered}
use Rattle.tree.specs.Clauses.{IndexSet}
use Rattle.tree.specs.Leaf.{salt_length}
use Rattle.scheme.specs.Sizes.{Sizes, SizesInOrder, sizes_ok, points_ok}
use Rattle.scheme.specs.Question.{read_question, header_tests, header_points, question_tests, question_verdict, header_length, salt_at, challenges_at, points_at, indices_at, question_length}
use Rattle.scheme.proofs.Accepted.{sizes_in_order, Asked, well_formed, question_numbers}
use Rattle.scheme.proofs.Bound.{indices_length}
use Rattle.commitment.specs.Shape.{sizes_in}
use Rattle.question.specs.Asked.{header_shape, Heads, Asks}
use Rattle.commitment.specs.declared.Shape.{Shape}

-- ---- a header

pub header_numbers : (b : Bytes) → Numbered (header_tests b)
header_numbers b = omega arith

-- a header that is taken
pub record Headed (b : Bytes) (s : Shape) (m : ℕ) : Type 0 where
  pub long : header_length ≤ length b
  pub sizes_ok_lem : sizes_ok (sizes_in s) ≡ true
  pub points_ok_lem : points_ok m ≡ true

pub well_headed : (b : Bytes) (s : Shape) (m : ℕ) → Heads b s m → Headed b s m
well_headed b s m a =
    let t = passed (header_tests b) (header_numbers b) a.verdict in
    let ok = and_true _ _ (not-false _ t.1.1.0) in
    record {
      long = ltb-false _ _ t.0;
      sizes_ok_lem = ap (λ (x : Shape). sizes_ok (sizes_in x)) a.shape ∙ ok.0;
      points_ok_lem = ap points_ok a.points ∙ ok.1;
    }

-- ---- a question

pub well_asked : (b : Bytes) (s : Shape) (m : ℕ) → Asks b s m → (question_verdict b ≡ 0) × (sizes_in s ≡ (read_question b).sizes) × (m ≡ (read_question b).m)
unfolding read_question
well_asked b s m a = (a.verdict, ap sizes_in a.shape, a.points)

-- a question that is taken, in the sizes s and the number of points m that the code holds
pub record Taken (b : Bytes) (s : Shape) (m : ℕ) : Type 0 where
  pub asks : Asked (read_question b)
  pub sizes_ok_lem : sizes_ok (sizes_in s) ≡ true
  pub m_low : 1 ≤ m
  pub m_high : m ≤ 8
  pub long : length b ≡ question_length (sizes_in s) m
  pub root : (read_question b).root ≡ take 32 (drop header_length b)
  pub salt : (read_question b).salt ≡ take salt_length (drop salt_at b)
  pub challenges : (read_question b).challenges ≡ words s.eta (drop challenges_at b)
  pub points : (read_question b).evaluation_points ≡ words m (drop (points_at (sizes_in s)) b)
  pub indices : (read_question b).indices ≡ halves s.l (drop (indices_at (sizes_in s) m) b)

taken_from : (b : Bytes) → question_verdict b ≡ 0 → Taken b (header_shape b) (header_points b)
unfolding read_question question_tests
taken_from b e =
    let a = well_formed b e in
    let t = passed (question_tests b) (question_numbers b) e in
    record {
      asks = a;
      sizes_ok_lem = (and_true _ _ (not-false _ t.1.1.0)).0;
      m_low = a.m_low;
      m_high = a.m_high;
      long = eqb-true _ _ (not-false _ t.1.1.1.0);
      root = refl;
      salt = refl;
      challenges = refl;
      points = refl;
      indices = refl;
    }

pub taken : (b : Bytes) (s : Shape) (m : ℕ) → Asks b s m → Taken b s m
taken b s m a =
    subst (λ (n : ℕ). Taken b s n) (sym a.points) (subst (λ (x : Shape). Taken b x (header_points b)) (sym a.shape) (taken_from b a.verdict))

-- its indices: a set of ℓ leaves
pub asked_indices : (b : Bytes) (s : Shape) (m : ℕ) → Asks b s m → (length (read_question b).indices ≡ s.l) × IndexSet s.h (read_question b).indices
asked_indices b s m e =
    let a = well_asked b s m e in
    let k : Asked (read_question b) = (taken b s m e).asks in
    let n : length (read_question b).indices ≡ s.l = indices_length b ∙ ap (λ (t : Sizes). t.ℓ) (sym a.1) in
    let g : SizesInOrder (sizes_in s) = sizes_in_order (sizes_in s) (taken b s m e).sizes_ok_lem in (
      n,
      record {
        depth = g.h_high;
        some = subst (λ (j : ℕ). 0 < j) (sym n) g.ℓ-low;
        few = subst (λ (j : ℕ). j ≤ 64) (sym n) g.ℓ-high;
        rising = k.indices_rising;
        leaves = subst (λ (t : Sizes). Below (2 ^ t.h) (read_question b).indices) (sym a.1) k.indices_below;
      },
    )

-- its challenges and points: η and m of them
pub challenges_count : (b : Bytes) (s : Shape) (m : ℕ) → Asks b s m → length (read_question b).challenges ≡ s.eta
challenges_count b s m e = ap length (taken b s m e).challenges ∙ length-words s.eta (drop challenges_at b)

pub points_count : (b : Bytes) (s : Shape) (m : ℕ) → Asks b s m → length (read_question b).evaluation_points ≡ m
points_count b s m e = ap length (taken b s m e).points ∙ length-words m (drop (points_at (sizes_in s)) b)

-- read from their place into a room
pub indices_read : (b : Bytes) (s : Shape) (m : ℕ) (room x : List ℕ) (at : ℕ) → Asks b s m → at ≡ indices_at (sizes_in s) m
    → x ≡ halves s.l (drop at b) ++ drop s.l room → take s.l x ≡ (read_question b).indices
indices_read b s m room x at e k f =
    let front : x ≡ (read_question b).indices ++ drop s.l room =
    f ∙ ap (λ (n : ℕ). halves s.l (drop n b) ++ drop s.l room) k ∙ ap (λ (y : List ℕ). y ++ drop s.l room) (sym (taken b s m e).indices) in
    ap (take s.l) front ∙ take_at (read_question b).indices (drop s.l room) s.l (asked_indices b s m e).0

pub words_read : (n at k : ℕ) (b : Bytes) (room x xs : List ℕ) → at ≡ k → xs ≡ words n (drop k b) → x ≡ words n (drop at b) ++ drop n room → take n x ≡ xs
words_read n at k b room x xs e w f =
    ap (take n) f ∙ take_at (words n (drop at b)) (drop n room) n (length-words n (drop at b)) ∙ ap (λ (i : ℕ). words n (drop i b)) e ∙ sym w

-- What is given where a question is well formed, and where all tests have passed.
use mathlib.Core.Path.{◌≡◌, sym, ap, ap₂, ◌∙◌, subst}
use mathlib.Core.Bool.{Bool, true}
use mathlib.Core.List.{List, [], ◌∷◌}
use Prim.Native.Nat.{ℕ, ◌-◌, ◌*◌, ◌≤◌}
use native.Mathlib.Nat.{le_of_eq}
use native.Mathlib.Omega.{arith}
use lib.Dec.{eqb}
use lib.Pow.{pow_pos}
use lib.ListN.{length}
use borrow.Author.Tests.{eqb-true}
use Rattle.lists.specs.All.{All, Below}
use Rattle.lists.specs.Rising.{Rising}
use Rattle.lists.specs.Bytes.{Bytes}
use Rattle.lists.specs.Tests.{every_true, true_every}
use Rattle.tree.specs.Clauses.{IndexSet}
use Rattle.scheme.specs.Sizes.{Sizes, leaves, sizes_ok}
use Rattle.scheme.specs.Layers.{Lent}
use Rattle.scheme.specs.Question.{Question, read_question, question_verdict, question_length, question_at}
use Rattle.scheme.specs.Reply.{reply_length}
use Rattle.scheme.specs.Commit.{lent_ok, filled_ok, lent_elements}
use Rattle.scheme.specs.Open.{lengths_ok, open_verdict}
use Rattle.scheme.proofs.Accepted.{sizes_in_order, well_formed}
use Rattle.scheme.proofs.Opening.{lent_passed}
use Rattle.commitment.specs.Shape.{sizes_in}
use Rattle.question.specs.Asked.{Asks}
use Rattle.commitment.specs.declared.Shape.{Shape}
use Rattle.question.proofs.Answer.{well_asked, taken, asked_indices}
use Rattle.commitment.proofs.Places.{nodes_high, missing-high}
use Rattle.opener.specs.Ready.{Ready}

-- ---- the question

module _ (b : Bytes) (s : Shape) (m : ℕ) (e : Asks b s m) where
  pub asked : question_verdict b ≡ 0
  asked = (well_asked b s m e).0

  sizes_are : sizes_in s ≡ (read_question b).sizes
  sizes_are = (well_asked b s m e).1

  points_are : m ≡ (read_question b).m
  points_are = (well_asked b s m e).2

  pub sizes_ok_lem : sizes_ok (sizes_in s) ≡ true
  sizes_ok_lem = (taken b s m e).sizes_ok_lem

  pub points_few : m ≤ 8
  points_few = (taken b s m e).m_high

  pub long : length b ≡ question_length (sizes_in s) m
  long = (taken b s m e).long

  pub question_is : question_at (sizes_in s) m b ≡ read_question b
  unfolding read_question
  question_is = ap₂ (λ (t : Sizes) (k : ℕ). question_at t k b) sizes_are points_are

  rising : Rising (question_at (sizes_in s) m b).indices
  rising = subst (λ (u : Question). Rising u.indices) (sym question_is) (well_formed b asked).indices_rising

  leaf : Below (leaves (sizes_in s)) (question_at (sizes_in s) m b).indices
  leaf = subst (λ (u : Question). Below (leaves u.sizes) u.indices) (sym question_is) (well_formed b asked).indices_below

pub root_room : (s : Sizes) (table : List ℕ) (nodes : Bytes) → filled_ok s table nodes ≡ true → 32 ≤ length nodes
unfolding filled_ok
root_room s table nodes e =
    let t = every_true _ e in
    let n : length nodes ≡ 32 * (2 * leaves s - 1) = eqb-true (length nodes) (32 * (2 * leaves s - 1)) t.1.0 in
    omega (arith, n, pow_pos s.h)

-- ---- all tests have passed

reply_small : (b : Bytes) (s : Shape) (m : ℕ) → Asks b s m → reply_length (question_at (sizes_in s) m b) ≤ 65536
reply_small b s m e =
    let i : IndexSet s.h (question_at (sizes_in s) m b).indices = subst (λ (u : Question). IndexSet s.h u.indices) (sym (question_is b s m e)) (asked_indices b s m e).1 in
    omega (arith, nodes_high (sizes_in s) (sizes_in_order (sizes_in s) (sizes_ok_lem b s m e)) m (points_few b s m e), missing-high s.h (question_at (sizes_in s) m b).indices i)

module _ (b : Bytes) (l : Lent) (table : List ℕ) (nodes reply : Bytes) (s : Shape) (m : ℕ) (e : Asks b s m) (z : open_verdict b l table nodes reply ≡ 0) where
  -- the lengths, for the sizes that the code holds
  lengths : All (λ (t : Bool). t ≡ true) (lent_ok (sizes_in s) l ∷ filled_ok (sizes_in s) table nodes ∷ eqb (length reply) (reply_length (question_at (sizes_in s) m b)) ∷ [])
  lengths = every_true _ (ap (λ (u : Question). lengths_ok u l table nodes reply) (question_is b s m e) ∙ (lent_passed b l table nodes reply z).0)

  pub exact : length reply ≡ reply_length (question_at (sizes_in s) m b)
  exact = eqb-true _ _ lengths.1.1.0

  pub ready : Ready b (sizes_in s) m l table nodes reply
  ready = record {
    lent = record {
      sizes = sizes_ok_lem b s m e;
      lengths = lengths.0;
      elements = true_every (lent_elements l) (every_true _ (lent_passed b l table nodes reply z).1).1;
    };
    points = points_few b s m e;
    long = long b s m e;
    rising = rising b s m e;
    leaf = leaf b s m e;
    filled = lengths.1.0;
    room = le_of_eq (sym exact);
    small = subst (λ (n : ℕ). n ≤ 65536) (sym exact) (reply_small b s m e);
  }

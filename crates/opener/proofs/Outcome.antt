-- What opening does, by the answer to the question and the verdict.
use mathlib.Core.Path.{◌≡◌, sym, ap, ap₂, ◌∙◌}
use mathlib.Core.List.{List, [], ◌++◌, append-nil}
use Prim.Native.Nat.{ℕ, ◌<◌}
use lib.ListN.{drop}
use lib.Seq.{drop-length}
use Rattle.lists.specs.Bytes.{Bytes}
use Rattle.scheme.specs.Layers.{Lent}
use Rattle.scheme.specs.Question.{Question, question_at, question_verdict}
use Rattle.scheme.specs.Reply.{reply_length}
use Rattle.scheme.specs.Open.{reply_of, open_verdict, opening}
use Rattle.commitment.specs.Shape.{sizes_in}
use Rattle.question.specs.Asked.{Asks}
use Rattle.commitment.specs.declared.Shape.{Shape}
use Rattle.opener.specs.Ready.{Ready}
use Rattle.scheme.proofs.Opening.{asked_verdict, opening-refused, opening_done}
use Rattle.opener.proofs.Given.{question_is, exact, ready}

module _ (b : Bytes) (l : Lent) (table : List ℕ) (nodes reply : Bytes) where
  -- the question is refused
  pub question_refused : (v : ℕ) → 0 < v → v ≡ question_verdict b → (v, 0, reply) ≡ opening b l table nodes reply
  question_refused v p e = sym (opening-refused b l table nodes reply v p (asked_verdict b l table nodes reply v p (sym e)))

  -- what is lent is refused
  pub lent_refused : (v : ℕ) → 0 < v → v ≡ open_verdict b l table nodes reply → (v, 0, reply) ≡ opening b l table nodes reply
  lent_refused v p e = sym (opening-refused b l table nodes reply v p (sym e))

  module _ (s : Shape) (m : ℕ) (asked : Asks b s m) (passed : open_verdict b l table nodes reply ≡ 0) where
    pub is_ready : Ready b (sizes_in s) m l table nodes reply
    is_ready = ready b l table nodes reply s m asked passed

    -- nothing is refused: the reply takes the whole buffer
    pub replied : (n : ℕ) (out : Bytes) → n ≡ reply_length (question_at (sizes_in s) m b) → out ≡ reply_of (question_at (sizes_in s) m b) l table nodes ++ drop n reply
        → (0, n, out) ≡ opening b l table nodes reply
    replied n out k o =
        let w : Question = question_at (sizes_in s) m b in
        let none : drop n reply ≡ [] = ap (λ (j : ℕ). drop j reply) (k ∙ sym (exact b l table nodes reply s m asked passed)) ∙ drop-length reply in
        ap₂ (λ (x : ℕ) (y : Bytes). (0, x, y)) k
        (o ∙ ap (λ (y : Bytes). reply_of w l table nodes ++ y) none ∙ append-nil (reply_of w l table nodes))
        ∙ ap (λ (v : Question). (0, reply_length v, reply_of v l table nodes)) (question_is b s m asked)
        ∙ sym (opening_done b l table nodes reply passed)

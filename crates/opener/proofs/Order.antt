-- The tests of opening in their order, in the sizes and indices that the code holds.
use mathlib.Core.Path.{◌≡◌, sym, ap, ap₂, ◌∙◌}
use mathlib.Core.Bool.{Bool, true, false}
use mathlib.Core.List.{List, [], ◌∷◌}
use Prim.Native.Nat.{ℕ, ◌+◌, ◌*◌}
use lib.Dec.{eqb}
use lib.ListN.{length, take, drop}
use Rattle.lists.specs.Bytes.{Bytes}
use Rattle.lists.specs.Tests.{every}
use Rattle.tree.specs.Leaf.{salt_length}
use Rattle.tree.specs.Sets.{missing}
use Rattle.scheme.specs.Layers.{Lent}
use Rattle.scheme.specs.Question.{Question, header_length, salt_at, read_question}
use Rattle.scheme.specs.Reply.{nodes_at}
use Rattle.scheme.specs.Commit.{lent_ok, filled_ok}
use Rattle.scheme.specs.Open.{lengths_ok, words_ok, names_ok, open_verdict}
use Rattle.scheme.proofs.Opening.{verdict_0, verdict_2, verdict_3, verdict_8}
use Rattle.commitment.specs.Shape.{sizes_in}
use Rattle.question.specs.Asked.{Asks}
use Rattle.commitment.specs.declared.Shape.{Shape}
use Rattle.question.proofs.Answer.{taken}
use Rattle.opener.proofs.Given.{asked, question_is}

module _ (b : Bytes) (l : Lent) (table : List ℕ) (nodes reply : Bytes) (s : Shape) (m : ℕ) (indices : List ℕ)
    (given : (Asks b s m) × (indices ≡ (read_question b).indices)) where
  abbrev measured : Bool
  measured = every (lent_ok (sizes_in s) l ∷ filled_ok (sizes_in s) table nodes ∷ eqb (length reply) (nodes_at (sizes_in s) m + 32 * length (missing 2 s.h indices)) ∷ [])

  abbrev named : Bool
  named = names_ok (take 32 (drop header_length b)) (take salt_length (drop salt_at b)) l nodes

  measured_are : (t : Bool) → measured ≡ t → lengths_ok (read_question b) l table nodes reply ≡ t
  measured_are t e =
      sym (ap (λ (u : Question). lengths_ok u l table nodes reply) (question_is b s m given.0))
      ∙ ap (λ (x : List ℕ). every (lent_ok (sizes_in s) l ∷ filled_ok (sizes_in s) table nodes ∷ eqb (length reply) (nodes_at (sizes_in s) m + 32 * length (missing 2 s.h x)) ∷ []))
      (ap (λ (u : Question). u.indices) (question_is b s m given.0) ∙ sym given.1)
      ∙ e

  named_are : (t : Bool) → named ≡ t → names_ok (read_question b).root (read_question b).salt l nodes ≡ t
  named_are t e = ap₂ (λ (root salt : Bytes). names_ok root salt l nodes) (taken b s m given.0).root (taken b s m given.0).salt ∙ e

  pub says_2 : measured ≡ false → 2 ≡ open_verdict b l table nodes reply
  says_2 e = sym (verdict_2 b l table nodes reply (asked b s m given.0) (measured_are false e))

  pub says_3 : measured ≡ true → words_ok l table ≡ false → 3 ≡ open_verdict b l table nodes reply
  says_3 e f = sym (verdict_3 b l table nodes reply (asked b s m given.0) (measured_are true e) f)

  pub says_8 : measured ≡ true → words_ok l table ≡ true → named ≡ false → 8 ≡ open_verdict b l table nodes reply
  says_8 e f g = sym (verdict_8 b l table nodes reply (asked b s m given.0) (measured_are true e) f (named_are false g))

  pub says_0 : measured ≡ true → words_ok l table ≡ true → named ≡ true → 0 ≡ open_verdict b l table nodes reply
  says_0 e f g = sym (verdict_0 b l table nodes reply (asked b s m given.0) (measured_are true e) f (named_are true g))

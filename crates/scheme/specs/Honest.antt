-- Completeness: what is committed is opened, and what is opened is accepted with the true values.
use Rattle.std.specs.Prelude.{◌≡◌, true, ℕ, ◌*◌, length}
use mathlib.Core.List.{List, map, flatten}
use Rattle.lists.specs.Bytes.{Bytes, bytes_of}
use Rattle.algebra.specs.Numbers.{eval_n}
use Rattle.lists.specs.Pieces.{pieces}
use Rattle.lists.specs.Tests.{every}
use Rattle.scheme.specs.Sizes.{Sizes, coefficient_count, sizes_ok}
use Rattle.scheme.specs.Layers.{Lent}
use Rattle.scheme.specs.Question.{read_question, question_verdict}
use Rattle.scheme.specs.Reply.{reply_length}
use Rattle.scheme.specs.Sizing.{sizing}
use Rattle.scheme.specs.Commit.{lent_ok, filled_ok, lent_elements, table_of, tree_of, last_digest, committing}
use Rattle.scheme.specs.Open.{opening}
use Rattle.scheme.specs.Check.{checking_c}
use Rattle.scheme.specs.Work.{checking_counted, question_work, counting}

-- the values of the committed polynomials, point by point
unfoldable pub true_values : Sizes → Lent → List ℕ → List ℕ
true_values s l zs = flatten (map (λ z. map (λ p. eval_n p z) (pieces (coefficient_count s) s.w l.coefficients)) zs)

-- sizes in their ranges, and lent slices of the right lengths that hold elements
pub record WellLent (s : Sizes) (l : Lent) : Type 0 where
  pub sizes : sizes_ok s ≡ true
  pub lengths : lent_ok s l ≡ true
  pub elements : every (lent_elements l) ≡ true

-- a well-formed question that names the root, the salt and the sizes of a commitment
pub record Names (s : Sizes) (l : Lent) (question : Bytes) : Type 0 where
  pub well_formed : question_verdict question ≡ 0
  pub sizes : (read_question question).sizes ≡ s
  pub root : (read_question question).root ≡ last_digest (tree_of s l)
  pub salt : (read_question question).salt ≡ l.salt

-- a reply of the length that sizing answers, that the opener makes, and that is accepted with the true values, by both entries; the check's work is what a planner is told
pub record Replied (s : Sizes) (l : Lent) (question buffer : Bytes) : Type 0 where
  pub reply : Bytes
  pub sized : sizing question ≡ (0, length reply)
  pub counted : counting question ≡ (0, question_work (read_question question))
  pub opened : opening question l (table_of s l) (tree_of s l) buffer ≡ (0, length reply, reply)
  pub checked : (values : List ℕ) → length values ≡ s.w * (read_question question).m
      → checking_counted question reply values ≡ (0, question_work (read_question question), true_values s l (read_question question).evaluation_points)
  pub checked_c : (values : Bytes) → length values ≡ 4 * (s.w * (read_question question).m)
      → checking_c question reply values ≡ (0, bytes_of (true_values s l (read_question question).evaluation_points))

abbrev pub Completeness : Sizes → Lent → Type 0
Completeness s l =
    WellLent s l
    → ((table : List ℕ) (nodes : Bytes) → filled_ok s table nodes ≡ true → committing s l table nodes ≡ (0, table_of s l, tree_of s l))
    × ((question buffer : Bytes) → Names s l question → length buffer ≡ reply_length (read_question question) → Replied s l question buffer)

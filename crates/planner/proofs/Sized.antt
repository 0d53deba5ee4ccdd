-- What planners are told of a well-formed question, by how many nodes are missing; and of any other.
use mathlib.Core.Path.{◌≡◌, sym, ap, ap₂, ◌∙◌, subst}
use Prim.Native.Nat.{ℕ, ◌+◌, ◌-◌, ◌*◌, ◌≤◌}
use native.Mathlib.Omega.{arith}
use lib.ListN.{length}
use Rattle.tree.specs.Sets.{missing}
use Rattle.tree.specs.Ancestors.{nodes_above}
use Rattle.tree.specs.Clauses.{IndexSet}
use Rattle.tree.specs.Work.{permutations_for}
use Rattle.tree.proofs.Above.{above_missing}
use Rattle.lists.specs.Bytes.{Bytes}
use Rattle.scheme.specs.Sizes.{Sizes, SizesInOrder}
use Rattle.scheme.specs.Question.{Question, read_question, question_verdict}
use Rattle.scheme.specs.Reply.{nodes_at, reply_length}
use Rattle.scheme.specs.Sizing.{planning, sizing}
use Rattle.scheme.specs.Work.{leaf_length, node_length, question_work, counting}
use Rattle.scheme.proofs.Accepted.{sizes_in_order}
use Rattle.scheme.proofs.Opening.{planning_is, planning-refused}
use Rattle.commitment.proofs.Places.{missing-high}
use Rattle.commitment.specs.Shape.{sizes_in}
use Rattle.question.specs.Asked.{Asks}
use Rattle.commitment.specs.declared.Shape.{Shape}
use Rattle.refusal.specs.declared.Refusal.{Refusal}
use Rattle.refusal.specs.Numbers.{number, number_positive}
use Rattle.planner.specs.Planned.{most_missing}
use Rattle.question.proofs.Answer.{well_asked, taken, asked_indices}

module _ (b : Bytes) (s : Shape) (m : ℕ) (asked : Asks b s m) where
  in_order : SizesInOrder (sizes_in s)
  in_order = sizes_in_order (sizes_in s) (taken b s m asked).sizes_ok_lem

  asked-set : IndexSet s.h (read_question b).indices
  asked-set = (asked_indices b s m asked).1

  -- so many nodes may be missing
  pub can_plan : (n : ℕ) → n ≡ length (missing 2 s.h (read_question b).indices) → SizesInOrder (sizes_in s) × (m ≤ 8) × (n ≤ most_missing)
  can_plan n e = (in_order, (taken b s m asked).m_high, subst (λ (k : ℕ). k ≤ most_missing) (sym e) (missing-high s.h (read_question b).indices asked-set))

  pub sized : (n r : ℕ) → n ≡ length (missing 2 s.h (read_question b).indices) → r ≡ nodes_at (sizes_in s) m + 32 * n → (0, r) ≡ sizing b
  sized n r e f =
      let a = well_asked b s m asked in
      ap (λ (k : ℕ). (0, k))
      (f
      ∙ ap (λ (k : ℕ). nodes_at (sizes_in s) m + 32 * k) e
      ∙ ap₂ (λ (t : Sizes) (k : ℕ). nodes_at t k + 32 * length (missing 2 t.h (read_question b).indices)) a.1 a.2)
      ∙ sym (planning_is reply_length b a.0)

  -- of the children of all nodes above, those that are no node above are the opened leaves and the missing nodes
  nodes_are : length (nodes_above 2 s.h (read_question b).indices) ≡ s.l + length (missing 2 s.h (read_question b).indices) - 1
  nodes_are =
      let g = asked-set in
      omega (arith, above_missing 1 s.h (read_question b).indices g.rising g.some g.leaves, (asked_indices b s m asked).0)

  pub counted : (n r : ℕ) → n ≡ length (missing 2 s.h (read_question b).indices)
      → r ≡ s.l * permutations_for (leaf_length (sizes_in s)) + (s.l + n - 1) * permutations_for (node_length (sizes_in s)) → (0, r) ≡ counting b
  unfolding question_work
  counted n r e f =
      let a = well_asked b s m asked in
      let work : Sizes → ℕ = λ t. t.ℓ * permutations_for (leaf_length t) + length (nodes_above 2 t.h (read_question b).indices) * permutations_for (node_length t) in
      ap (λ (k : ℕ). (0, k))
      (f
      ∙ ap (λ (k : ℕ). s.l * permutations_for (leaf_length (sizes_in s)) + k * permutations_for (node_length (sizes_in s))) (ap (λ (k : ℕ). s.l + k - 1) e ∙ sym nodes_are)
      ∙ ap work a.1)
      ∙ sym (planning_is question_work b a.0)

pub not_planned : (plan : Question → ℕ) (b : Bytes) (r : Refusal) → number r ≡ question_verdict b → (number r, 0) ≡ planning plan b
not_planned plan b r e = sym (planning-refused plan b (number r) (number_positive r) (sym e))

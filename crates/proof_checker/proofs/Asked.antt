-- The question so drawn is well formed, by the sizes and the number of points that the code holds.
use mathlib.Core.Path.{◌≡◌, sym, ap, ◌∙◌, subst}
use mathlib.Core.List.{List}
use Prim.Native.Nat.{ℕ, ◌≤◌}
use native.Mathlib.Omega.{arith}
use lib.ListN.{length}
use Rattle.lists.specs.Bytes.{Bytes}
use Rattle.tree.specs.Clauses.{IndexSet}
use Rattle.scheme.specs.Sizes.{Sizes}
use Rattle.scheme.specs.Question.{Question, read_question, question_length, header_sizes, question_verdict, most_question}
use Rattle.fiat_shamir.specs.Draw.{drawn_bytes, drawn_indices}
use Rattle.fiat_shamir.specs.CheckProof.{proof_draw, proof_indices}
use Rattle.fiat_shamir.proofs.Drawn.{Leaves, drawn-leaves, drawn-back, drawn_right}
use Rattle.commitment.specs.Shape.{sizes_in, shape_of}
use Rattle.commitment.specs.declared.Shape.{Shape}
use Rattle.question.specs.Asked.{Asks}
use Rattle.offline_question.specs.Offline.{Offline}
use Rattle.offline_question.proofs.Answer.{Facts, offline_facts}

module _ (b : Bytes) (s : Shape) (m : ℕ) (o : Offline b (sizes_in s) m) where
  pub facts : Facts b (sizes_in s) m
  facts = offline_facts b (sizes_in s) m o

  pub question_high : question_length (sizes_in s) m ≤ most_question
  question_high = omega (arith, facts.few_points, facts.in_order.η-high, facts.in_order.ℓ-high)

  -- drawn leaves are a set of ℓ leaves
  pub drawn-set : (proof : Bytes) (is : List ℕ) → is ≡ proof_indices b proof → IndexSet s.h is × (length is ≡ s.l)
  drawn-set proof is e =
      let ls : Leaves (sizes_in s) is =
      subst (λ (t : List ℕ). Leaves (sizes_in s) t) (sym (e ∙ ap (λ (t : Sizes). drawn_indices t (proof_draw b proof)) o.sizes)) (drawn-leaves (sizes_in s) facts.in_order (proof_draw b proof)) in (
        record {
          depth = facts.in_order.h_high;
          some = omega (arith, ls.count, facts.in_order.ℓ-low);
          few = omega (arith, ls.count, facts.in_order.ℓ-high);
          rising = ls.rise;
          leaves = ls.inside;
        },
        ls.count,
      )

  -- the question drawn with such a set
  module _ (is : List ℕ) (set : IndexSet s.h is) (count : length is ≡ s.l) where
    leaves_in : Leaves (header_sizes b) is
    leaves_in = subst (λ (t : Sizes). Leaves t is) (sym o.sizes) (record { count = count; rise = set.rising; inside = set.leaves })

    pub asked-drawn : (D : Bytes) → D ≡ drawn_bytes b is → Asks D s m
    unfolding read_question
    asked-drawn D e =
        let back : read_question D ≡ _ = ap read_question e ∙ drawn-back b 0 facts.asked is leaves_in in
        record {
          verdict = ap question_verdict e ∙ drawn_right b 0 facts.asked is leaves_in;
          shape = ap shape_of (sym (ap (λ (u : Question). u.sizes) back ∙ o.sizes));
          points = sym (ap (λ (u : Question). u.m) back ∙ o.points);
        }

-- The answers to the question so drawn, whatever indices stand in it, and the string of its draw.
use mathlib.Core.Path.{◌≡◌, sym, ap, ap₂, ◌∙◌}
use mathlib.Core.List.{List, [], ◌∷◌, ◌++◌, append_assoc}
use Prim.Native.Nat.{ℕ, suc, ◌+◌, ◌-◌, ◌≤◌}
use native.Mathlib.Omega.{arith}
use lib.ListN.{length, take, drop}
use lib.Seq.{take_at, drop_at, drop-drop}
use borrow.Rule.Slice.PartMut.{put_mid}
use Rattle.lists.specs.Bytes.{Bytes}
use Rattle.lists.specs.Parts.{put_tail, mid_tail}
use Rattle.scheme.specs.Sizes.{Sizes, SizesInOrder}
use Rattle.scheme.specs.Layers.{Lent, extended_rows}
use Rattle.scheme.specs.Question.{question_at, question_length, header_sizes, header_points, most_question}
use Rattle.scheme.specs.Reply.{records_at}
use Rattle.scheme.proofs.Lent.{LentFacts, lent_facts}
use Rattle.fiat_shamir.specs.Draw.{drawn, drawn_bytes, most_string}
use Rattle.fiat_shamir.specs.Prove.{proved_answers}
use Rattle.fiat_shamir.proofs.Drawn.{challenges_back, points-back}
use Rattle.commitment.proofs.Places.{records_high}
use Rattle.opener.specs.Parts.{CanSum, sums}
use Rattle.opener.proofs.Sums.{sums-opened}
use Rattle.offline_question.proofs.Answer.{Facts, offline_facts}
use Rattle.prover.specs.Parts.{CanPut}

module _ (b : Bytes) (s : Sizes) (m : ℕ) (l : Lent) (can : CanPut b s m l) where
  facts : Facts b s m
  facts = offline_facts b s m can.offline

  r : LentFacts s l
  r = lent_facts s l can.lent

  pub few_points : m ≤ 8
  few_points = facts.few_points

  pub sized : SizesInOrder s
  sized = facts.in_order

  pub string_fits : suc (length b) + records_at s m ≤ most_string
  string_fits = omega (arith, facts.long, facts.few_points, records_high s facts.in_order m facts.few_points)

  -- the question's length
  pub asked_long : question_length s m ≤ most_question
  asked_long = omega (arith, facts.in_order.η-high, facts.in_order.ℓ-high, facts.few_points)

  pub sum_ask : (question o : Bytes) → length question ≡ question_length s m → records_at s m ≤ length o
      → CanSum question s m l.coefficients l.tails l.blinds l.masks o
  sum_ask question o f h = record {
    points = facts.few_points;
    long = f;
    combine = record {
      extend = record { laid = record { sizes = facts.in_order; coefficients_length = r.c_length; blinds_length = r.b_length; blinds_below = r.b_below }; tails-length = r.t_length };
      coefficients_below = r.c_below;
      tails_below = r.t_below;
    };
    masks_length = r.m_length;
    room = h;
  }

  abbrev ext : List (List ℕ)
  ext = extended_rows s l

  -- the sums take nothing but sizes, challenges and points from the question
  sums-drawn : (is : List ℕ) → sums (question_at (header_sizes b) (header_points b) (drawn_bytes b is)) ext l.masks ≡ sums (drawn b []) ext l.masks
  unfolding sums
  sums-drawn is = ap₂ (λ (γ zs : List ℕ). sums (record { sizes = header_sizes b; m = header_points b; root = []; salt = []; challenges = γ; evaluation_points = zs; indices = [] }) ext l.masks)
      (challenges_back b 0 facts.asked is) (points-back b 0 facts.asked is)

  pub answers_put : (is : List ℕ) (question o o₁ : Bytes) → question ≡ drawn_bytes b is → o₁ ≡ sums (question_at s m question) ext l.masks ++ drop (records_at s m) o
      → o₁ ≡ proved_answers b l ++ drop (records_at s m) o
  unfolding proved_answers
  answers_put is question o o₁ e h =
      let same : sums (question_at s m question) ext l.masks ≡ sums (question_at (header_sizes b) (header_points b) (drawn_bytes b is)) ext l.masks =
      ap₂ (λ (t : Sizes) (n : ℕ). sums (question_at t n question) ext l.masks) (sym can.offline.sizes) (sym can.offline.points)
      ∙ ap (λ (x : Bytes). sums (question_at (header_sizes b) (header_points b) x) ext l.masks) e in
      h ∙ ap (λ (t : Bytes). t ++ drop (records_at s m) o)
      (same ∙ sums-drawn is
      ∙ ap (λ (es : List (List ℕ)). sums (drawn b []) es l.masks) (ap (λ (t : Sizes). extended_rows t l) (sym can.offline.sizes))
      ∙ sums-opened (drawn b []) l)

  -- ---- the string: prefix and question, and the answers through the part that begins after them

  pub string_put : (string o₁ o₂ : Bytes) (at : ℕ) → at ≡ length b + 1 → suc (length b) + records_at s m ≤ length string
      → o₁ ≡ (3 ∷ b) ++ drop (suc (length b)) string
      → o₂ ≡ proved_answers b l ++ drop (records_at s m) (take (length o₁ - at) (drop at o₁))
      → put_mid at (length o₁ - at) o₁ o₂ ≡ (3 ∷ (b ++ proved_answers b l)) ++ drop (at + records_at s m) string
  string_put string o₁ o₂ at ea room h₁ h₂ =
      let size : length (3 ∷ b) ≡ at = omega (arith, ea) in
      let rest : drop at o₁ ≡ drop at string = ap (drop at) h₁ ∙ drop_at (3 ∷ b) (drop (suc (length b)) string) at size ∙ ap (λ (n : ℕ). drop n string) size in
      put_tail at o₁ o₂
      ∙ ap₂ (λ (x y : Bytes). x ++ y)
      (ap (take at) h₁ ∙ take_at (3 ∷ b) (drop (suc (length b)) string) at size)
      (h₂ ∙ ap (λ (t : Bytes). proved_answers b l ++ drop (records_at s m) t) (mid_tail at o₁ ∙ rest) ∙ ap (λ (t : Bytes). proved_answers b l ++ t) (drop-drop (records_at s m) at string))
      ∙ sym (append_assoc (3 ∷ b) (proved_answers b l) (drop (at + records_at s m) string))

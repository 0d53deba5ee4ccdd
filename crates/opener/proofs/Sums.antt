-- The first two parts of a reply: batching answers, evaluation answers.
use mathlib.Core.Path.{◌≡◌, refl, sym, ap, ap₂, ◌∙◌, subst}
use mathlib.Core.List.{List, ◌++◌, map, flatten}
use Prim.Native.Nat.{ℕ, ◌+◌, ◌*◌, ◌≤◌}
use native.Mathlib.Nat.{zero-add}
use native.Mathlib.Omega.{arith}
use lib.ListN.{length, drop, length-map, length-append}
use Rattle.lists.specs.All.{all_each}
use Rattle.lists.specs.Bytes.{Bytes, words, bytes_of, length-bytes_of, length-words}
use Rattle.lists.specs.Pieces.{length-flatten}
use Rattle.lists.specs.Range.{up_from, length-up_from}
use Rattle.algebra.specs.Pairs.{points_end}
use Rattle.scheme.specs.Sizes.{Sizes, SizesInOrder, leaves, width}
use Rattle.scheme.specs.Layers.{Lent, extended_rows}
use Rattle.scheme.specs.Question.{Question, challenges_at, points_at, question_at}
use Rattle.scheme.specs.Reply.{records_at, answers_at}
use Rattle.scheme.specs.Open.{opened_batching, opened_answers}
use Rattle.scheme.proofs.Accepted.{leaves-high}
use Rattle.scheme.proofs.HonestAnswers.{combination-length}
use Rattle.lists.specs.Spliced.{spliced_more, spliced}
use Rattle.answers.specs.Answers.{CanCombine, batching_at, answer_at}
use Rattle.opener.specs.Parts.{CanSum, sums}
use Rattle.commitment.proofs.Places.{width-high}

answers_length_lem : (f : ℕ → List ℕ) (xs : List ℕ) (n : ℕ) → ((x : ℕ) → length (f x) ≡ n) → length (bytes_of (flatten (map f xs))) ≡ 4 * n * length xs
answers_length_lem f xs n sized =
    length-bytes_of (flatten (map f xs))
    ∙ ap (λ (k : ℕ). 4 * k) (length-flatten n (map f xs) (all_each (λ (y : List ℕ). length y ≡ n) f xs sized) ∙ ap (λ (k : ℕ). n * k) (length-map xs f))
    ∙ omega arith

-- two parts, the first from the start on
two_parts : (a b : ℕ) (x y o o₁ o₂ : Bytes) → length x ≡ a → a + b ≤ length o → o₁ ≡ spliced 0 a x o → o₂ ≡ spliced a b y o₁ → o₂ ≡ (x ++ y) ++ drop (a + b) o
two_parts a b x y o o₁ o₂ e l h₁ h₂ =
    h₂
    ∙ ap₂ (λ (k : ℕ) (z : Bytes). spliced k b y z) (sym (zero-add a)) h₁
    ∙ spliced_more 0 a x o e (omega arith) b y
    ∙ ap (λ (k : ℕ). (x ++ y) ++ drop k o) (zero-add (a + b))

module _ (t : Sizes) (m : ℕ) (question : Bytes) (l : Lent) (o : Bytes) (can : CanSum question t m l.coefficients l.tails l.blinds l.masks o) where
  abbrev es : List (List ℕ)
  es = extended_rows t l

  abbrev masks : List ℕ
  masks = l.masks

  g : SizesInOrder t
  g = can.combine.extend.laid.sizes

  pub batchings_ask : (n first from : ℕ) → n ≡ width t → first ≡ leaves t → from ≡ challenges_at
      → CanCombine t l.coefficients l.tails l.blinds × (n ≡ width t) × (first + n ≤ points_end) × (length masks ≡ t.η * n) × (from + 4 * t.η ≤ length question) × (0 + 4 * n * t.η ≤ length o)
  batchings_ask n first from e f h = (
    can.combine,
    e,
    omega (arith, e, f, leaves-high t g, width-high t g),
    can.masks_length ∙ ap (λ (k : ℕ). t.η * k) (sym e),
    omega (arith, h, can.long),
    subst (λ (k : ℕ). 0 + 4 * k * t.η ≤ length o) (sym e) (omega (arith, can.room)),
  )

  pub answers_ask : (n from at : ℕ) (o₁ : Bytes) → n ≡ width t → from ≡ points_at t → at ≡ answers_at t → length o₁ ≡ length o
      → CanCombine t l.coefficients l.tails l.blinds × (n ≡ width t) × (from + 4 * m ≤ length question) × (at + 4 * n * m ≤ length o₁)
  answers_ask n from at o₁ e f h k = (
    can.combine,
    e,
    omega (arith, f, can.long),
    subst (λ (j : ℕ). at + 4 * j * m ≤ length o₁) (sym e) (omega (arith, h, k, can.room)),
  )

  -- what the two loops leave
  abbrev Left : ℕ → ℕ → ℕ → ℕ → ℕ → Bytes → Bytes → Type 0
  Left n first challenges points at o₁ o₂ =
      (o₁ ≡ spliced 0 (4 * n * t.η) (bytes_of (flatten (map (batching_at first n es masks (words t.η (drop challenges question))) (up_from 0 t.η)))) o)
      → (o₂ ≡ spliced at (4 * n * m) (bytes_of (flatten (map (answer_at n es) (words m (drop points question))))) o₁)
      → o₂ ≡ sums (question_at t m question) es masks ++ drop (records_at t m) o

  left : (o₁ o₂ : Bytes) → Left (width t) (leaves t) challenges_at (points_at t) (answers_at t) o₁ o₂
  unfolding sums
  left o₁ o₂ h₁ h₂ =
      let f : ℕ → List ℕ = batching_at (leaves t) (width t) es masks (words t.η (drop challenges_at question)) in
      two_parts (4 * width t * t.η) (4 * width t * m) (bytes_of (flatten (map f (up_from 0 t.η)))) _ o o₁ o₂
      (answers_length_lem f (up_from 0 t.η) (width t) (λ k. combination-length (width t) _ _) ∙ ap (λ (k : ℕ). 4 * width t * k) (length-up_from 0 t.η))
      can.room h₁ h₂

  pub sums_are : (n first challenges points at : ℕ) (o₁ o₂ : Bytes) → n ≡ width t → first ≡ leaves t → challenges ≡ challenges_at → points ≡ points_at t → at ≡ answers_at t
      → Left n first challenges points at o₁ o₂
  sums_are n first challenges points at o₁ o₂ en ef ec ep ea =
      subst (λ (k : ℕ). Left n first challenges points k o₁ o₂) (sym ea)
      (subst (λ (k : ℕ). Left n first challenges k (answers_at t) o₁ o₂) (sym ep)
      (subst (λ (k : ℕ). Left n first k (points_at t) (answers_at t) o₁ o₂) (sym ec)
      (subst (λ (k : ℕ). Left n k challenges_at (points_at t) (answers_at t) o₁ o₂) (sym ef)
      (subst (λ (k : ℕ). Left k (leaves t) challenges_at (points_at t) (answers_at t) o₁ o₂) (sym en) (left o₁ o₂)))))

pub sums-length : (t : Sizes) (m : ℕ) (question : Bytes) (es : List (List ℕ)) (masks : List ℕ) → length (sums (question_at t m question) es masks) ≡ records_at t m
unfolding sums
sums-length t m question es masks =
    let f : ℕ → List ℕ = batching_at (leaves t) (width t) es masks (words t.η (drop challenges_at question)) in
    let g : ℕ → List ℕ = answer_at (width t) es in
    let zs : List ℕ = words m (drop (points_at t) question) in
    length-append (bytes_of (flatten (map f (up_from 0 t.η)))) (bytes_of (flatten (map g zs)))
    ∙ ap₂ ◌+◌
    (answers_length_lem f (up_from 0 t.η) (width t) (λ k. combination-length (width t) _ _) ∙ ap (λ (k : ℕ). 4 * width t * k) (length-up_from 0 t.η))
    (answers_length_lem g zs (width t) (λ z. combination-length (width t) z _) ∙ ap (λ (k : ℕ). 4 * width t * k) (length-words m (drop (points_at t) question)))

-- they are the reply's first two parts
pub sums-opened : (u : Question) (l : Lent) → sums u (extended_rows u.sizes l) l.masks ≡ bytes_of (flatten (opened_batching u l)) ++ bytes_of (flatten (opened_answers u l))
unfolding sums
sums-opened u l = refl

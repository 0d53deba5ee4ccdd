-- 3 over a reply: batching answers and evaluation answers stand one after the other, and are tested as one.
use mathlib.Core.Path.{◌≡◌, sym, ap, ap₂, ◌∙◌}
use mathlib.Core.Bool.{Bool, true, false, ◌&&◌}
use mathlib.Core.List.{◌++◌}
use Prim.Native.Nat.{ℕ, ◌+◌, ◌*◌, ◌≤◌}
use native.Mathlib.Nat.{mul-le-mul}
use native.Mathlib.Omega.{arith}
use lib.Dec.{ltb}
use lib.ListN.{length, drop}
use Rattle.algebra.specs.Prime.{q}
use Rattle.lists.specs.Bytes.{Bytes, words}
use Rattle.lists.specs.Choice.{and_assoc, and_right}
use Rattle.lists.specs.Numbers.{numbers_more}
use Rattle.lists.specs.Tests.{every, each, all_join}
use Rattle.scheme.specs.Sizes.{Sizes, SizesInOrder, elements, width, record_values, most_points}
use Rattle.scheme.specs.Question.{Question}
use Rattle.scheme.specs.Reply.{read_reply, answers_at, records_at, record_length, nodes_at}
use Rattle.scheme.specs.Check.{reply_elements}
use Rattle.reply_elements.specs.Elements.{record_elements_at}
use Rattle.reply_tests.specs.Words.{batching_words, answer_words, leaf_elements_at}
use Rattle.reply_tests.proofs.ReplyTests.{elements_are}
use Rattle.commitment.proofs.Places.{width-high}
use Rattle.proof_checker.specs.Parts.{elements_in}

pub elements_in_lem : (u : Question) (reply : Bytes) → elements_in u.sizes u.m reply ≡ reply_elements u (read_reply u reply)
unfolding elements_in every
elements_in_lem u reply =
    let s : Sizes = u.sizes in
    let w : ℕ = width s in
    let sum : w * (s.η + u.m) ≡ w * s.η + w * u.m = omega arith in
    let at : 0 + 4 * (w * s.η) ≡ answers_at s = omega arith in
    let records : Bool = each s.ℓ (leaf_elements_at u reply) in
    let both : words (w * (s.η + u.m)) reply ≡ batching_words u reply ++ answer_words u reply =
    ap (λ (n : ℕ). words n reply) sum
    ∙ numbers_more 4 (w * s.η) (w * u.m) 0 reply
    ∙ ap (λ (k : ℕ). batching_words u reply ++ words (w * u.m) (drop k reply)) at in
    ap (λ (t : Bool). t && records) (ap elements both ∙ all_join (λ x. ltb x q) (batching_words u reply) (answer_words u reply))
    ∙ and_assoc (elements (batching_words u reply)) (elements (answer_words u reply)) records
    ∙ ap (λ (t : Bool). elements (batching_words u reply) && (elements (answer_words u reply) && t)) (sym (and_right records))
    ∙ elements_are u reply

-- ---- as the code tests it, where `wide` is the length of an answer

module _ (s : Sizes) (m : ℕ) (reply : Bytes) (wide : ℕ) (e : wide ≡ width s) where
  pub answers_few : SizesInOrder s → m ≤ most_points → wide * (s.η + m) ≤ 3840
  answers_few g l = mul-le-mul {n₂ = 320} {m₂ = 12} (omega (arith, e, width-high s g)) (omega (arith, g.η-high, l))

  pub answers_inside : nodes_at s m ≤ length reply → 0 + 4 * (wide * (s.η + m)) ≤ length reply
  answers_inside l = let f : wide * (s.η + m) ≡ width s * (s.η + m) = ap (λ (w : ℕ). w * (s.η + m)) e in omega (arith, f, l)

  module _ (t : Bool) (h : t ≡ elements (words (wide * (s.η + m)) reply)) where
    answers_tested : t ≡ elements (words (width s * (s.η + m)) reply)
    answers_tested = h ∙ ap (λ (w : ℕ). elements (words (w * (s.η + m)) reply)) e

    pub answer_fails : t ≡ false → false ≡ elements_in s m reply
    unfolding elements_in
    answer_fails f = ap (λ (b : Bool). b && each s.ℓ (record_elements_at (records_at s m) (record_length s) (record_values s) reply)) (sym f ∙ answers_tested)

    pub records_decide : t ≡ true → (at size n : ℕ) (r : Bool) → at ≡ records_at s m → size ≡ record_length s → n ≡ record_values s
        → r ≡ each s.ℓ (record_elements_at at size n reply) → r ≡ elements_in s m reply
    unfolding elements_in
    records_decide f at size n r ea es en er =
        er
        ∙ ap₂ (λ (i j : ℕ). each s.ℓ (record_elements_at i j n reply)) ea es
        ∙ ap (λ (k : ℕ). each s.ℓ (record_elements_at (records_at s m) (record_length s) k reply)) en
        ∙ ap (λ (b : Bool). b && each s.ℓ (record_elements_at (records_at s m) (record_length s) (record_values s) reply)) (sym f ∙ answers_tested)

pub records_inside : (s : Sizes) (m : ℕ) (reply : Bytes) (at size n : ℕ) → at ≡ records_at s m → size ≡ record_length s → n ≡ record_values s → nodes_at s m ≤ length reply
    → (at + size * s.ℓ ≤ length reply) × (4 * n ≤ size)
records_inside s m reply at size n ea es en l =
    let f : size * s.ℓ ≡ record_length s * s.ℓ = ap (λ (k : ℕ). k * s.ℓ) es in (omega (arith, ea, f, l), omega (arith, es, en))

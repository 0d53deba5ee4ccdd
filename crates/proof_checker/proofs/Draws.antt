-- The string that is drawn from, as the code writes it, and what is drawn from it.
use mathlib.Core.Path.{◌≡◌, refl, sym, ap, ap₂, ◌∙◌}
use mathlib.Core.List.{[], ◌∷◌, ◌++◌, append_assoc, append-nil}
use Prim.Native.Nat.{ℕ, suc, ◌+◌, ◌-◌, ◌*◌, ◌≤◌}
use native.Mathlib.Nat.{zero-add}
use native.Mathlib.Omega.{arith}
use lib.ListN.{length, take, drop, length-append, length-drop, drop_of_length-le}
use lib.Seq.{length-take-le}
use Rattle.sponge.specs.Draw.{draw}
use Rattle.lists.specs.Bytes.{Bytes, doubles}
use Rattle.lists.specs.Spliced.{spliced, spliced_more}
use Rattle.scheme.specs.Sizes.{Sizes, SizesInOrder, leaves}
use Rattle.scheme.specs.Reply.{records_at}
use Rattle.fiat_shamir.specs.Draw.{draw_string, leaf_draw, ranks_at, drawn_indices}
use Rattle.fiat_shamir.specs.Ranks.{drawn_into}
use Rattle.fiat_shamir.specs.Prove.{counter_length}
use Rattle.fiat_shamir.specs.CheckProof.{proof_counter, proof_reply, proof_draw, proof_indices}
use Rattle.fiat_shamir.proofs.Counter.{leaf_draw-length}
use Rattle.fiat_shamir.proofs.Ranks.{drawn_by_ranks}
use Rattle.offline_question.specs.Offline.{Offline}
use Rattle.proof_checker.specs.Parts.{drawn_from}

-- three parts, one after the other, in room for just them
three_parts : (a b c : Bytes) (i j : ℕ) (o o₁ o₂ o₃ : Bytes) → i ≡ length a → j ≡ i + length b → length o ≡ j + length c
    → o₁ ≡ a ++ drop (length a) o → o₂ ≡ spliced i (length b) b o₁ → o₃ ≡ spliced j (length c) c o₂ → o₃ ≡ a ++ (b ++ c)
three_parts a b c i j o o₁ o₂ o₃ ei ej en h₁ h₂ h₃ =
    let one : o₁ ≡ spliced 0 (length a) a o = h₁ ∙ ap (λ (n : ℕ). a ++ drop n o) (sym (zero-add (length a))) in
    let j-is : j ≡ 0 + (length a + length b) = omega (arith, ei, ej) in
    let ab : length (a ++ b) ≡ length a + length b = length-append a b in
    let two : o₂ ≡ spliced 0 (length a + length b) (a ++ b) o =
    h₂ ∙ ap₂ (λ (p : ℕ) (t : Bytes). spliced p (length b) b t) (ei ∙ sym (zero-add (length a))) one
    ∙ spliced_more 0 (length a) a o refl (omega (arith, ei, ej, en)) (length b) b in
    let whole : length o ≤ 0 + (length a + length b + length c) = omega (arith, ei, ej, en) in
    h₃ ∙ ap₂ (λ (p : ℕ) (t : Bytes). spliced p (length c) c t) j-is two
    ∙ spliced_more 0 (length a + length b) (a ++ b) o ab (omega (arith, ei, ej, en)) (length c) c
    ∙ ap (λ (t : Bytes). ((a ++ b) ++ c) ++ t) (drop_of_length-le o whole)
    ∙ append-nil ((a ++ b) ++ c)
    ∙ append_assoc a b c

-- the parts of a proof of enough bytes
module _ (proof : Bytes) (answers : ℕ) (fit : counter_length + answers ≤ length proof) where
  pub counter_length_lem : length (proof_counter proof) ≡ counter_length
  counter_length_lem = length-take-le counter_length proof (omega arith)

  answers_length_lem : length (take answers (proof_reply proof)) ≡ answers
  answers_length_lem = length-take-le answers (proof_reply proof) (omega (arith, length-drop counter_length proof))

  pub answers_part : take (counter_length + answers - counter_length) (proof_reply proof) ≡ take answers (proof_reply proof)
  answers_part = let e : counter_length + answers - counter_length ≡ answers = omega arith in ap (λ (n : ℕ). take n (proof_reply proof)) e

  -- the string: 0x03 and the question, the answers, the counter
  pub string_put : (question x o o₁ o₂ o₃ : Bytes) → length o ≡ length question + 1 + answers + counter_length → x ≡ take answers (proof_reply proof)
      → o₁ ≡ (3 ∷ question) ++ drop (suc (length question)) o → o₂ ≡ spliced (length question + 1) (length x) x o₁
      → o₃ ≡ spliced (length question + 1 + answers) (length (proof_counter proof)) (proof_counter proof) o₂
      → o₃ ≡ draw_string question (take answers (proof_reply proof)) (proof_counter proof)
  unfolding draw_string
  string_put question x o o₁ o₂ o₃ size ex h₁ h₂ h₃ =
      let lx : length x ≡ answers = ap length ex ∙ answers_length_lem in
      three_parts (3 ∷ question) x (proof_counter proof) (length question + 1) (length question + 1 + answers) o o₁ o₂ o₃
      (omega arith) (omega (arith, lx)) (omega (arith, size, counter_length_lem)) h₁ h₂ h₃
      ∙ ap (λ (t : Bytes). 3 ∷ (question ++ (t ++ proof_counter proof))) ex

-- ---- what is drawn

module _ (question proof : Bytes) (s : Sizes) (m : ℕ) (o : Offline question s m) where
  pub draw_is : (answers n : ℕ) → answers ≡ records_at s m → n ≡ ranks_at + 8 * s.ℓ → drawn_from question answers proof n ≡ proof_draw question proof
  unfolding drawn_from proof_draw leaf_draw
  draw_is answers n ea en =
      ap₂ (λ (a k : ℕ). draw (draw_string question (take a (proof_reply proof)) (proof_counter proof)) k)
      (ea ∙ sym (ap₂ records_at o.sizes o.points))
      (en ∙ ap (λ (t : Sizes). ranks_at + 8 * t.ℓ) (sym o.sizes))

  pub leaves_are : SizesInOrder s → (n l : ℕ) (x : Bytes) → n ≡ leaves s → l ≡ s.ℓ → x ≡ proof_draw question proof
      → drawn_into n [] (doubles l (drop ranks_at x)) ≡ proof_indices question proof
  leaves_are g n l x en el ex =
      ap₂ (λ (k j : ℕ). drawn_into k [] (doubles j (drop ranks_at x))) en el
      ∙ sym (drawn_by_ranks s g x)
      ∙ ap₂ drawn_indices (sym o.sizes) ex

  pub draw-length : (x : Bytes) → x ≡ proof_draw question proof → length x ≡ ranks_at + 8 * s.ℓ
  unfolding proof_draw
  draw-length x e = ap length e ∙ leaf_draw-length question _ _ ∙ ap (λ (t : Sizes). ranks_at + 8 * t.ℓ) o.sizes

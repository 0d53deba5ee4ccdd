-- The check of a proof by its parts: its draw, where the place at which its answers end is known, and the tests where its counter does not qualify.
use Rattle.std.specs.Prelude.{Bool, true, not, ◌&&◌, List, [], ◌∷◌, ℕ, ◌+◌, ◌*◌, eqb, length, take}
use Rattle.sponge.specs.Draw.{draw}
use Rattle.lists.specs.Bytes.{Bytes, words}
use Rattle.lists.specs.Tests.{verdict_of, each}
use Rattle.tree.specs.Sets.{missing}
use Rattle.scheme.specs.Sizes.{Sizes, elements, width, record_values}
use Rattle.scheme.specs.Reply.{record_length, records_at, nodes_at}
use Rattle.reply_elements.specs.Elements.{record_elements_at}
use Rattle.fiat_shamir.specs.Draw.{draw_string}
use Rattle.fiat_shamir.specs.CheckProof.{proof_counter, proof_reply}

-- n bytes drawn for a question and a proof whose answers have so many bytes
unfoldable pub drawn_from : Bytes → ℕ → Bytes → ℕ → Bytes
drawn_from question answers proof n = draw (draw_string question (take answers (proof_reply proof)) (proof_counter proof)) n

-- the words of a reply are elements, its answers as one list
unfoldable pub elements_in : Sizes → ℕ → Bytes → Bool
elements_in s m reply =
    elements (words (width s * (s.η + m)) reply)
    && each s.ℓ (record_elements_at (records_at s m) (record_length s) (record_values s) reply)

-- the verdict where the counter does not qualify: 7 and 3 come first
unfoldable pub unqualified : Sizes → ℕ → List ℕ → Bytes → ℕ
unqualified s m indices reply =
    verdict_of
    ((7, not (eqb (length reply) (nodes_at s m + 32 * length (missing 2 s.h indices))))
    ∷ (3, not (elements_in s m reply))
    ∷ (12, true)
    ∷ [])

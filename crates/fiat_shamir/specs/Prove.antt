-- Proving: its tests, and the proof for a question.
use Rattle.std.specs.Prelude.{Bool, not, ℕ, ◌+◌, eqb, length, drop}
use mathlib.Core.List.{List, [], ◌∷◌, ◌++◌, flatten}
use Rattle.lists.specs.Choice.{pick}
use Rattle.lists.specs.Least.{least}
use Rattle.lists.specs.Bytes.{Bytes, little_endian, bytes_of}
use Rattle.lists.specs.Tests.{Test, verdict_of, every, each}
use Rattle.scheme.specs.Sizes.{Sizes}
use Rattle.scheme.specs.Layers.{Lent}
use Rattle.scheme.specs.Question.{Question, header_sizes, header_points}
use Rattle.scheme.specs.Reply.{reply_bound, reply_length}
use Rattle.scheme.specs.Commit.{lent_ok, filled_ok, after}
use Rattle.scheme.specs.Open.{opened_batching, opened_answers, reply_of, words_ok, names_ok}
use Rattle.fiat_shamir.specs.Offline.{offline_root, offline_salt, offline_tests}
use Rattle.fiat_shamir.specs.Draw.{leaf_draw, qualifies, drawn_indices, drawn}

-- batching answers and evaluation answers as bytes of the reply: they do not depend on the leaves
unfoldable pub proved_answers : Bytes → Lent → Bytes
proved_answers question l = bytes_of (flatten (opened_batching (drawn question []) l)) ++ bytes_of (flatten (opened_answers (drawn question []) l))

-- the counter in a proof, and its bytes
abbrev pub counter_length : ℕ
counter_length = 4

abbrev pub counter_bytes : ℕ → Bytes
counter_bytes c = little_endian counter_length c

-- the draw for counter c, and whether it qualifies
abbrev pub counter_draw : Bytes → Lent → ℕ → Bytes
counter_draw question l c = leaf_draw question (proved_answers question l) (counter_bytes c)

abbrev pub counter_ok : Bytes → ℕ → Lent → ℕ → Bool
counter_ok question κ l c = qualifies κ (counter_draw question l c)

-- the question drawn with counter c, and the proof: the counter, then the reply
abbrev pub counter_question : Bytes → Lent → ℕ → Question
counter_question question l c = drawn question (drawn_indices (header_sizes question) (counter_draw question l c))

abbrev pub proof_length : Bytes → Lent → ℕ → ℕ
proof_length question l c = counter_length + reply_length (counter_question question l c)

unfoldable pub proof_of : Bytes → Lent → List ℕ → Bytes → ℕ → Bytes
proof_of question l table nodes c = counter_bytes c ++ reply_of (counter_question question l c) l table nodes

-- the prover's buffer: four bytes longer than a reply with ℓ·h nodes
abbrev pub proof_bound : Bytes → ℕ
proof_bound question = counter_length + reply_bound (header_sizes question) (header_points question)

-- its tests
unfoldable pub prove_tests : Bytes → ℕ → ℕ → Lent → List ℕ → Bytes → Bytes → List Test
prove_tests question κ limit l table nodes buffer =
    let s : Sizes = header_sizes question in
    offline_tests question κ
    ++ ((2, not (every (lent_ok s l ∷ filled_ok s table nodes ∷ eqb (length buffer) (proof_bound question) ∷ [])))
    ∷ (3, not (words_ok l table))
    ∷ (8, not (names_ok (offline_root question) (offline_salt question) l nodes))
    ∷ (11, each limit (λ c. not (counter_ok question κ l c)))
    ∷ [])

unfoldable pub prove_verdict : Bytes → ℕ → ℕ → Lent → List ℕ → Bytes → Bytes → ℕ
prove_verdict question κ limit l table nodes buffer = verdict_of (prove_tests question κ limit l table nodes buffer)

-- what proving does, with the least counter that qualifies: its verdict, the proof's length (0 with a refusal), and the buffer,
-- whose bytes after the proof stay
unfoldable pub proving : Bytes → ℕ → ℕ → Lent → List ℕ → Bytes → Bytes → ℕ × ℕ × Bytes
proving question κ limit l table nodes buffer =
    let v : ℕ = prove_verdict question κ limit l table nodes buffer in
    let c : ℕ = least limit (counter_ok question κ l) in
    (v, pick (eqb v 0) (proof_length question l c) 0, after v (proof_of question l table nodes c ++ drop (proof_length question l c) buffer) buffer)

-- its entry for C, where the length is lent: a refusal leaves it as it was
unfoldable pub proving_c : Bytes → ℕ → ℕ → Lent → List ℕ → Bytes → Bytes → ℕ → ℕ × ℕ × Bytes
proving_c question κ limit l table nodes buffer before =
    let r : ℕ × ℕ × Bytes = proving question κ limit l table nodes buffer in
    (r.0, pick (eqb r.0 0) r.1 before, r.2)

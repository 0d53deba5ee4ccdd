-- Checking a proof: its tests, and the values that it hands out.
use Rattle.std.specs.Prelude.{not, List, [], ◌∷◌, ◌++◌, ℕ, ◌+◌, ltb, length, take, drop}
use Rattle.lists.specs.Bytes.{Bytes, bytes_of}
use Rattle.lists.specs.Tests.{Test, verdict_of}
use Rattle.scheme.specs.Question.{Question, header_sizes, header_points}
use Rattle.scheme.specs.Reply.{read_reply, records_at}
use Rattle.scheme.specs.Commit.{after}
use Rattle.scheme.specs.Check.{reply_tests, buffer_test, check_values}
use Rattle.scheme.specs.Collect.{Entry, for_rust, for_c}
use Rattle.fiat_shamir.specs.Offline.{offline_tests}
use Rattle.fiat_shamir.specs.Draw.{leaf_draw, qualifies, drawn_indices, drawn, drawn_bytes}
use Rattle.fiat_shamir.specs.Prove.{counter_length}

-- a proof: the counter, then the reply, whose answers end where its records begin
abbrev pub proof_counter : Bytes → Bytes
proof_counter proof = take counter_length proof

abbrev pub proof_reply : Bytes → Bytes
proof_reply proof = drop counter_length proof

abbrev pub answers_length : Bytes → ℕ
answers_length question = records_at (header_sizes question) (header_points question)

-- the draw that a proof gives for a question, from the bytes as they stand
unfoldable pub proof_draw : Bytes → Bytes → Bytes
proof_draw question proof = leaf_draw question (take (answers_length question) (proof_reply proof)) (proof_counter proof)

-- the leaves and the question so drawn, and its bytes
abbrev pub proof_indices : Bytes → Bytes → List ℕ
proof_indices question proof = drawn_indices (header_sizes question) (proof_draw question proof)

abbrev pub proof_asks : Bytes → Bytes → Question
proof_asks question proof = drawn question (proof_indices question proof)

abbrev pub proof_question : Bytes → Bytes → Bytes
proof_question question proof = drawn_bytes question (proof_indices question proof)

-- 7 before leaves are drawn, for counter and answers; then the conversation's tests of the question so drawn and the reply: 7, 3, and 12 before the others
unfoldable pub proof_tests : Bytes → ℕ → Bytes → List Test
proof_tests question κ proof =
    let tests : List Test = reply_tests (proof_asks question proof) (proof_reply proof) in
    (7, ltb (length proof) (counter_length + answers_length question)) ∷ (take 2 tests ++ ((12, not (qualifies κ (proof_draw question proof))) ∷ drop 2 tests))

-- the verdict, where the value buffer has n elements, `unit` to a value
unfoldable pub check_proof_verdict : ℕ → Bytes → ℕ → Bytes → ℕ → ℕ
check_proof_verdict unit question κ proof n = verdict_of (offline_tests question κ ++ (buffer_test unit (drawn question []) n ∷ proof_tests question κ proof))

-- the values of an accepted proof
abbrev pub proof_values : Bytes → Bytes → List ℕ
proof_values question proof = check_values (proof_asks question proof) (read_reply (proof_asks question proof) (proof_reply proof))

-- what the check of a proof does: its verdict, and the value buffer, of words
unfoldable pub checking_proof : Bytes → ℕ → Bytes → List ℕ → ℕ × List ℕ
checking_proof question κ proof buffer =
    let v : ℕ = check_proof_verdict 1 question κ proof (length buffer) in
    (v, after v (proof_values question proof) buffer)

-- its entry for C, with a buffer of bytes
unfoldable pub checking_proof_c : Bytes → ℕ → Bytes → Bytes → ℕ × Bytes
checking_proof_c question κ proof buffer =
    let v : ℕ = check_proof_verdict 4 question κ proof (length buffer) in
    (v, after v (bytes_of (proof_values question proof)) buffer)

-- what each of the two entries does
abbrev pub does_proof : Entry → Bytes → ℕ → Bytes → List ℕ → ℕ × List ℕ
does_proof for_rust question κ proof buffer = checking_proof question κ proof buffer
does_proof for_c question κ proof buffer = checking_proof_c question κ proof buffer

-- Opening: its tests, and the reply to a question.
use Rattle.std.specs.Prelude.{Bool, not, ◌&&◌, ℕ, eqb, length, get_or}
use mathlib.Core.List.{List, [], ◌∷◌, ◌++◌, map, flatten}
use Rattle.lists.specs.Choice.{pick}
use Rattle.lists.specs.Range.{up_from}
use Rattle.lists.specs.Bytes.{Bytes, bytes_of}
use Rattle.tree.specs.Tree.{all_parts, opened}
use Rattle.lists.specs.Tests.{Test, verdict_of, every, same}
use Rattle.scheme.specs.Sizes.{elements, arity, levels}
use Rattle.scheme.specs.Layers.{Lent, batching_answer, evaluation_answer}
use Rattle.scheme.specs.Question.{Question, read_question, question_tests}
use Rattle.scheme.specs.Reply.{reply_length}
use Rattle.scheme.specs.Commit.{lent_ok, filled_ok, lent_elements, leaf_record, last_digest, after}

-- the reply: R_k for each repetition, an answer for each point, a record for each index, the missing nodes
abbrev pub opened_batching : Question → Lent → List (List ℕ)
opened_batching u l = map (λ k. batching_answer u.sizes l k (get_or u.challenges k 0)) (up_from 0 u.sizes.η)

abbrev pub opened_answers : Question → Lent → List (List ℕ)
opened_answers u l = map (evaluation_answer u.sizes l) u.evaluation_points

abbrev pub opened_records : Question → Lent → List ℕ → List Bytes
opened_records u l table = map (leaf_record u.sizes table l.nonces) u.indices

abbrev pub opened_nodes : Question → Bytes → List Bytes
opened_nodes u nodes = opened (arity u.sizes) (levels u.sizes) (all_parts nodes) u.indices

unfoldable pub reply_of : Question → Lent → List ℕ → Bytes → Bytes
reply_of u l table nodes =
    bytes_of (flatten (opened_batching u l))
    ++ (bytes_of (flatten (opened_answers u l)) ++ (flatten (opened_records u l table) ++ flatten (opened_nodes u nodes)))

-- 2: each lent slice has its length, and the buffer exactly the reply's
abbrev pub lengths_ok : Question → Lent → List ℕ → Bytes → Bytes → Bool
lengths_ok u l table nodes buffer = every (lent_ok u.sizes l ∷ filled_ok u.sizes table nodes ∷ eqb (length buffer) (reply_length u) ∷ [])

-- 3: each lent word is an element, those of the table too
abbrev pub words_ok : Lent → List ℕ → Bool
words_ok l table = every (elements table ∷ lent_elements l)

-- 8: a question with this root and this salt names the lent tree and the lent salt
abbrev pub names_ok : Bytes → Bytes → Lent → Bytes → Bool
names_ok root salt l nodes = same (last_digest nodes) root && same l.salt salt

unfoldable pub open_tests : Bytes → Lent → List ℕ → Bytes → Bytes → List Test
open_tests question l table nodes buffer =
    let u : Question = read_question question in
    question_tests question ++ ((2, not (lengths_ok u l table nodes buffer)) ∷ (3, not (words_ok l table)) ∷ (8, not (names_ok u.root u.salt l nodes)) ∷ [])

unfoldable pub open_verdict : Bytes → Lent → List ℕ → Bytes → Bytes → ℕ
open_verdict question l table nodes buffer = verdict_of (open_tests question l table nodes buffer)

-- what opening does: its verdict, the reply's length (0 with a refusal), and the buffer, which holds the reply and nothing else
unfoldable pub opening : Bytes → Lent → List ℕ → Bytes → Bytes → ℕ × ℕ × Bytes
opening question l table nodes buffer =
    let u : Question = read_question question in
    let v : ℕ = open_verdict question l table nodes buffer in
    (v, pick (eqb v 0) (reply_length u) 0, after v (reply_of u l table nodes) buffer)

-- its entry for C, where the length is lent: a refusal leaves it as it was
unfoldable pub opening_c : Bytes → Lent → List ℕ → Bytes → Bytes → ℕ → ℕ × ℕ × Bytes
opening_c question l table nodes buffer before =
    let r : ℕ × ℕ × Bytes = opening question l table nodes buffer in
    (r.0, pick (eqb r.0 0) r.1 before, r.2)

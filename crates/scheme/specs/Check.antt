-- Checking: its tests, and the values that it hands out.
use Rattle.std.specs.Prelude.{Bool, not, ℕ, ◌+◌, ◌-◌, ◌*◌, eqb, length, get_or}
use mathlib.Core.List.{List, [], ◌∷◌, ◌++◌, map, flatten}
use Rattle.sponge.specs.Digest.{digest}
use Rattle.lists.specs.Range.{up_from}
use Rattle.lists.specs.Bytes.{Bytes, bytes_of}
use Rattle.tree.specs.Tree.{root_from, hashed}
use Rattle.algebra.specs.Numbers.{eval_n, interp_n}
use Rattle.lists.specs.Tests.{Test, verdict_of, every, all, each, same}
use Rattle.scheme.specs.Sizes.{elements, arity, levels, node_prefix, points, leaf_point}
use Rattle.scheme.specs.Layers.{polynomial_values}
use Rattle.scheme.specs.Question.{Question, read_question, question_tests}
use Rattle.scheme.specs.Reply.{Reply, read_reply, reply_length, record_words, row_values, mask_value}
use Rattle.tree.specs.Leaf.{leaf_string}
use Rattle.scheme.specs.Commit.{after}

-- place a of a reply: the leaf that it opens, and its record
abbrev pub leaf_at : Question → ℕ → ℕ
leaf_at u a = get_or u.indices a 0

abbrev pub record_at : Reply → ℕ → Bytes
record_at r a = get_or r.records a []

abbrev pub challenge_of : Question → ℕ → ℕ
challenge_of u k = get_or u.challenges k 0

abbrev pub batching_of : Reply → ℕ → List ℕ
batching_of r k = get_or r.batching k []

abbrev pub point_of : Question → ℕ → ℕ
point_of u p = get_or u.evaluation_points p 0

abbrev pub answer_of : Reply → ℕ → List ℕ
answer_of r p = get_or r.answers p []

-- 3: R, answers and leaf values are elements
unfoldable pub reply_elements : Question → Reply → Bool
reply_elements u r = every (all elements r.batching ∷ all elements r.answers ∷ all (λ x. elements (record_words u.sizes x)) r.records ∷ [])

-- 8: the strings of the opened leaves, and the root that they and the missing nodes give
unfoldable pub leaf_strings : Question → Reply → List Bytes
leaf_strings u r = map (λ a. leaf_string u.salt (leaf_at u a) (record_at r a)) (up_from 0 u.sizes.ℓ)

unfoldable pub reply_root : Question → Reply → Bytes
reply_root u r = root_from digest (arity u.sizes) (node_prefix u.sizes u.salt) (levels u.sizes) u.indices (map digest (leaf_strings u r)) r.nodes

-- 9: at place a the batching answer k agrees with the opened values: R_k(e_i) = M_k(e_i) + γ_k P_0(e_i) + γ_k^2 P_1(e_i) + ..
unfoldable pub batching_at : Question → Reply → ℕ → ℕ → Bool
batching_at u r k a =
    let x : Bytes = record_at r a in
    eqb (eval_n (batching_of r k) (leaf_point (leaf_at u a))) (eval_n (mask_value u.sizes x k ∷ row_values u.sizes x) (challenge_of u k))

-- 10: at place a the polynomial T through answer p agrees with the opened values: T(e_i) is the sum of z^j P_j(e_i)
unfoldable pub evaluation_at : Question → Reply → ℕ → ℕ → Bool
evaluation_at u r p a =
    eqb (eval_n (interp_n (points u.sizes) (answer_of r p)) (leaf_point (leaf_at u a))) (eval_n (row_values u.sizes (record_at r a)) (point_of u p))

unfoldable pub reply_tests : Question → Bytes → List Test
reply_tests u reply =
    let r : Reply = read_reply u reply in
    (7, not (eqb (length reply) (reply_length u)))
    ∷ (3, not (reply_elements u r))
    ∷ (8, not (same (reply_root u r) u.root))
    ∷ (9, not (each u.sizes.η (λ k. each u.sizes.ℓ (batching_at u r k))))
    ∷ (10, not (each u.m (λ p. each u.sizes.ℓ (evaluation_at u r p))))
    ∷ []

-- 2: the value buffer has w m values, of `unit` elements each
abbrev pub buffer_test : ℕ → Question → ℕ → Test
buffer_test unit u n = (2, not (eqb n (unit * (u.sizes.w * u.m))))

-- the verdict, where the value buffer has n elements
unfoldable pub check_verdict : ℕ → Bytes → Bytes → ℕ → ℕ
check_verdict unit question reply n =
    let u : Question = read_question question in
    verdict_of (question_tests question ++ (buffer_test unit u n ∷ reply_tests u reply))

-- the polynomials' values, point by point
unfoldable pub check_values : Question → Reply → List ℕ
check_values u r = flatten (map (λ p. polynomial_values u.sizes (point_of u p) (answer_of r p)) (up_from 0 u.m))

-- what the check does: its verdict, and the value buffer, of words
unfoldable pub checking : Bytes → Bytes → List ℕ → ℕ × List ℕ
checking question reply buffer =
    let u : Question = read_question question in
    let v : ℕ = check_verdict 1 question reply (length buffer) in
    (v, after v (check_values u (read_reply u reply)) buffer)

-- its entry for C, with a buffer of bytes
unfoldable pub checking_c : Bytes → Bytes → Bytes → ℕ × Bytes
checking_c question reply buffer =
    let u : Question = read_question question in
    let v : ℕ = check_verdict 4 question reply (length buffer) in
    (v, after v (bytes_of (check_values u (read_reply u reply))) buffer)

-- the strings that an accepted call hashes: leaf strings, then node strings
unfoldable pub hashed_strings : Question → Reply → List Bytes
hashed_strings u r =
    leaf_strings u r
    ++ hashed digest (arity u.sizes) (node_prefix u.sizes u.salt) (levels u.sizes) u.indices (map digest (leaf_strings u r)) r.nodes

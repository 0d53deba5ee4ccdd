-- The question of a proof without a conversation: header, root, salt and points. Its challenges and its leaves are drawn.
use Rattle.std.specs.Prelude.{not, List, [], ◌∷◌, ◌++◌, ℕ, ◌+◌, ◌*◌, ltb, eqb, length, take, drop}
use Rattle.lists.specs.Bytes.{Bytes, words}
use Rattle.lists.specs.Tests.{Test, verdict_of}
use Rattle.tree.specs.Leaf.{salt_length}
use Rattle.scheme.specs.Sizes.{elements}
use Rattle.scheme.specs.Question.{header_length, header_points, header_tests, salt_at, challenges_at}

-- the points stand where a conversation's question has its challenges
abbrev pub offline_length : ℕ → ℕ
offline_length m = challenges_at + 4 * m

-- header, root and salt; the root, the salt, the points
abbrev pub header_root_salt : Bytes → Bytes
header_root_salt b = take challenges_at b

abbrev pub offline_root : Bytes → Bytes
offline_root b = take 32 (drop header_length b)

abbrev pub offline_salt : Bytes → Bytes
offline_salt b = take salt_length (drop salt_at b)

abbrev pub offline_points : Bytes → List ℕ
offline_points b = words (header_points b) (drop challenges_at b)

-- the most zero bits that may be asked of a draw
abbrev pub most_bits : ℕ
most_bits = 16

-- the question's tests: the header's, κ with the sizes, then length and elements
unfoldable pub offline_tests : Bytes → ℕ → List Test
offline_tests b κ =
    header_tests b
    ++ ((1, ltb most_bits κ)
    ∷ (6, not (eqb (length b) (offline_length (header_points b))))
    ∷ (3, not (elements (offline_points b)))
    ∷ [])

-- well formed: none of them holds
abbrev pub offline_verdict : Bytes → ℕ → ℕ
offline_verdict b κ = verdict_of (offline_tests b κ)

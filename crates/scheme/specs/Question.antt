-- A question: its bytes, what stands in them, and the tests that every entry makes first.
use Rattle.std.specs.Prelude.{not, ◌&&◌, List, [], ◌∷◌, ◌++◌, ℕ, ◌+◌, ◌*◌, ltb, eqb, length, get_or, take, drop}
use Rattle.lists.specs.Bytes.{Bytes, from_bytes, little_endian, halves, words}
use Rattle.lists.specs.Tests.{Test, verdict_of, all, same}
use Rattle.lists.specs.Rising.{rising}
use Rattle.tree.specs.Leaf.{salt_length}
use Rattle.scheme.specs.Sizes.{Sizes, leaves, sizes_ok, most_points, points_ok, elements}

-- "SWQ", and the version in two bytes
abbrev pub version : ℕ
version = 3

abbrev pub mark : Bytes
mark = 0x53 ∷ 0x57 ∷ 0x51 ∷ little_endian 2 version

-- mark, version, h, μ, ν, w, ℓ, η, m, β
abbrev pub header_length : ℕ
header_length = 15

abbrev pub header_sizes : Bytes → Sizes
header_sizes b = record {
  h = get_or b 5 0;
  μ = get_or b 6 0;
  ν = from_bytes (take 2 (drop 7 b));
  w = from_bytes (take 2 (drop 9 b));
  ℓ = get_or b 11 0;
  η = get_or b 12 0;
  β = get_or b 14 0;
}

abbrev pub header_points : Bytes → ℕ
header_points b = get_or b 13 0

-- what a question holds
pub record Question : Type 0 where
  pub sizes : Sizes
  pub m : ℕ
  pub root : Bytes
  pub salt : Bytes
  pub challenges : List ℕ
  pub evaluation_points : List ℕ
  pub indices : List ℕ

-- header, root 32, salt 32, challenges 4η, points 4m, indices 2ℓ: where each begins, and the length of all
abbrev pub salt_at : ℕ
salt_at = header_length + 32

abbrev pub challenges_at : ℕ
challenges_at = salt_at + salt_length

abbrev pub points_at : Sizes → ℕ
points_at s = challenges_at + 4 * s.η

abbrev pub indices_at : Sizes → ℕ → ℕ
indices_at s m = points_at s + 4 * m

abbrev pub question_length : Sizes → ℕ → ℕ
question_length s m = indices_at s m + 2 * s.ℓ

-- and the most bytes that it has where the sizes are in order: 4 challenges, 8 points, 64 indices
abbrev pub most_question : ℕ
most_question = challenges_at + 4 * 4 + 4 * most_points + 2 * 64

-- what the bytes hold, for sizes s and m points
abbrev pub question_at : Sizes → ℕ → Bytes → Question
question_at s m b = record {
  sizes = s;
  m = m;
  root = take 32 (drop header_length b);
  salt = take salt_length (drop salt_at b);
  challenges = words s.η (drop challenges_at b);
  evaluation_points = words m (drop (points_at s) b);
  indices = halves s.ℓ (drop (indices_at s m) b);
}

-- and for those that their header gives
unfoldable pub read_question : Bytes → Question
read_question b = question_at (header_sizes b) (header_points b) b

-- the header's tests
abbrev pub header_tests : Bytes → List Test
header_tests b =
    (6, ltb (length b) header_length)
    ∷ (5, not (same (take 5 b) mark))
    ∷ (1, not (sizes_ok (header_sizes b) && points_ok (header_points b)))
    ∷ []

-- the question's tests: the header's, then length, elements, indices
unfoldable pub question_tests : Bytes → List Test
question_tests b =
    let s : Sizes = header_sizes b in
    let u : Question = read_question b in
    header_tests b
    ++ ((6, not (eqb (length b) (question_length s (header_points b))))
    ∷ (3, not (elements (u.challenges ++ u.evaluation_points)))
    ∷ (4, not (rising u.indices && all (λ i. ltb i (leaves s)) u.indices))
    ∷ [])

-- well formed: none of them holds
abbrev pub question_verdict : Bytes → ℕ
question_verdict b = verdict_of (question_tests b)

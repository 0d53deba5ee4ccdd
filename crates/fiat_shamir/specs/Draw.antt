-- Challenges drawn by hashing: γ from header, root and salt; leaves from what is asked, what is answered, and a counter.
use Rattle.std.specs.Prelude.{Bool, ℕ, suc, ◌+◌, ◌-◌, ◌*◌, ◌/◌, ◌%◌, ◌^◌, eqb, get_or, take, drop}
use mathlib.Core.List.{List, [], ◌∷◌, ◌++◌, map, flatten}
use Rattle.sponge.specs.Digest.{digest}
use Rattle.sponge.specs.Draw.{draw}
use Rattle.lists.specs.Range.{up_from}
use Rattle.lists.specs.Sorted.{sorted}
use Rattle.lists.specs.Tabulate.{tabulate}
use Rattle.lists.specs.Bytes.{Bytes, little_endian, doubles, bytes_of}
use Rattle.lists.specs.Tests.{all}
use Rattle.algebra.specs.Prime.{q}
use Rattle.scheme.specs.Sizes.{Sizes, leaves, most_points, most_width}
use Rattle.scheme.specs.Question.{Question, header_sizes, header_points, challenges_at}
use Rattle.fiat_shamir.specs.Offline.{offline_length, header_root_salt, offline_root, offline_salt, offline_points}

-- ---- γ

-- the string for p, which is header, root and salt
abbrev pub challenge_string : Bytes → Bytes
challenge_string p = 2 ∷ p

-- from it the first η words of eight bytes, each modulo q. With η at most 4 they stand in the digest
unfoldable pub drawn_challenges : Bytes → List ℕ
drawn_challenges p = map (λ x. x % q) (doubles (header_sizes p).η (digest (challenge_string p)))

-- ---- the leaf draw for a question b, which is header, root, salt and points

-- then batching answers and evaluation answers as they stand in the reply, and the counter's four bytes
unfoldable pub draw_string : Bytes → Bytes → Bytes → Bytes
draw_string b answers counter = 3 ∷ (b ++ (answers ++ counter))

-- the most bytes of that string but for its counter: the prefix, a question of 8 points, 12 answers
abbrev pub most_string : ℕ
most_string = suc (offline_length most_points) + 4 * most_width * 12

-- where the words begin that name leaves, eight bytes each
abbrev pub ranks_at : ℕ
ranks_at = 32

unfoldable pub leaf_draw : Bytes → Bytes → Bytes → Bytes
leaf_draw b answers counter = draw (draw_string b answers counter) (ranks_at + 8 * (header_sizes b).ℓ)

-- the bits of some bytes, the top bit of the first byte first
unfoldable pub bits : Bytes → List ℕ
bits x = flatten (map (λ b. tabulate 8 (λ z. b / 2 ^ (7 - z) % 2)) x)

-- a counter qualifies: the first κ bits of its draw are zero
unfoldable pub qualifies : ℕ → Bytes → Bool
qualifies κ x = all (eqb 0) (take κ (bits x))

-- a list without its element i, from 0
unfoldable pub removed : ℕ → List ℕ → List ℕ
removed i xs = take i xs ++ drop (suc i) xs

-- of n unused indices each word, modulo their number, names one by rank
unfoldable pub chosen : ℕ → List ℕ → List ℕ → List ℕ
chosen n unused [] = []
chosen n unused (x ∷ xs) = get_or unused (x % n) 0 ∷ chosen (n - 1) (removed (x % n) unused) xs

-- the leaves: word j modulo N - j names one of those unused, and the set is put in rising order
unfoldable pub drawn_indices : Sizes → Bytes → List ℕ
drawn_indices s x = sorted (chosen (leaves s) (up_from 0 (leaves s)) (doubles s.ℓ (drop ranks_at x)))

-- ---- the question so drawn

-- what it holds
abbrev pub drawn : Bytes → List ℕ → Question
drawn b indices = record {
  sizes = header_sizes b;
  m = header_points b;
  root = offline_root b;
  salt = offline_salt b;
  challenges = drawn_challenges (header_root_salt b);
  evaluation_points = offline_points b;
  indices = indices;
}

-- its bytes, as a conversation has them: header, root, salt, γ, points, indices
unfoldable pub drawn_bytes : Bytes → List ℕ → Bytes
drawn_bytes b indices = header_root_salt b ++ (bytes_of (drawn_challenges (header_root_salt b)) ++ (drop challenges_at b ++ flatten (map (little_endian 2) indices)))

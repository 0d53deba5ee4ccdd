-- Honest calls: a badge that committed to s and l is asked for every run of ℓ leaves under each of μ + β + 1 challenges, and answers each time.
use Rattle.std.specs.Prelude.{◌≡◌, ℕ, suc, ◌-◌, ◌*◌, replicate}
use mathlib.Core.List.{List, [], ◌∷◌, ◌++◌, map, flatten, Memᴰ as Mem}
use Rattle.lists.specs.Range.{up_from}
use Rattle.lists.specs.Bytes.{Bytes, little_endian, bytes_of}
use Rattle.scheme.specs.Sizes.{Sizes, leaves, rows}
use Rattle.scheme.specs.Layers.{Lent, row_polynomials, batching_answer}
use Rattle.scheme.specs.Question.{mark, read_question}
use Rattle.scheme.specs.Commit.{table_of, tree_of, last_digest}
use Rattle.scheme.specs.Open.{reply_of}
use Rattle.scheme.specs.Collect.{Call, for_rust, Answered, NoCollision, Covered, Extracted}
use Rattle.scheme.specs.Honest.{true_values}

-- the bytes of a header and of a question
unfoldable pub header_bytes : Sizes → ℕ → Bytes
header_bytes s m = mark ++ (s.h ∷ s.μ ∷ (little_endian 2 s.ν ++ (little_endian 2 s.w ++ (s.ℓ ∷ s.η ∷ m ∷ s.β ∷ []))))

unfoldable pub question_bytes : Sizes → ℕ → Bytes → Bytes → List ℕ → List ℕ → List ℕ → Bytes
question_bytes s m root salt challenges points indices =
    header_bytes s m ++ (root ++ (salt ++ (bytes_of challenges ++ (bytes_of points ++ flatten (map (little_endian 2) indices)))))

-- the root of the commitment
abbrev pub committed_root : Sizes → Lent → Bytes
committed_root s l = last_digest (tree_of s l)

-- the challenge γ in every repetition, the point 0, and the ℓ leaves from j on
abbrev pub honest_question : Sizes → Lent → ℕ → ℕ → Bytes
honest_question s l γ j = question_bytes s 1 (committed_root s l) l.salt (replicate s.η γ) (0 ∷ []) (up_from j s.ℓ)

-- the check's call with the opener's reply
abbrev pub honest_call : Sizes → Lent → Bytes → Call
honest_call s l question = record {
  entry = for_rust;
  question = question;
  reply = reply_of (read_question question) l (table_of s l) (tree_of s l);
  before = replicate (s.w * (read_question question).m) 0;
  verdict = 0;
  after = true_values s l (read_question question).evaluation_points;
}

-- the μ + β + 1 challenges 0, 1, .., μ + β, and their answers in repetition 0
abbrev pub honest_challenges : Sizes → List ℕ
honest_challenges s = up_from 0 (suc (rows s))

abbrev pub honest_answers : Sizes → Lent → List (List ℕ)
honest_answers s l = map (batching_answer s l 0) (honest_challenges s)

-- the calls for one challenge, and all
unfoldable pub honest_runs : Sizes → Lent → ℕ → List Call
honest_runs s l γ = map (λ j. honest_call s l (honest_question s l γ j)) (up_from 0 (suc (leaves s - s.ℓ)))

unfoldable pub honest_calls : Sizes → Lent → List Call
honest_calls s l = flatten (map (honest_runs s l) (honest_challenges s))

-- These calls are as the contracts say and cover all N leaves under μ + β + 1 challenges. So demand 3's hypotheses can be met,
-- up to collisions, which nobody can rule out; and the rows that it then finds are the committed ones.
pub record HonestCollection (s : Sizes) (l : Lent) : Type 0 where
  pub answered : (c : Call) → Mem c (honest_calls s l) → Answered c
  pub covered : Covered (honest_calls s l) (header_bytes s 1) (committed_root s l) l.salt (up_from 0 (leaves s)) 0 (honest_challenges s) (honest_answers s l)
  pub found : NoCollision (honest_calls s l) (header_bytes s 1) (committed_root s l) l.salt
      → (e : Extracted (honest_calls s l) (header_bytes s 1) (committed_root s l) l.salt (up_from 0 (leaves s))) × (e.extracted ≡ row_polynomials s l)

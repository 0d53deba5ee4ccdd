-- What a salt is for: no string is hashed alike in two commitments whose salts differ.
use Rattle.std.specs.Prelude.{◌≡◌, true, ◌≢◌, ℕ, suc, ltb, get_or, take, drop}
use mathlib.Core.List.{List, [], ◌∷◌, ◌++◌, map, Memᴰ as Mem}
use Rattle.lists.specs.Choice.{pick}
use Rattle.lists.specs.Range.{up_from}
use Rattle.lists.specs.Bytes.{Bytes}
use Rattle.tree.specs.Leaf.{salt_length}
use Rattle.scheme.specs.Sizes.{Sizes}
use Rattle.scheme.specs.Layers.{Lent}
use Rattle.scheme.specs.Question.{read_question, question_verdict, salt_at}
use Rattle.scheme.specs.Reply.{read_reply}
use Rattle.scheme.specs.Commit.{lent_ok, committed_strings}
use Rattle.scheme.specs.Check.{hashed_strings}
use Rattle.fiat_shamir.specs.Offline.{header_root_salt, offline_salt, offline_verdict}
use Rattle.fiat_shamir.specs.Draw.{challenge_string, draw_string}
use Rattle.fiat_shamir.specs.Prove.{proved_answers, counter_bytes}
use Rattle.fiat_shamir.specs.CheckProof.{proof_counter, proof_reply, answers_length, proof_asks}

-- what hashes, and what it is given: committing, the check of a reply, proving with counters below a limit, the check of a proof. Sizing, opening and interpolating
-- hash nothing.
pub data Hashing : Type 0 where
  commits : Sizes → Lent → Hashing
  checks : (question reply : Bytes) → Hashing
  proves : (question : Bytes) (κ limit : ℕ) → Lent → Hashing
  checks_proof : (question : Bytes) (κ : ℕ) (proof : Bytes) → Hashing

-- the salt of its commitment: a prover that hashes is lent the question's, else it has said 8
abbrev pub salt_of : Hashing → Bytes
salt_of (commits s l) = l.salt
salt_of (checks question reply) = (read_question question).salt
salt_of (proves question κ limit l) = offline_salt question
salt_of (checks_proof question κ proof) = offline_salt question

-- the strings of the leaf draws for some counters, after that of the challenges
abbrev pub draw_strings : Bytes → Bytes → List Bytes → List Bytes
draw_strings question answers counters = challenge_string (header_root_salt question) ∷ map (draw_string question answers) counters

-- all strings that it may hash: those of leaves and nodes, and of draws
abbrev pub strings_of : Hashing → List Bytes
strings_of (commits s l) = committed_strings s l
strings_of (checks question reply) = hashed_strings (read_question question) (read_reply (read_question question) reply)
strings_of (proves question κ limit l) = draw_strings question (proved_answers question l) (map counter_bytes (up_from 0 limit))
strings_of (checks_proof question κ proof) =
    draw_strings question (take (answers_length question) (proof_reply proof)) (proof_counter proof ∷ [])
    ++ hashed_strings (proof_asks question proof) (read_reply (proof_asks question proof) (proof_reply proof))

-- before these tests are passed nothing is hashed: the lengths of what is lent, or the question's tests
abbrev pub Begun : Hashing → Type 0
Begun (commits s l) = lent_ok s l ≡ true
Begun (checks question reply) = question_verdict question ≡ 0
Begun (proves question κ limit l) = offline_verdict question κ ≡ 0
Begun (checks_proof question κ proof) = offline_verdict question κ ≡ 0

-- where a string has its salt: behind its first byte; in a draw's, which begins with 2 or 3, behind header and root
unfoldable pub salt_in : Bytes → Bytes
salt_in x = take salt_length (drop (pick (ltb (get_or x 0 0) 2) 1 (suc salt_at)) x)

pub record SaltsApart : Type 0 where
  -- every string tells its salt ..
  pub told : (a : Hashing) → Begun a → (x : Bytes) → Mem x (strings_of a) → salt_in x ≡ salt_of a
  -- .. so none is hashed under two: sizes, words, nonces, questions but for their salts, and replies may be the same
  pub apart : (a b : Hashing) → Begun a → Begun b → salt_of a ≢ salt_of b → (x : Bytes) → Mem x (strings_of a) → Mem x (strings_of b) → ⊥

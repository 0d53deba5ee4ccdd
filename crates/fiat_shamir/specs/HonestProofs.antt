-- Completeness of proofs: what is committed is proved with the least counter that qualifies, and the proof is accepted with the true values.
use Rattle.std.specs.Prelude.{◌≡◌, true, false, ◌⊎◌, List, ◌++◌, ℕ, ◌*◌, ◌≤◌, ◌<◌, length, drop}
use Rattle.lists.specs.Bytes.{Bytes, bytes_of}
use Rattle.scheme.specs.Sizes.{Sizes}
use Rattle.scheme.specs.Layers.{Lent}
use Rattle.scheme.specs.Question.{header_sizes, header_points}
use Rattle.scheme.specs.Commit.{table_of, tree_of, last_digest}
use Rattle.scheme.specs.Honest.{true_values, WellLent}
use Rattle.fiat_shamir.specs.Offline.{offline_root, offline_salt, offline_points, offline_verdict}
use Rattle.fiat_shamir.specs.Prove.{counter_ok, proof_length, proof_of, proof_bound, proving}
use Rattle.fiat_shamir.specs.CheckProof.{checking_proof, checking_proof_c}

-- a well-formed question that names the root, the salt and the sizes of a commitment
pub record NamesOffline (s : Sizes) (l : Lent) (question : Bytes) (κ : ℕ) : Type 0 where
  pub well_formed : offline_verdict question κ ≡ 0
  pub sizes : header_sizes question ≡ s
  pub root : offline_root question ≡ last_digest (tree_of s l)
  pub salt : offline_salt question ≡ l.salt

-- the least counter below the limit that qualifies, and the proof that is made with it and accepted with the true values, by both entries
pub record Proved (s : Sizes) (l : Lent) (question : Bytes) (κ limit : ℕ) (buffer : Bytes) : Type 0 where
  pub counter : ℕ
  pub below : counter < limit
  pub qualified : counter_ok question κ l counter ≡ true
  pub first : (c : ℕ) → c < counter → counter_ok question κ l c ≡ false
  pub proof : Bytes
  pub made : proof ≡ proof_of question l (table_of s l) (tree_of s l) counter
  pub length_right : length proof ≡ proof_length question l counter
  pub length_fits : length proof ≤ length buffer
  pub proved : proving question κ limit l (table_of s l) (tree_of s l) buffer ≡ (0, length proof, proof ++ drop (length proof) buffer)
  pub checked : (values : List ℕ) → length values ≡ s.w * header_points question → checking_proof question κ proof values ≡ (0, true_values s l (offline_points question))
  pub checked_c : (values : Bytes) → length values ≡ 4 * (s.w * header_points question)
      → checking_proof_c question κ proof values ≡ (0, bytes_of (true_values s l (offline_points question)))

-- no counter below the limit qualifies
pub record Unproved (s : Sizes) (l : Lent) (question : Bytes) (κ limit : ℕ) (buffer : Bytes) : Type 0 where
  pub none : (c : ℕ) → c < limit → counter_ok question κ l c ≡ false
  pub refused : proving question κ limit l (table_of s l) (tree_of s l) buffer ≡ (11, 0, buffer)

abbrev pub ProofCompleteness : Sizes → Lent → Type 0
ProofCompleteness s l =
    WellLent s l → (question : Bytes) (κ limit : ℕ) (buffer : Bytes) → NamesOffline s l question κ → length buffer ≡ proof_bound question
    → Proved s l question κ limit buffer ⊎ Unproved s l question κ limit buffer

-- The tests between the question's and the search, what holds once they have passed, and what is left to do then.
use Rattle.std.specs.Prelude.{◌≡◌, true, not, List, [], ◌∷◌, ◌++◌, ℕ, ◌+◌, ◌≤◌, eqb, length, drop}
use Rattle.lists.specs.Choice.{pick}
use Rattle.lists.specs.Bytes.{Bytes}
use Rattle.lists.specs.Least.{least}
use Rattle.lists.specs.Tests.{Test, every}
use Rattle.scheme.specs.Sizes.{Sizes}
use Rattle.scheme.specs.Layers.{Lent}
use Rattle.scheme.specs.Reply.{reply_bound}
use Rattle.scheme.specs.Commit.{lent_ok, filled_ok}
use Rattle.scheme.specs.Open.{words_ok, names_ok}
use Rattle.scheme.specs.Honest.{WellLent}
use Rattle.fiat_shamir.specs.Offline.{offline_root, offline_salt, most_bits}
use Rattle.fiat_shamir.specs.Prove.{counter_length, counter_ok, proof_length, proof_of}
use Rattle.offline_question.specs.Offline.{Offline}

-- 2, 3, 8, in the sizes that the code holds
abbrev pub lent_tests : Bytes → Sizes → ℕ → Lent → List ℕ → Bytes → Bytes → List Test
lent_tests b s m l table nodes buffer =
    (2, not (every (lent_ok s l ∷ filled_ok s table nodes ∷ eqb (length buffer) (counter_length + reply_bound s m) ∷ [])))
    ∷ (3, not (words_ok l table))
    ∷ (8, not (names_ok (offline_root b) (offline_salt b) l nodes))
    ∷ []

pub record Ready (b : Bytes) (s : Sizes) (m κ : ℕ) (l : Lent) (table : List ℕ) (nodes buffer : Bytes) : Type 0 where
  pub offline : Offline b s m
  pub few_bits : κ ≤ most_bits
  pub lent : WellLent s l
  pub filled : filled_ok s table nodes ≡ true
  pub room : length buffer ≡ counter_length + reply_bound s m

-- what the search leaves: 11, or the proof with the least counter that qualifies
unfoldable pub searched : Bytes → ℕ → ℕ → Lent → List ℕ → Bytes → Bytes → ℕ × ℕ × Bytes
searched b κ limit l table nodes buffer =
    let c : ℕ = least limit (counter_ok b κ l) in
    pick (eqb c limit) (11, 0, buffer) (0, proof_length b l c, proof_of b l table nodes c ++ drop (proof_length b l c) buffer)

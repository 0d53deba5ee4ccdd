-- The parts of a proof, and what it takes to write them.
use Rattle.std.specs.Prelude.{◌≡◌, true, ℕ, ◌+◌, ◌*◌, ◌≤◌, length, drop}
use mathlib.Core.List.{List, ◌++◌, map, flatten}
use Rattle.lists.specs.Bytes.{Bytes}
use Rattle.tree.specs.Sets.{missing}
use Rattle.tree.specs.Tree.{all_parts, opened}
use Rattle.scheme.specs.Sizes.{Sizes, SizesInOrder, leaves, most_points}
use Rattle.scheme.specs.Layers.{Lent}
use Rattle.scheme.specs.Reply.{records_at, nodes_at, reply_bound}
use Rattle.scheme.specs.Commit.{leaf_record, filled_ok}
use Rattle.scheme.specs.Honest.{WellLent}
use Rattle.fiat_shamir.specs.Draw.{ranks_at}
use Rattle.fiat_shamir.specs.Prove.{counter_length, counter_bytes}
use Rattle.offline_question.specs.Offline.{Offline}
use Rattle.opener.specs.Parts.{CanList}

-- a proof with some counter, answers and leaves, and its length
abbrev pub proof_with : Sizes → List ℕ → Bytes → Bytes → ℕ → Bytes → List ℕ → Bytes
proof_with s table nonces nodes c answers indices =
    counter_bytes c ++ (answers ++ (flatten (map (leaf_record s table nonces) indices) ++ flatten (opened 2 s.h (all_parts nodes) indices)))

abbrev pub length_with : Sizes → ℕ → List ℕ → ℕ
length_with s m indices = counter_length + (nodes_at s m + 32 * length (missing 2 s.h indices))

-- answers can be made
pub record CanPut (b : Bytes) (s : Sizes) (m : ℕ) (l : Lent) : Type 0 where
  pub offline : Offline b s m
  pub lent : WellLent s l

-- a proof with these answers and leaves can be written
pub record CanOpen (s : Sizes) (m : ℕ) (answers : Bytes) (indices table : List ℕ) (nonces nodes proof : Bytes) : Type 0 where
  pub answered : length answers ≡ records_at s m
  pub listed : CanList s m table nonces indices nodes (drop counter_length proof)

-- and one whose leaves a draw names
pub record CanDraw (s : Sizes) (m : ℕ) (answers drawn : Bytes) (table : List ℕ) (nonces nodes proof : Bytes) : Type 0 where
  pub sizes : SizesInOrder s
  pub points : m ≤ most_points
  pub answered : length answers ≡ records_at s m
  pub long : length drawn ≡ ranks_at + 8 * s.ℓ
  pub nonce : length nonces ≡ 32 * leaves s
  pub filled : filled_ok s table nodes ≡ true
  pub room : length proof ≡ counter_length + reply_bound s m

-- The parts of a reply, over the extended rows.
use Rattle.std.specs.Prelude.{◌≡◌, ℕ, ◌+◌, ◌*◌, ◌≤◌, ◌<◌, length}
use mathlib.Core.List.{List, ◌++◌, map, flatten}
use Rattle.lists.specs.All.{Below}
use Rattle.lists.specs.Bytes.{Bytes, bytes_of}
use Rattle.lists.specs.Range.{up_from}
use Rattle.tree.specs.Sets.{missing, tree_size}
use Rattle.tree.specs.Clauses.{IndexSet}
use Rattle.scheme.specs.Sizes.{Sizes, SizesInOrder, leaves, width, record_values, most_points}
use Rattle.scheme.specs.Question.{Question, question_length}
use Rattle.scheme.specs.Reply.{records_at, nodes_at}
use Rattle.answers.specs.Answers.{CanCombine, batching_at, answer_at}

-- the table and the nonces have the record of leaf i
pub record CanCopy (s : Sizes) (table : List ℕ) (nonces : Bytes) (i : ℕ) : Type 0 where
  pub sizes : SizesInOrder s
  pub values : record_values s * i + record_values s ≤ length table
  pub nonce : 32 * i + 32 ≤ length nonces
  pub index : i < 65536

-- and one for each index
pub record CanRecord (s : Sizes) (table : List ℕ) (nonces : Bytes) (indices : List ℕ) : Type 0 where
  pub sizes : SizesInOrder s
  pub values : length table ≡ leaves s * record_values s
  pub nonce : length nonces ≡ 32 * leaves s
  pub leaf : Below (leaves s) indices

-- the records and the missing nodes can be written: the indices are a set of ℓ leaves, with a record each, of a tree, and the reply has room
pub record CanList (s : Sizes) (m : ℕ) (table : List ℕ) (nonces : Bytes) (indices : List ℕ) (nodes reply : Bytes) : Type 0 where
  pub sizes : SizesInOrder s
  pub points : m ≤ most_points
  pub recorded : CanRecord s table nonces indices
  pub count : length indices ≡ s.ℓ
  pub set : IndexSet s.h indices
  pub tree_length : length nodes ≡ 32 * tree_size 2 s.h
  pub room : nodes_at s m + 32 * length (missing 2 s.h indices) ≤ length reply
  pub small : length reply ≤ 65536

-- the answers can be written: the rows can be combined, the question and the masks have as many words as the sizes ask, and the reply has room
pub record CanSum (question : Bytes) (s : Sizes) (m : ℕ) (coefficients tails blinds masks : List ℕ) (reply : Bytes) : Type 0 where
  pub points : m ≤ most_points
  pub long : length question ≡ question_length s m
  pub combine : CanCombine s coefficients tails blinds
  pub masks_length : length masks ≡ s.η * width s
  pub room : records_at s m ≤ length reply

-- the first two parts of a reply, from the extended rows
unfoldable pub sums : Question → List (List ℕ) → List ℕ → Bytes
sums u es masks =
    let s : Sizes = u.sizes in
    bytes_of (flatten (map (batching_at (leaves s) (width s) es masks u.challenges) (up_from 0 s.η)))
    ++ bytes_of (flatten (map (answer_at (width s) es) u.evaluation_points))

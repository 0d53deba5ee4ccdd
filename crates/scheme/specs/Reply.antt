-- A reply: its bytes and what stands in them; leaf strings.
use Rattle.std.specs.Prelude.{List, map, ℕ, ◌+◌, ◌*◌, length, get_or, take, drop}
use Rattle.tree.specs.Sets.{Node, missing}
use Rattle.lists.specs.Bytes.{Bytes, words}
use Rattle.tree.specs.Tree.{parts}
use Rattle.lists.specs.Pieces.{pieces}
use Rattle.scheme.specs.Sizes.{Sizes, arity, levels, rows, width, record_values}
use Rattle.scheme.specs.Question.{Question}

-- a leaf record: row values, mask values (4 bytes each), nonce
abbrev pub record_length : Sizes → ℕ
record_length s = 4 * record_values s + 32

-- where the answers, the leaf records and the missing nodes of a reply begin
abbrev pub answers_at : Sizes → ℕ
answers_at s = 4 * width s * s.η

abbrev pub records_at : Sizes → ℕ → ℕ
records_at s m = answers_at s + 4 * width s * m

abbrev pub nodes_at : Sizes → ℕ → ℕ
nodes_at s m = records_at s m + record_length s * s.ℓ

-- the missing nodes of the opened leaves
abbrev pub missing_nodes : Question → List Node
missing_nodes u = missing (arity u.sizes) (levels u.sizes) u.indices

abbrev pub reply_length : Question → ℕ
reply_length u = nodes_at u.sizes u.m + 32 * length (missing_nodes u)

-- the length of a reply with ℓ·h nodes
abbrev pub reply_bound : Sizes → ℕ → ℕ
reply_bound s m = nodes_at s m + 32 * (s.ℓ * s.h)

-- what a reply holds: R_k for each repetition, an evaluation answer for each point, a record for each index, the missing nodes
pub record Reply : Type 0 where
  pub batching : List (List ℕ)
  pub answers : List (List ℕ)
  pub records : List Bytes
  pub nodes : List Bytes

unfoldable pub read_reply : Question → Bytes → Reply
read_reply u r =
    let s : Sizes = u.sizes in
    record {
      batching = map (words (width s)) (pieces (4 * width s) s.η r);
      answers = map (words (width s)) (pieces (4 * width s) u.m (drop (answers_at s) r));
      records = pieces (record_length s) s.ℓ (drop (records_at s u.m) r);
      nodes = parts (length (missing_nodes u)) (drop (nodes_at s u.m) r);
    }

-- the values of a record: row values, then mask values
abbrev pub record_words : Sizes → Bytes → List ℕ
record_words s x = words (record_values s) x

abbrev pub row_values : Sizes → Bytes → List ℕ
row_values s x = take (rows s) (record_words s x)

abbrev pub mask_value : Sizes → Bytes → ℕ → ℕ
mask_value s x k = get_or (record_words s x) (rows s + k) 0

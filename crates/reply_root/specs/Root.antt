-- The root over a reply's bytes.
use Rattle.std.specs.Prelude.{List, ◌∷◌, map, ℕ, ◌+◌, ◌*◌, length, get_or, drop}
use Rattle.lists.specs.Bytes.{Bytes}
use Rattle.lists.specs.Range.{up_from}
use Rattle.sponge.specs.Digest.{digest}
use Rattle.tree.specs.Leaf.{leaf_string}
use Rattle.tree.specs.Tree.{all_parts, root_from}
use Rattle.opened.specs.Records.{record_of}

-- the digest of opened leaf a, under a salt
unfoldable pub leaf_digest_at : Bytes → ℕ → ℕ → List ℕ → Bytes → ℕ → Bytes
leaf_digest_at salt at size indices reply a = digest (leaf_string salt (get_or indices a 0) (record_of at size reply a))

-- the root that the opened leaves and the missing nodes after their records give, h levels up
unfoldable pub root_at : Bytes → ℕ → ℕ → ℕ → List ℕ → Bytes → Bytes
root_at salt h at size indices reply =
    root_from digest 2 (1 ∷ salt) h indices (map (leaf_digest_at salt at size indices reply) (up_from 0 (length indices))) (all_parts (drop (at + size * length indices) reply))

-- The string that is hashed for a leaf.
use Rattle.std.specs.Prelude.{◌∷◌, ◌++◌, ℕ}
use Rattle.lists.specs.Bytes.{Bytes, little_endian}

-- the string of leaf i: 0x00, the commitment's salt, the index in two bytes, its record (values and nonce)
unfoldable pub leaf_string : Bytes → ℕ → Bytes → Bytes
leaf_string salt i x = 0 ∷ (salt ++ (little_endian 2 i ++ x))

-- the bytes of a salt
abbrev pub salt_length : ℕ
salt_length = 32

-- every string begins with a byte and the salt; a leaf's record follows the index
abbrev pub prefix_length : ℕ
prefix_length = 33

abbrev pub record_start : ℕ
record_start = 35

-- an index has two bytes; the longest record has 68 values and a nonce
abbrev pub index_end : ℕ
index_end = 65536

abbrev pub longest_record : ℕ
longest_record = 304

-- The records of the opened leaves.
use mathlib.Core.Path.{◌≡◌, sym, ap, ap₂, ◌∙◌, subst}
use mathlib.Core.List.{List, ◌++◌}
use Prim.Native.Nat.{ℕ, ◌+◌, ◌*◌, ◌≤◌, ◌<◌, ◌-◌}
use native.Mathlib.Omega.{arith}
use lib.ListN.{length, get_or, take, drop}
use Rattle.lists.specs.All.{Below, all_at, all_imp}
use native.Mathlib.Nat.{lt_of_lt_of_le}
use Rattle.scheme.proofs.Accepted.{leaves-high}
use Rattle.lists.specs.Bytes.{Bytes, bytes_of, length-bytes_of}
use Rattle.lists.specs.Pieces.{piece}
use Rattle.scheme.specs.Sizes.{Sizes, leaves, record_values}
use Rattle.scheme.specs.Reply.{record_length}
use Rattle.scheme.specs.Commit.{leaf_record}
use Rattle.lists.specs.Parts.{length-piece, part_is}
use Rattle.scheme.proofs.Parts.{values_room as one-values-room, nonce_room as one-nonce-room, record_sized as one-sized}
use Rattle.opener.specs.Parts.{CanCopy, CanRecord}
use Rattle.lists.specs.Spliced.{spliced_more, spliced}

-- ---- a record written

-- the values of a leaf, then its nonce
pub put_record : (s : Sizes) (table : List ℕ) (nonces o o₁ o₂ : Bytes) (i at n : ℕ) → n ≡ record_values s → CanCopy s table nonces i → at + record_length s ≤ length o
    → o₁ ≡ (let w : List ℕ = take (n * i + n - n * i) (drop (n * i) table) in spliced at (4 * length w) (bytes_of w) o)
    → o₂ ≡ (let v : Bytes = take (32 * i + 32 - 32 * i) (drop (32 * i) nonces) in spliced (at + 4 * n) (length v) v o₁)
    → o₂ ≡ spliced at (record_length s) (leaf_record s table nonces i) o
unfolding leaf_record
put_record s table nonces o o₁ o₂ i at n k can lo e₁ e₂ =
    let w : List ℕ = piece n i table in
    let v : Bytes = piece 32 i nonces in
    let kv : 32 * i + 32 - 32 * i ≡ 32 = omega arith in
    let lw : length w ≡ n = length-piece n i table (subst (λ (m : ℕ). m * i + m ≤ length table) (sym k) can.values) in
    let lv : length v ≡ 32 = length-piece 32 i nonces can.nonce in
    let lb : length (bytes_of w) ≡ 4 * n = length-bytes_of w ∙ ap (λ (k : ℕ). 4 * k) lw in
    let f₁ : o₁ ≡ spliced at (4 * n) (bytes_of w) o =
    e₁ ∙ ap (λ (x : List ℕ). spliced at (4 * length x) (bytes_of x) o) (part_is n i table) ∙ ap (λ (k : ℕ). spliced at (4 * k) (bytes_of w) o) lw in
    e₂ ∙ ap (λ (x : Bytes). spliced (at + 4 * n) (length x) x o₁) (part_is 32 i nonces)
    ∙ ap₂ (λ (k : ℕ) (b : Bytes). spliced (at + 4 * n) k v b) lv f₁
    ∙ spliced_more at (4 * n) (bytes_of w) o lb (omega (arith, k)) 32 v
    ∙ ap (λ (m : ℕ). spliced at (4 * m + 32) (bytes_of (piece m i table) ++ v) o) k

-- ---- the records of some leaves

pub indices_small : (s : Sizes) (table : List ℕ) (nonces : Bytes) (indices : List ℕ) → CanRecord s table nonces indices → Below 65536 indices
indices_small s table nonces indices can = all_imp (λ (i : ℕ) (l : i < leaves s). omega (arith, leaves-high s can.sizes)) indices can.leaf

module _ (s : Sizes) (table : List ℕ) (nonces : Bytes) (indices : List ℕ) (can : CanRecord s table nonces indices) (k : ℕ) (l : k < length indices) where
  leaf_low : get_or indices k 0 < leaves s
  leaf_low = all_at (λ (i : ℕ). i < leaves s) 0 indices can.leaf k l

  values_room : record_values s * get_or indices k 0 + record_values s ≤ length table
  values_room = one-values-room s table nonces can.values can.nonce (get_or indices k 0) leaf_low

  nonce_room : 32 * get_or indices k 0 + 32 ≤ length nonces
  nonce_room = one-nonce-room s table nonces can.values can.nonce (get_or indices k 0) leaf_low

  pub leaf_fits : CanCopy s table nonces (get_or indices k 0)
  leaf_fits = record {
    sizes = can.sizes;
    values = values_room;
    nonce = nonce_room;
    index = lt_of_lt_of_le leaf_low (omega (arith, leaves-high s can.sizes));
  }

  pub record_sized : length (leaf_record s table nonces (get_or indices k 0)) ≡ record_length s
  record_sized = one-sized s table nonces can.values can.nonce (get_or indices k 0) leaf_low

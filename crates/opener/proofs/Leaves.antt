-- The last two parts of a reply: leaf records, missing nodes.
use mathlib.Core.Path.{◌≡◌, sym, ap, ap₂, ◌∙◌, subst}
use mathlib.Core.List.{List, ◌++◌, map, flatten}
use Prim.Native.Nat.{ℕ, ◌+◌, ◌-◌, ◌*◌, ◌^◌, ◌≤◌}
use native.Mathlib.Nat.{le_of_eq}
use native.Mathlib.Omega.{arith}
use lib.ListN.{length, take, drop, length-drop}
use lib.Seq.{length-take-le, take_all, drop-drop}
use borrow.Rule.Slice.PartMut.{put_mid}
use Rattle.lists.specs.Bytes.{Bytes}
use Rattle.tree.specs.Sets.{missing, tree_size}
use Rattle.tree.specs.Clauses.{IndexSet}
use Rattle.lists.specs.Parts.{put_tail}
use Rattle.scheme.specs.Sizes.{Sizes, leaves}
use Rattle.scheme.specs.Reply.{record_length, records_at, nodes_at}
use Rattle.scheme.specs.Commit.{leaf_record}
use Rattle.lists.specs.Spliced.{spliced_more, all_length, spliced}
use Rattle.opener.specs.Parts.{CanRecord, CanList}
use Rattle.opener.proofs.Records.{record_sized}

-- bytes written from n on, through the part of the buffer that begins there
through_part : (n k : ℕ) (x o out : Bytes) → out ≡ x ++ drop k (take (length o - n) (drop n o)) → put_mid n (length o - n) o out ≡ spliced n k x o
through_part n k x o out e =
    put_tail n o out
    ∙ ap (λ (t : Bytes). take n o ++ t)
    (e ∙ ap (λ (t : Bytes). x ++ t) (ap (drop k) (take_all (length o - n) (drop n o) (le_of_eq (length-drop n o))) ∙ drop-drop k n o))

module _ (s : Sizes) (m : ℕ) (table : List ℕ) (nonces : Bytes) (indices : List ℕ) (nodes o : Bytes) (can : CanList s m table nonces indices nodes o) where
  abbrev records : Bytes
  records = flatten (map (leaf_record s table nonces) indices)

  -- the nodes begin after the records
  nodes_are : records_at s m + record_length s * length indices ≡ nodes_at s m
  nodes_are = ap (λ (k : ℕ). records_at s m + record_length s * k) can.count

  records_room : records_at s m + record_length s * length indices ≤ length o
  records_room = omega (arith, nodes_are, can.room)

  pub records_ask : (r : ℕ) → r ≡ records_at s m → CanRecord s table nonces indices × (r + record_length s * length indices ≤ length o)
  records_ask r e = (can.recorded, subst (λ (k : ℕ). k + record_length s * length indices ≤ length o) (sym e) records_room)

  pub nodes_ask : (n k : ℕ) (o₁ : Bytes) → n ≡ nodes_at s m → k ≡ leaves s → length o₁ ≡ length o
      → IndexSet s.h indices × (k ≡ 2 ^ s.h) × (length nodes ≡ 32 * tree_size 2 s.h) × (32 * length (missing 2 s.h indices) ≤ length (take (length o₁ - n) (drop n o₁)))
  nodes_ask n k o₁ e f l = (
    can.set,
    f,
    can.tree_length,
    omega (arith, length-take-le (length o₁ - n) (drop n o₁) (le_of_eq (sym (length-drop n o₁))), e, l, can.room),
  )

  pub leaves_are : (r n c : ℕ) (x o₁ out : Bytes) → r ≡ records_at s m → n ≡ nodes_at s m → c ≡ length (missing 2 s.h indices)
      → o₁ ≡ spliced r (record_length s * length indices) records o → out ≡ x ++ drop (32 * c) (take (length o₁ - n) (drop n o₁))
      → put_mid n (length o₁ - n) o₁ out ≡ take (records_at s m) o ++ ((records ++ x) ++ drop (n + 32 * c) o)
  leaves_are r n c x o₁ out er en ec e₁ e =
      let k : ℕ = record_length s * length indices in
      let a : n ≡ records_at s m + k = en ∙ sym nodes_are in
      let z : records_at s m + (k + 32 * c) ≡ n + 32 * c = omega (arith, a) in
      through_part n (32 * c) x o₁ out e
      ∙ ap₂ (λ (j : ℕ) (y : Bytes). spliced j (32 * c) x y) a (e₁ ∙ ap (λ (j : ℕ). spliced j k records o) er)
      ∙ spliced_more (records_at s m) k records o
      (all_length (leaf_record s table nonces) indices (record_length s) (records_at s m) o (record_sized s table nonces indices can.recorded) records_room)
      records_room (32 * c) x
      ∙ ap (λ (j : ℕ). take (records_at s m) o ++ ((records ++ x) ++ drop j o)) z

  pub reply_fits : (n c : ℕ) → n ≡ nodes_at s m → c ≡ length (missing 2 s.h indices) → n + 32 * c ≤ 65536
  reply_fits n c en ec = omega (arith, en, ec, can.room, can.small)

-- The root over a reply's bytes is that of the definition.
use mathlib.Core.Path.{◌≡◌, refl, sym, ap, ap₂, ◌∙◌}
use mathlib.Core.List.{List, [], ◌∷◌, map}
use Prim.Native.Nat.{ℕ, ◌+◌, ◌*◌, ◌/◌, ◌-◌}
use native.Mathlib.Omega.{arith}
use lib.ListN.{length, drop, length-drop}
use Rattle.lists.specs.Bytes.{Bytes}
use Rattle.lists.specs.Maps.{map_cong}
use Rattle.lists.specs.Range.{up_from, up_from_of}
use Rattle.sponge.specs.Digest.{digest}
use Rattle.tree.specs.Leaf.{leaf_string}
use Rattle.tree.specs.Tree.{parts, all_parts, root_from}
use Rattle.scheme.specs.Sizes.{Sizes}
use Rattle.scheme.specs.Question.{Question}
use Rattle.scheme.specs.Reply.{Reply, read_reply, records_at, record_length, nodes_at, missing_nodes, reply_length}
use Rattle.scheme.specs.Check.{leaf_at, record_at, leaf_strings, reply_root}
use Rattle.scheme.proofs.ReplyPlaces.{record_at_lem}
use Rattle.reply_root.specs.Root.{leaf_digest_at, root_at}

map-map : (f : Bytes → Bytes) (g : ℕ → Bytes) (xs : List ℕ) → map f (map g xs) ≡ map (λ a. f (g a)) xs
map-map f g [] = refl
map-map f g (x ∷ xs) = ap (λ (t : List Bytes). f (g x) ∷ t) (map-map f g xs)

module _ (u : Question) (reply : Bytes) where
  abbrev r : Reply
  r = read_reply u reply

  abbrev s : Sizes
  s = u.sizes

  abbrev leaf_digest : ℕ → Bytes
  leaf_digest = leaf_digest_at u.salt (records_at u.sizes u.m) (record_length u.sizes) u.indices reply

  digests_are : length u.indices ≡ s.ℓ → map leaf_digest (up_from 0 (length u.indices)) ≡ map digest (leaf_strings u r)
  unfolding leaf_strings leaf_digest_at
  digests_are i =
      ap (λ (n : ℕ). map leaf_digest (up_from 0 n)) i
      ∙ map_cong {f = leaf_digest} {g = λ a. digest (leaf_string u.salt (leaf_at u a) (record_at r a))} (up_from 0 s.ℓ)
      (λ a l. ap (λ (x : Bytes). digest (leaf_string u.salt (leaf_at u a) x)) (sym (record_at_lem u reply a (omega (arith, (up_from_of 0 s.ℓ a l).1)))))
      ∙ sym (map-map digest (λ a. leaf_string u.salt (leaf_at u a) (record_at r a)) (up_from 0 s.ℓ))

  nodes_are : length u.indices ≡ s.ℓ → length reply ≡ reply_length u
      → all_parts (drop (records_at s u.m + record_length s * length u.indices) reply) ≡ r.nodes
  unfolding read_reply all_parts
  nodes_are i e =
      let m : ℕ = length (missing_nodes u) in
      let a : ℕ = nodes_at s u.m in
      let n : length (drop a reply) / 32 ≡ m = ap (λ (k : ℕ). k / 32) (length-drop a reply ∙ ap (λ (k : ℕ). k - a) e) ∙ whole a m in
      ap (λ (k : ℕ). all_parts (drop (records_at s u.m + record_length s * k) reply)) i ∙ ap (λ (k : ℕ). parts k (drop a reply)) n
    where
      whole : (a m : ℕ) → (a + 32 * m - a) / 32 ≡ m
      whole a m = omega arith

  pub root_is : length u.indices ≡ u.sizes.ℓ → length reply ≡ reply_length u
      → root_at u.salt u.sizes.h (records_at u.sizes u.m) (record_length u.sizes) u.indices reply ≡ reply_root u (read_reply u reply)
  unfolding reply_root root_at
  root_is i e = ap₂ (λ (ds ns : List Bytes). root_from digest 2 (1 ∷ u.salt) s.h u.indices ds ns) (digests_are i) (nodes_are i e)

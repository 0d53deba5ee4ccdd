-- Two accepted calls under one root, one salt and one depth have the same record at a leaf that both open, where no two strings that they hash share a digest.
-- That no two do is a hypothesis.
use mathlib.Core.Path.{◌≡◌, refl, sym, ap, ap₂, ◌∙◌, subst}
use mathlib.Core.Bool.{Bool}
use mathlib.Core.List.{List, [], ◌∷◌, ◌++◌, map, Memᴰ as Mem}
use Prim.Native.Nat.{ℕ, zero, suc, ◌^◌, ◌<◌}
use native.Mathlib.Nat.{not-suc-le-zero, le_of_suc-le-suc, suc_inj, suc-ne-zero, ne_of_gt, zero-add}
use native.Mathlib.Omega.{arith}
use lib.ListN.{length, get_or, length-map, length-drop}
use borrow.Author.Tests.{eq-eqb, ne_eqb}
use Rattle.sponge.specs.Digest.{digest, digest-length}
use Rattle.lists.specs.Choice.{pick}
use Rattle.lists.specs.Range.{up_from, at_run, length-up_from}
use Rattle.lists.specs.Rising.{Rising}
use Rattle.lists.specs.Bytes.{Bytes, little_endian}
use Rattle.tree.specs.Tree.{found, root_from, hashed}
use Rattle.lists.specs.Maps.{get_or_in, append-cancel}
use Rattle.lists.specs.All.{Below}
use Rattle.lists.specs.Pieces.{length-pieces, pieces-sized}
use Rattle.tree.proofs.Binding.{Opening, leaf_binding}
use Rattle.scheme.specs.Sizes.{Sizes, arity, levels, node_prefix, leaves}
use Rattle.scheme.specs.Question.{Question, read_question}
use Rattle.scheme.specs.Reply.{Reply, read_reply, nodes_at, reply_length}
use Rattle.tree.specs.Leaf.{leaf_string}
use Rattle.scheme.specs.Check.{leaf_at, record_at, leaf_strings, reply_root, hashed_strings}
use Rattle.scheme.proofs.Accepted.{Accepted}

-- what stands for the node at place a of a rising set is found there
found_at : (s : List ℕ) (l : List Bytes) (a : ℕ) → Rising s → length s ≡ length l → a < length s → found s l (get_or s a 0) ≡ get_or l a []
unfolding found
found_at [] l a r e m = absurd (not-suc-le-zero m)
found_at (i ∷ s) [] a r e m = absurd (suc-ne-zero _ e)
found_at (i ∷ s) (x ∷ l) zero r e m = ap (λ (b : Bool). pick b x (found s l i)) (eq-eqb i i refl)
found_at (i ∷ s) (x ∷ l) (suc a) r e m =
    ap (λ (b : Bool). pick b x (found s l (get_or s a 0))) (ne_eqb i (get_or s a 0) (λ f. ne_of_gt (r.0 (get_or s a 0) (get_or_in s a (le_of_suc-le-suc m))) (sym f)))
    ∙ found_at s l a r.1 (suc_inj e) (le_of_suc-le-suc m)

leaf_inj : (salt : Bytes) (i : ℕ) (x y : Bytes) → leaf_string salt i x ≡ leaf_string salt i y → x ≡ y
unfolding leaf_string
leaf_inj salt i x y e = append-cancel (little_endian 2 i) x y (append-cancel (0 ∷ salt) (little_endian 2 i ++ x) (little_endian 2 i ++ y) e)

pub leaf_strings-length : (u : Question) (r : Reply) → length (leaf_strings u r) ≡ u.sizes.ℓ
unfolding leaf_strings
leaf_strings-length u r = length-map (up_from 0 u.sizes.ℓ) _ ∙ length-up_from 0 u.sizes.ℓ

leaf_strings_at : (u : Question) (r : Reply) (a : ℕ) → a < u.sizes.ℓ → get_or (leaf_strings u r) a [] ≡ leaf_string u.salt (leaf_at u a) (record_at r a)
unfolding leaf_strings
leaf_strings_at u r a l =
    at_run (λ b. leaf_string u.salt (leaf_at u b) (record_at r b)) 0 u.sizes.ℓ a [] l
    ∙ ap (λ (b : ℕ). leaf_string u.salt (leaf_at u b) (record_at r b)) (zero-add a)

abbrev pub some_children : (s : Sizes) → zero < arity s
some_children s = omega arith

pub leaves_are : (s : Sizes) → arity s ^ levels s ≡ leaves s
leaves_are s = refl

-- an accepted call as an opening of the tree of depth h
pub record Placed (s : Sizes) (salt : Bytes) (u : Question) (r : Reply) : Type 0 where
  pub opening : Opening (arity s) 32 (levels s) u.indices (leaf_strings u r) r.nodes
  pub rooted : root_from digest (arity s) (node_prefix s salt) (levels s) u.indices (map digest (leaf_strings u r)) r.nodes ≡ u.root
  pub strings : hashed_strings u r ≡ leaf_strings u r ++ hashed digest (arity s) (node_prefix s salt) (levels s) u.indices (map digest (leaf_strings u r)) r.nodes

-- a reply of the right length, as such an opening
pub opening_of : (u : Question) (reply : Bytes) → length u.indices ≡ u.sizes.ℓ → Below (leaves u.sizes) u.indices → length reply ≡ reply_length u
    → Opening (arity u.sizes) 32 (levels u.sizes) u.indices (leaf_strings u (read_reply u reply)) (read_reply u reply).nodes
unfolding read_reply
opening_of u reply e below l = record {
  bound = subst (λ (n : ℕ). Below n u.indices) (sym (leaves_are u.sizes)) below;
  counted = e ∙ sym (leaf_strings-length u (read_reply u reply));
  listed = length-pieces 32 _ _;
  node_sizes = pieces-sized 32 _ _ (omega (arith, l, length-drop (nodes_at u.sizes u.m) reply));
}

pub placed : (u : Question) (reply : Bytes) → length u.indices ≡ u.sizes.ℓ → Accepted u reply (read_reply u reply) → Placed u.sizes u.salt u (read_reply u reply)
unfolding reply_root hashed_strings
placed u reply e a = record {
  opening = opening_of u reply e a.asks.indices_below a.reply_length_lem;
  rooted = a.root_right;
  strings = refl;
}

pub indices_length : (b : Bytes) → length (read_question b).indices ≡ (read_question b).sizes.ℓ
unfolding read_question
indices_length b = simp (length-map, length-pieces)

pub challenges_length : (b : Bytes) → length (read_question b).challenges ≡ (read_question b).sizes.η
unfolding read_question
challenges_length b = simp (length-map, length-pieces)

pub points-length : (b : Bytes) → length (read_question b).evaluation_points ≡ (read_question b).m
unfolding read_question
points-length b = simp (length-map, length-pieces)

module _ (s : Sizes) (salt : Bytes) (u₁ u₂ : Question) (r₁ r₂ : Reply) (p₁ : Placed s salt u₁ r₁) (p₂ : Placed s salt u₂ r₂) (ri₁ : Rising u₁.indices) (ri₂ : Rising u₂.indices)
    (same-root : u₁.root ≡ u₂.root) (salt₁ : u₁.salt ≡ salt) (salt₂ : u₂.salt ≡ salt)
    (apart : (x y : Bytes) → Mem x (hashed_strings u₁ r₁) → Mem y (hashed_strings u₂ r₂) → digest x ≡ digest y → x ≡ y) where
  pub same_record : (i a₁ a₂ : ℕ) → a₁ < u₁.sizes.ℓ → a₂ < u₂.sizes.ℓ → leaf_at u₁ a₁ ≡ i → leaf_at u₂ a₂ ≡ i → record_at r₁ a₁ ≡ record_at r₂ a₂
  same_record i a₁ a₂ l₁ l₂ e₁ e₂ =
      leaf_inj salt i (record_at r₁ a₁) (record_at r₂ a₂)
      (sym (found_is u₁ r₁ p₁ ri₁ salt₁ a₁ l₁ e₁)
      ∙ leaf_binding digest 32 digest-length (arity s) (some_children s) (node_prefix s salt) (levels s) u₁.indices u₂.indices (leaf_strings u₁ r₁) (leaf_strings u₂ r₂) r₁.nodes r₂.nodes
      p₁.opening p₂.opening
      (λ x y m₁ m₂. apart x y (subst (λ (z : List Bytes). Mem x z) (sym p₁.strings) m₁) (subst (λ (z : List Bytes). Mem y z) (sym p₂.strings) m₂))
      (p₁.rooted ∙ same-root ∙ sym p₂.rooted) i (in_is u₁ r₁ p₁ a₁ l₁ e₁) (in_is u₂ r₂ p₂ a₂ l₂ e₂)
      ∙ found_is u₂ r₂ p₂ ri₂ salt₂ a₂ l₂ e₂)
    where
      inside : (u : Question) (r : Reply) → Placed s salt u r → (a : ℕ) → a < u.sizes.ℓ → a < length u.indices
      inside u r p a l = subst (λ (n : ℕ). a < n) (sym (p.opening.counted ∙ leaf_strings-length u r)) l

      in_is : (u : Question) (r : Reply) → Placed s salt u r → (a : ℕ) → a < u.sizes.ℓ → leaf_at u a ≡ i → Mem i u.indices
      in_is u r p a l e = subst (λ (j : ℕ). Mem j u.indices) e (get_or_in u.indices a (inside u r p a l))

      found_is : (u : Question) (r : Reply) → Placed s salt u r → Rising u.indices → u.salt ≡ salt → (a : ℕ) → a < u.sizes.ℓ → leaf_at u a ≡ i
          → found u.indices (leaf_strings u r) i ≡ leaf_string salt i (record_at r a)
      found_is u r p ri f a l e =
          ap (found u.indices (leaf_strings u r)) (sym e)
          ∙ found_at u.indices (leaf_strings u r) a ri p.opening.counted (inside u r p a l)
          ∙ leaf_strings_at u r a l
          ∙ ap₂ (λ (z : Bytes) (j : ℕ). leaf_string z j (record_at r a)) f e

-- Every string that committing and checking hash is a byte, 0 or 1, and the commitment's salt, before anything else.
use mathlib.Core.Path.{◌≡◌, refl, sym, ap, ◌∙◌, subst}
use mathlib.Core.List.Memᴰ.{append_right as in_right}
use mathlib.Core.List.{List, ◌∷◌, ◌++◌, map, Memᴰ as Mem}
use Prim.Native.Nat.{ℕ, ◌<◌}
use native.Mathlib.Omega.{arith}
use lib.ListN.{length, get_or, take, drop}
use lib.Seq.{take_at}
use Rattle.sponge.specs.Digest.{digest}
use Rattle.lists.specs.All.{All, all_append, all_each, all_imp, all_mem}
use Rattle.lists.specs.Maps.{get_or_in}
use Rattle.lists.specs.Range.{up_from}
use Rattle.lists.specs.Bytes.{Bytes, little_endian}
use Rattle.tree.specs.Leaf.{leaf_string, salt_length}
use Rattle.tree.specs.Tree.{node_strings, hashed}
use Rattle.tree.proofs.Strings.{Begins, nodes_begin, hashed_begin, root_hashed}
use Rattle.scheme.specs.Sizes.{Sizes, arity, levels, node_prefix, leaves}
use Rattle.scheme.specs.Layers.{Lent}
use Rattle.scheme.specs.Question.{Question}
use Rattle.scheme.specs.Reply.{Reply}
use Rattle.scheme.specs.Commit.{table_of, leaf_record, leaf_digests, committed_strings}
use Rattle.scheme.specs.Check.{leaf_at, record_at, leaf_strings, hashed_strings}
use Rattle.scheme.specs.Collect.{Call, Answered, asked, given}
use Rattle.scheme.proofs.Bound.{some_children, indices_length}
use Rattle.scheme.proofs.AcceptedCall.{Facts, facts}

abbrev pub Salted : Bytes → Bytes → Type 0
Salted salt x = (first : ℕ) × (first < 2) × Begins (first ∷ salt) x

leaf_salted : (salt : Bytes) (i : ℕ) (x : Bytes) → Salted salt (leaf_string salt i x)
unfolding leaf_string
leaf_salted salt i x = (0, omega arith, (little_endian 2 i ++ x, refl))

nodes_salted : (salt : Bytes) (xs : List Bytes) → All (Begins (1 ∷ salt)) xs → All (Salted salt) xs
nodes_salted salt xs h = all_imp (λ (x : Bytes) (b : Begins (1 ∷ salt) x). (1, omega arith, b)) xs h

pub committed_salted : (s : Sizes) (l : Lent) → All (Salted l.salt) (committed_strings s l)
unfolding committed_strings
committed_salted s l =
    let salt : Bytes = l.salt in
    let f : ℕ → Bytes = λ i. leaf_string salt i (leaf_record s (table_of s l) l.nonces i) in
    let level : List Bytes = leaf_digests s (table_of s l) l.nonces salt in
    let nodes : List Bytes = node_strings digest (arity s) (node_prefix s salt) (levels s) level in
    all_append (Salted salt) (map f (up_from 0 (leaves s))) nodes
    (all_each (Salted salt) f (up_from 0 (leaves s)) (λ i. leaf_salted salt i (leaf_record s (table_of s l) l.nonces i)))
    (nodes_salted salt nodes (nodes_begin digest (arity s) (node_prefix s salt) (levels s) level))

pub hashed_salted : (u : Question) (r : Reply) → All (Salted u.salt) (hashed_strings u r)
unfolding hashed_strings leaf_strings
hashed_salted u r =
    let s : Sizes = u.sizes in
    let salt : Bytes = u.salt in
    let f : ℕ → Bytes = λ a. leaf_string salt (leaf_at u a) (record_at r a) in
    let ds : List Bytes = map digest (map f (up_from 0 s.ℓ)) in
    let nodes : List Bytes = hashed digest (arity s) (node_prefix s salt) (levels s) u.indices ds r.nodes in
    all_append (Salted salt) (map f (up_from 0 s.ℓ)) nodes
    (all_each (Salted salt) f (up_from 0 s.ℓ) (λ a. leaf_salted salt (leaf_at u a) (record_at r a)))
    (nodes_salted salt nodes (hashed_begin digest (arity s) (node_prefix s salt) (levels s) u.indices ds r.nodes))

-- a string has one salt
pub salt_is : (salt x : Bytes) → length salt ≡ salt_length → Salted salt x → take salt_length (drop 1 x) ≡ salt
salt_is salt x e h = ap (λ (y : Bytes). take salt_length (drop 1 y)) h.2.1 ∙ take_at salt h.2.0 salt_length e

-- Accepted calls under one root have one salt, where no two different strings that they hash share a digest: the root is the digest of such a string, and that has the
-- salt in it. So a collection would be no larger if it did not ask for the salt.
root_string : (c : Call) → Facts (asked c).sizes c → (x : Bytes) × Mem x (hashed_strings (asked c) (given c)) × ((asked c).root ≡ digest x)
root_string c f =
    let u : Question = asked c in
    let s : Sizes = u.sizes in
    let p = f.placed in
    let some : 0 < length u.indices = subst (λ (n : ℕ). 0 < n) (sym (indices_length c.question)) f.in_order.ℓ-low in
    let r = root_hashed digest (arity s) (node_prefix s u.salt) (levels s) f.in_order.h_low u.indices (map digest (leaf_strings u (given c))) (given c).nodes (some_children s)
    p.opening.bound (get_or u.indices 0 0) (get_or_in u.indices 0 some) in
    (r.0, subst (λ (xs : List Bytes). Mem r.0 xs) (sym p.strings) (in_right (leaf_strings u (given c)) r.1), sym p.rooted ∙ r.2)

pub one_salt : (c₁ c₂ : Call) → Answered c₁ → Answered c₂ → c₁.verdict ≡ 0 → c₂.verdict ≡ 0 → (asked c₁).root ≡ (asked c₂).root
    → ((x y : Bytes) → Mem x (hashed_strings (asked c₁) (given c₁)) → Mem y (hashed_strings (asked c₂) (given c₂)) → digest x ≡ digest y → x ≡ y)
    → (asked c₁).salt ≡ (asked c₂).salt
one_salt c₁ c₂ a₁ a₂ z₁ z₂ e apart =
    let u₁ : Question = asked c₁ in
    let u₂ : Question = asked c₂ in
    let f₁ = facts c₁ a₁ z₁ in
    let f₂ = facts c₂ a₂ z₂ in
    let r₁ = root_string c₁ f₁ in
    let r₂ = root_string c₂ f₂ in
    let same : r₁.0 ≡ r₂.0 = apart r₁.0 r₂.0 r₁.1 r₂.1 (sym r₁.2 ∙ e ∙ r₂.2) in
    sym (salt_is u₁.salt r₁.0 f₁.salted (all_mem (Salted u₁.salt) (hashed_strings u₁ (given c₁)) (hashed_salted u₁ (given c₁)) r₁.0 r₁.1))
    ∙ ap (λ (x : Bytes). take salt_length (drop 1 x)) same
    ∙ salt_is u₂.salt r₂.0 f₂.salted (all_mem (Salted u₂.salt) (hashed_strings u₂ (given c₂)) (hashed_salted u₂ (given c₂)) r₂.0 r₂.1)

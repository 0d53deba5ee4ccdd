-- The whole reply, where all tests have passed.
use mathlib.Core.Path.{◌≡◌, sym, ap, ap₂, ◌∙◌, subst}
use mathlib.Core.List.{List, ◌++◌, map, flatten, append_assoc}
use Prim.Native.Nat.{ℕ, ◌+◌, ◌-◌, ◌*◌, ◌≤◌, ◌<◌}
use native.Mathlib.Omega.{arith}
use lib.ListN.{length, take, drop, length-map}
use lib.Seq.{take_at, drop_at, drop-drop}
use Rattle.lists.specs.Bytes.{Bytes, bytes_of}
use Rattle.lists.specs.Pieces.{pieces, length-pieces}
use Rattle.tree.specs.Sets.{missing}
use Rattle.tree.specs.Tree.{all_parts, opened}
use Rattle.scheme.specs.Sizes.{Sizes, SizesInOrder}
use Rattle.scheme.specs.Layers.{Lent, extended_rows}
use Rattle.scheme.specs.Question.{Question, indices_at, question_at}
use Rattle.scheme.specs.Reply.{records_at, nodes_at, reply_length}
use Rattle.scheme.specs.Commit.{leaf_record}
use Rattle.scheme.specs.Open.{opened_batching, opened_answers, reply_of}
use Rattle.scheme.proofs.Lent.{LentFacts, lent_facts}
use Rattle.scheme.proofs.Parts.{filled_lengths, tree_length}
use Rattle.opener.specs.Parts.{CanList, CanSum, sums}
use Rattle.opener.specs.Ready.{Ready}
use Rattle.opener.proofs.Sums.{sums-length, sums-opened}

module _ (question : Bytes) (t : Sizes) (m : ℕ) (l : Lent) (table : List ℕ) (nodes reply : Bytes) (ready : Ready question t m l table nodes reply) where
  abbrev u : Question
  u = question_at t m question

  r : LentFacts t l
  r = lent_facts t l ready.lent

  g : SizesInOrder t
  g = r.sizes

  -- ---- the answers

  abbrev ext : List (List ℕ)
  ext = extended_rows t l

  pub can_sum : CanSum question t m l.coefficients l.tails l.blinds l.masks reply
  can_sum = record {
    points = ready.points;
    long = ready.long;
    combine = record {
      extend = record { laid = record { sizes = g; coefficients_length = r.c_length; blinds_length = r.b_length; blinds_below = r.b_below }; tails-length = r.t_length };
      coefficients_below = r.c_below;
      tails_below = r.t_below;
    };
    masks_length = r.m_length;
    room = omega (arith, ready.room);
  }

  answers_are : sums u ext l.masks ≡ bytes_of (flatten (opened_batching u l)) ++ bytes_of (flatten (opened_answers u l))
  answers_are = sums-opened u l

  -- ---- the indices

  count : length u.indices ≡ t.ℓ
  count = length-map (pieces 2 t.ℓ (drop (indices_at t m) question)) _ ∙ length-pieces 2 t.ℓ (drop (indices_at t m) question)

  -- ---- records and nodes

  can_list : (o : Bytes) → length o ≡ length reply → CanList t m table l.nonces u.indices nodes o
  can_list o e = record {
    sizes = g;
    points = ready.points;
    recorded = record { sizes = g; values = (filled_lengths t table nodes ready.filled).0; nonce = r.n_length; leaf = ready.leaf };
    count = count;
    set = record {
      depth = g.h_high;
      some = subst (λ (k : ℕ). 0 < k) (sym count) g.ℓ-low;
      few = subst (λ (k : ℕ). k ≤ 64) (sym count) g.ℓ-high;
      rising = ready.rising;
      leaves = ready.leaf;
    };
    tree_length = tree_length t table nodes ready.filled;
    room = omega (arith, ready.room, e);
    small = omega (arith, ready.small, e);
  }

  pub leaves_ask : (x : List ℕ) (o : Bytes) → x ≡ u.indices → length o ≡ length reply → CanList t m table l.nonces x nodes o
  leaves_ask x o e f = subst (λ (y : List ℕ). CanList t m table l.nonces y nodes o) (sym e) (can_list o f)

  -- ---- the whole

  abbrev leaf_part : List ℕ → Bytes
  leaf_part ix = flatten (map (leaf_record t table l.nonces) ix) ++ flatten (opened 2 t.h (all_parts nodes) ix)

  -- the second half written after the first
  halves_are : (k : ℕ) (a x o o₁ o₂ : Bytes) → length a ≡ records_at t m → o₁ ≡ a ++ drop (records_at t m) o
      → o₂ ≡ take (records_at t m) o₁ ++ (x ++ drop (records_at t m + k) o₁) → o₂ ≡ (a ++ x) ++ drop (records_at t m + k) o
  halves_are k a x o o₁ o₂ e f h =
      let n : ℕ = records_at t m in
      h
      ∙ ap₂ (λ (y z : Bytes). y ++ (x ++ z))
      (ap (take n) f ∙ take_at a (drop n o) n e)
      (sym (drop-drop k n o₁) ∙ ap (drop k) (ap (drop n) f ∙ drop_at a (drop n o) n e) ∙ drop-drop k n o)
      ∙ sym (append_assoc a x (drop (n + k) o))

  whole : (v : ℕ) (o₁ o₂ : Bytes) → o₁ ≡ sums u ext l.masks ++ drop (records_at t m) reply → v ≡ nodes_at t m + 32 * length (missing 2 t.h u.indices)
      → o₂ ≡ take (records_at t m) o₁ ++ (leaf_part u.indices ++ drop v o₁) → o₂ ≡ reply_of u l table nodes ++ drop v reply
  unfolding reply_of
  whole v o₁ o₂ e₁ ev e₂ =
      let k : ℕ = v - records_at t m in
      let z : v ≡ records_at t m + k = omega (arith, ev) in
      let B : Bytes = bytes_of (flatten (opened_batching u l)) in
      let C : Bytes = bytes_of (flatten (opened_answers u l)) in
      halves_are k (sums u ext l.masks) (leaf_part u.indices) reply o₁ o₂ (sums-length t m question ext l.masks) e₁
      (e₂ ∙ ap (λ (j : ℕ). take (records_at t m) o₁ ++ (leaf_part u.indices ++ drop j o₁)) z)
      ∙ ap₂ (λ (y : Bytes) (j : ℕ). y ++ drop j reply)
      (ap (λ (y : Bytes). y ++ leaf_part u.indices) answers_are ∙ append_assoc B C (leaf_part u.indices))
      (sym z)

  pub reply_are : (v : ℕ) (ix : List ℕ) (o₁ o₂ : Bytes) → ix ≡ u.indices → o₁ ≡ sums u ext l.masks ++ drop (records_at t m) reply
      → v ≡ nodes_at t m + 32 * length (missing 2 t.h ix) → o₂ ≡ take (records_at t m) o₁ ++ (leaf_part ix ++ drop v o₁)
      → (v ≡ reply_length u) × (o₂ ≡ reply_of u l table nodes ++ drop v reply)
  reply_are v ix o₁ o₂ ei e₁ ev e₂ =
      let w : v ≡ nodes_at t m + 32 * length (missing 2 t.h u.indices) = ev ∙ ap (λ (y : List ℕ). nodes_at t m + 32 * length (missing 2 t.h y)) ei in (
        w,
        whole v o₁ o₂ e₁ w (e₂ ∙ ap (λ (y : List ℕ). take (records_at t m) o₁ ++ (leaf_part y ++ drop v o₁)) ei),
      )

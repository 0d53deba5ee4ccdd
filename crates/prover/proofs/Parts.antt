-- The parts of a proof in the buffer, and what it takes to write them.

use mathlib.Core.Path.{◌≡◌, sym, ap, ap₂, ◌∙◌, subst}
use mathlib.Core.List.{List, ◌++◌, map, flatten, append_assoc, []}
use Prim.Native.Nat.{ℕ, ◌+◌, ◌-◌, ◌*◌, ◌≤◌, ◌<◌}
use native.Mathlib.Nat.{mul-one, mul-le-mul, zero-add}
use native.Mathlib.Omega.{arith}
use lib.ListN.{length, take, drop, length-drop, length-append}
use lib.Seq.{take_at, drop_at, drop-drop}
use borrow.Rule.Slice.PartMut.{put_mid}
use Rattle.lists.specs.Bytes.{Bytes, length-little_endian, doubles}
use Rattle.lists.specs.Parts.{put_tail, mid_tail}
use Rattle.lists.specs.Spliced.{spliced, spliced_more}
use Rattle.tree.specs.Sets.{missing}
use Rattle.tree.specs.Tree.{all_parts, opened}
use Rattle.tree.specs.Clauses.{IndexSet}
use Rattle.scheme.specs.Sizes.{Sizes, SizesInOrder, leaves}
use Rattle.scheme.specs.Reply.{record_length, records_at, nodes_at}
use Rattle.scheme.specs.Commit.{leaf_record}
use Rattle.scheme.proofs.Parts.{filled_lengths, tree_length}
use Rattle.fiat_shamir.specs.Draw.{drawn_indices, ranks_at}
use Rattle.fiat_shamir.specs.Prove.{counter_length, counter_bytes}
use Rattle.fiat_shamir.proofs.Drawn.{Leaves, drawn-leaves}
use Rattle.fiat_shamir.proofs.Ranks.{drawn_by_ranks}
use Rattle.fiat_shamir.specs.Ranks.{drawn_into}
use Rattle.commitment.proofs.Places.{nodes_high}
use Rattle.tree.proofs.Counts.{missing_bound}
use Rattle.opener.specs.Parts.{CanList}
use Rattle.prover.specs.Parts.{CanOpen, CanDraw, proof_with}

-- ---- counter and answers at the front, and the leaves' part through the rest

module _ (s : Sizes) (m : ℕ) (answers : Bytes) (indices table : List ℕ) (nonces nodes o : Bytes) (can : CanOpen s m answers indices table nonces nodes o) where
  abbrev opening : Bytes
  opening = flatten (map (leaf_record s table nonces) indices) ++ flatten (opened 2 s.h (all_parts nodes) indices)

  -- the buffer after its first four bytes
  pub room : counter_length + (nodes_at s m + 32 * length (missing 2 s.h indices)) ≤ length o
  room =
      let some : 1 ≤ record_length s * s.ℓ = mul-le-mul {n₁ = 1} {m₁ = 1} (omega arith) can.listed.sizes.ℓ-low in
      omega (arith, can.listed.room, length-drop counter_length o, some)

  pub answers_room : counter_length + length answers ≤ length o
  answers_room = omega (arith, can.answered, room)

  -- o₁ has the counter and the answers
  module _ (c : ℕ) (o₁ o₂ : Bytes) (h₁ : o₁ ≡ spliced 0 4 (counter_bytes c) o) (h₂ : o₂ ≡ spliced counter_length (length answers) answers o₁) where
    fronts : o₂ ≡ (counter_bytes c ++ answers) ++ drop (counter_length + length answers) o
    fronts =
        h₂ ∙ ap (spliced counter_length (length answers) answers) h₁
        ∙ spliced_more 0 counter_length (counter_bytes c) o (length-little_endian counter_length c) (omega (arith, answers_room)) (length answers) answers
        ∙ ap (λ (n : ℕ). (counter_bytes c ++ answers) ++ drop n o) (zero-add (counter_length + length answers))

    same_room : length o₂ ≡ length o
    same_room =
        ap length fronts ∙ length-append (counter_bytes c ++ answers) (drop (counter_length + length answers) o)
        ∙ omega (arith, length-append (counter_bytes c) answers, length-little_endian counter_length c, length-drop (counter_length + length answers) o, answers_room)

    after_counter : drop counter_length o₂ ≡ answers ++ drop (counter_length + length answers) o
    after_counter =
        ap (drop counter_length) (fronts ∙ append_assoc (counter_bytes c) answers (drop (counter_length + length answers) o))
        ∙ drop_at (counter_bytes c) (answers ++ drop (counter_length + length answers) o) counter_length (length-little_endian counter_length c)

    pub leaves_ask : (x : Bytes) → x ≡ take (length o₂ - counter_length) (drop counter_length o₂) → CanList s m table nonces indices nodes x
    leaves_ask x e =
        let size : length x ≡ length (drop counter_length o) = ap length (e ∙ mid_tail counter_length o₂) ∙ length-drop counter_length o₂ ∙ omega (arith, same_room, length-drop counter_length o) in
        record {
          sizes = can.listed.sizes;
          points = can.listed.points;
          recorded = can.listed.recorded;
          count = can.listed.count;
          set = can.listed.set;
          tree_length = can.listed.tree_length;
          room = omega (arith, size, can.listed.room);
          small = omega (arith, size, can.listed.small);
        }

    -- the leaves' part comes back after the answers, and the rest of the buffer stays
    pub proof_put : (r : ℕ) (x y : Bytes) → x ≡ take (length o₂ - counter_length) (drop counter_length o₂) → r ≡ nodes_at s m + 32 * length (missing 2 s.h indices)
        → y ≡ take (records_at s m) x ++ (opening ++ drop r x)
        → put_mid counter_length (length o₂ - counter_length) o₂ y ≡ proof_with s table nonces nodes c answers indices ++ drop (counter_length + r) o
    proof_put r x y ex er h =
        let k : ℕ = r - records_at s m in
        let rk : records_at s m + k ≡ r = omega (arith, er) in
        let whole : x ≡ answers ++ drop (counter_length + length answers) o = ex ∙ mid_tail counter_length o₂ ∙ after_counter in
        let la : length answers ≡ records_at s m = can.answered in
        let rest : drop r x ≡ drop (counter_length + r) o =
        ap (λ (n : ℕ). drop n x) (sym rk) ∙ sym (drop-drop k (records_at s m) x)
        ∙ ap (drop k) (ap (drop (records_at s m)) whole ∙ drop_at answers (drop (counter_length + length answers) o) (records_at s m) la)
        ∙ drop-drop k (counter_length + length answers) o ∙ ap (λ (n : ℕ). drop n o) (end k rk la) in
        put_tail counter_length o₂ y
        ∙ ap₂ (λ (a z : Bytes). a ++ z) front
        (h ∙ ap₂ (λ (a z : Bytes). a ++ (opening ++ z)) (ap (take (records_at s m)) whole ∙ take_at answers (drop (counter_length + length answers) o) (records_at s m) la) rest
        ∙ sym (append_assoc answers opening (drop (counter_length + r) o)))
        ∙ sym (append_assoc (counter_bytes c) (answers ++ opening) (drop (counter_length + r) o))
      where
        end : (k : ℕ) → records_at s m + k ≡ r → length answers ≡ records_at s m → counter_length + length answers + k ≡ counter_length + r
        end k e f = omega (arith, e, f)

        front : take counter_length o₂ ≡ counter_bytes c
        front =
            ap (take counter_length) (fronts ∙ append_assoc (counter_bytes c) answers (drop (counter_length + length answers) o))
            ∙ take_at (counter_bytes c) (answers ++ drop (counter_length + length answers) o) counter_length (length-little_endian counter_length c)

-- ---- leaves by draw

module _ (s : Sizes) (m : ℕ) (answers drawn : Bytes) (table : List ℕ) (nonces nodes proof : Bytes) (can : CanDraw s m answers drawn table nonces nodes proof) where
  abbrev indices : List ℕ
  indices = drawn_indices s drawn

  ls : Leaves s indices
  ls = drawn-leaves s can.sizes drawn

  set : IndexSet s.h indices
  set = record {
    depth = can.sizes.h_high;
    some = subst (λ (n : ℕ). 0 < n) (sym ls.count) can.sizes.ℓ-low;
    few = subst (λ (n : ℕ). n ≤ 64) (sym ls.count) can.sizes.ℓ-high;
    rising = ls.rise;
    leaves = ls.inside;
  }

  -- their missing nodes fit
  fits : length (missing 2 s.h indices) ≤ s.ℓ * s.h
  fits = omega (arith, missing_bound 1 s.h indices ls.rise, ap (λ (n : ℕ). n * s.h) (mul-one (length indices)), ap (λ (n : ℕ). n * s.h) ls.count)

  pub open_ask : (is : List ℕ) → is ≡ indices → CanOpen s m answers is table nonces nodes proof
  open_ask is e = subst (λ (x : List ℕ). CanOpen s m answers x table nonces nodes proof) (sym e) (record {
    answered = can.answered;
    listed = record {
      sizes = can.sizes;
      points = can.points;
      recorded = record { sizes = can.sizes; values = (filled_lengths s table nodes can.filled).0; nonce = can.nonce; leaf = ls.inside };
      count = ls.count;
      set = set;
      tree_length = tree_length s table nodes can.filled;
      room = omega (arith, can.room, fits, length-drop counter_length proof);
      small = omega (arith, can.room, length-drop counter_length proof, nodes_high s can.sizes m can.points, mul-le-mul {n₂ = 64} {m₂ = 12} can.sizes.ℓ-high can.sizes.h_high);
    };
  })

-- the leaves that the walk leaves are those of the definition
pub leaves-drawn : (s : Sizes) (x : Bytes) → SizesInOrder s → (n k : ℕ) (is : List ℕ) → n ≡ leaves s → k ≡ s.ℓ → is ≡ drawn_into n [] (doubles k (drop ranks_at x)) → is ≡ drawn_indices s x
leaves-drawn s x g n k is en ek e = e ∙ ap₂ (λ (a b : ℕ). drawn_into a [] (doubles b (drop ranks_at x))) en ek ∙ sym (drawn_by_ranks s g x)

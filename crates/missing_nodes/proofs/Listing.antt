-- What a turn of `list_children` does, on lists.
use mathlib.Core.Bool.{true, false}
use mathlib.Core.List.{List, ◌++◌, map, flatten, append-nil}
use mathlib.Core.Path.{◌≡◌, sym, ap, ◌∙◌}
use Prim.Native.Nat.{ℕ, suc, ◌+◌, ◌*◌, ◌/◌, ◌≤◌, ◌<◌, ◌-◌}
use native.Mathlib.Omega.{arith}
use lib.ListN.{length, take, drop, length-drop}
use lib.Seq.{take-length, drop-drop, paste, drop-paste}
use Rattle.lists.specs.Bytes.{Bytes}
use Rattle.missing_nodes.specs.Clauses.{CanList, Listed}
use Rattle.tree.specs.Tree.{at, all_parts}
use Rattle.tree.specs.Walk.{used, skipped, heads}
use Rattle.tree.proofs.Children.{used_own, used_listed, used_most, skipped_own, skipped_listed, next_filled}
use Rattle.tree.proofs.Digests.{copy_part}
use Rattle.lists.specs.Drops.{tail-drop}

pub record Listing (first b : ℕ) (s : List ℕ) (ds : List Bytes) (start : ℕ) (out₀ : Bytes) (a₀ t₀ : ℕ) (out : Bytes) (a t c left : ℕ) : Type 0 where
  pub number : c + left ≡ first + b
  pub from : first ≤ c
  pub own : a + used c left (drop a s) ≡ a₀ + used first b (drop a₀ s)
  pub both : a + t + left ≡ a₀ + t₀ + b
  pub written : take (32 * t) out ++ flatten (map (λ q. at ds (start + q)) (skipped c left (drop a s)))
      ≡ take (32 * t₀) out₀ ++ flatten (map (λ q. at ds (start + q)) (skipped first b (drop a₀ s)))
  pub rest : drop (32 * t) out ≡ drop (32 * t) out₀
  pub same : length out ≡ length out₀

module _ {first b : ℕ} {s : List ℕ} {ds : List Bytes} {start : ℕ} {out₀ : Bytes} {a₀ t₀ : ℕ} {out : Bytes} {a t c left : ℕ}
    (g : Listing first b s ds start out₀ a₀ t₀ out a t c left) (pos : 0 < left) where
  pub listing_own : heads (drop a s) c ≡ true → Listing first b s ds start out₀ a₀ t₀ out (a + 1) t (c + 1) (left - 1)
  listing_own e = record {
    number = omega (arith, g.number);
    from = omega (arith, g.from);
    own = omega (arith, g.own, used_own c left (drop a s) pos e ∙ ap (λ (r : List ℕ). suc (used (c + 1) (left - 1) r)) (tail-drop s a));
    both = omega (arith, g.both);
    written =
        ap (λ (r : List ℕ). take (32 * t) out ++ flatten (map (λ q. at ds (start + q)) r))
        (sym (skipped_own c left (drop a s) pos e ∙ ap (skipped (c + 1) (left - 1)) (tail-drop s a)))
        ∙ g.written;
    rest = g.rest;
    same = g.same;
  }

  -- there is room for one more
  listing_room : heads (drop a s) c ≡ false → (m : ℕ) → 32 * (t₀ + (b - used first b (drop a₀ s))) ≤ m → 32 * t + 32 ≤ m
  listing_room e m h =
      omega (arith, g.own, g.both, h, used_listed c left (drop a s) pos e, used_most (c + 1) (left - 1) (drop a s), used_most first b (drop a₀ s))

  pub listing_listed : {out' : Bytes} → heads (drop a s) c ≡ false → length out' ≡ length out
      → take (32 * t + 32) out' ≡ take (32 * t) out ++ at ds (start + c) → drop (32 * t + 32) out' ≡ drop (32 * t + 32) out
      → Listing first b s ds start out₀ a₀ t₀ out' a (t + 1) (c + 1) (left - 1)
  listing_listed {out'} e l q d =
      let n : 32 * t + 32 ≡ 32 * (t + 1) = omega arith in
      record {
        number = omega (arith, g.number);
        from = omega (arith, g.from);
        own = omega (arith, g.own, used_listed c left (drop a s) pos e);
        both = omega (arith, g.both);
        written =
            next_filled (take (32 * t) out) (take (32 * (t + 1)) out') (at ds (start + c)) (map (λ q. at ds (start + q)) (skipped c left (drop a s))) _
            (ap (λ (k : ℕ). take k out') (sym n) ∙ q) (ap (map (λ q. at ds (start + q))) (skipped_listed c left (drop a s) pos e))
            ∙ g.written;
        rest =
            ap (λ (k : ℕ). drop k out') (sym n) ∙ d ∙ sym (drop-drop 32 (32 * t) out) ∙ ap (drop 32) g.rest ∙ drop-drop 32 (32 * t) out₀ ∙ ap (λ (k : ℕ). drop k out₀) n;
        same = l ∙ g.same;
      }

pub listing_done : {first b : ℕ} {s : List ℕ} {ds : List Bytes} {start : ℕ} {out₀ : Bytes} {a₀ t₀ : ℕ} {out : Bytes} {a t c left : ℕ} → left ≡ 0
    → Listing first b s ds start out₀ a₀ t₀ out a t c left → Listed first b s ds start out₀ out a₀ t₀ a t
unfolding skipped used flatten
listing_done {first} {b} {s} {ds} {start} {out₀} {a₀} {t₀} {out} {a} {t} {c} {left} z g =
    let u : used c left (drop a s) ≡ 0 = ap (λ (k : ℕ). used c k (drop a s)) z in
    record {
      written =
          sym (append-nil (take (32 * t) out))
          ∙ ap (λ (k : ℕ). take (32 * t) out ++ flatten (map (λ q. at ds (start + q)) (skipped c k (drop a s)))) (sym z) ∙ g.written;
      rest = g.rest;
      own = omega (arith, g.own);
      listed = omega (arith, g.own, g.both, used_most first b (drop a₀ s));
    }

-- .. in out
pub listing_fits : {first b : ℕ} {s : List ℕ} {ds : List Bytes} {tree : Bytes} {start : ℕ} {out₀ : Bytes} {a₀ t₀ : ℕ} {out : Bytes} {a t c left : ℕ}
    → CanList first b s (length s) a₀ tree start out₀ t₀ → Listing first b s ds start out₀ a₀ t₀ out a t c left → 0 < left → heads (drop a s) c ≡ false
    → 32 * t + 32 ≤ length out
listing_fits {out₀ = out₀} can g pos e = omega (arith, listing_room g pos e (length out₀) (rw take-length at can.room), g.same)

-- a digest of the tree is copied to place t
module _ (out tree : Bytes) (t j : ℕ) {out' : Bytes} (e : out' ≡ paste out (32 * t) (drop (32 * j) tree) 32) (room : 32 * t + 32 ≤ length out) (has : j < length tree / 32) where
  pub copy_node : take (32 * t + 32) out' ≡ take (32 * t) out ++ at (all_parts tree) j
  unfolding all_parts
  copy_node = ap (take (32 * t + 32)) e ∙ copy_part out tree (32 * t) j (length tree / 32) room has (omega arith)

  pub copy_rest : drop (32 * t + 32) out' ≡ drop (32 * t + 32) out
  copy_rest = ap (drop (32 * t + 32)) e ∙ drop-paste out (32 * t) (drop (32 * j) tree) 32 (omega arith) (omega (arith, length-drop (32 * j) tree))

-- What a turn of `gather_children` does, on lists.
use mathlib.Core.Bool.{true, false}
use mathlib.Core.List.{List, [], ◌++◌, flatten, append-nil}
use mathlib.Core.Path.{◌≡◌, sym, ap, ◌∙◌}
use Prim.Native.Nat.{ℕ, suc, ◌+◌, ◌*◌, ◌/◌, ◌≤◌, ◌<◌, ◌-◌}
use native.Mathlib.Omega.{arith}
use lib.ListN.{length, take, drop}
use lib.Seq.{take_all, take-length}
use borrow.Rule.Slice.PartMut.{put_mid}
use Rattle.lists.specs.Bytes.{Bytes}
use Rattle.tree_root.specs.Clauses.{CanGather, Gathered}
use Rattle.tree.specs.Tree.{at, parts}
use Rattle.tree.specs.Walk.{used, fill, heads}
use Rattle.tree.proofs.Children.{fill_own, fill_listed, used_own, used_listed, used_most, next_filled}
use Rattle.tree.proofs.Digests.{at_drop, copy_part}
use Rattle.digests.proofs.Copies.{put_span, span_kept}
use Rattle.lists.specs.Drops.{tail-drop}

-- buf is filled for all children but the last left ones, of which c is the first
pub record Gathering (first b : ℕ) (s : List ℕ) (ds ns : List Bytes) (pre : Bytes) (off a₀ t₀ len : ℕ) (buf : Bytes) (a t c left : ℕ) : Type 0 where
  pub size : length buf ≡ len
  pub most : left ≤ b
  pub number : c + left ≡ first + b
  pub own : a + used c left (drop a s) ≡ a₀ + used first b (drop a₀ s)
  pub both : a + t + left ≡ a₀ + t₀ + b
  pub filled : take (off + 32 * (b - left)) buf ++ flatten (fill c left (drop a s) (drop a ds) (drop t ns))
      ≡ pre ++ flatten (fill first b (drop a₀ s) (drop a₀ ds) (drop t₀ ns))

module _ {first b : ℕ} {s : List ℕ} {ds ns : List Bytes} {pre : Bytes} {off a₀ t₀ len : ℕ} {buf : Bytes} {a t c left : ℕ}
    (g : Gathering first b s ds ns pre off a₀ t₀ len buf a t c left) (pos : 0 < left) where
  -- the next child's place
  next_place : off + 32 * (b - left) + 32 ≡ off + 32 * (b - (left - 1))
  next_place = omega (arith, g.most)

  pub gathering_place : off + 32 * b ≡ len → off + 32 * (b - left) + 32 ≤ length buf
  gathering_place e = omega (arith, g.size, g.most)

  pub gathering_own : {buf' : Bytes} → heads (drop a s) c ≡ true → length buf' ≡ length buf
      → take (off + 32 * (b - left) + 32) buf' ≡ take (off + 32 * (b - left)) buf ++ at ds a
      → Gathering first b s ds ns pre off a₀ t₀ len buf' (a + 1) t (c + 1) (left - 1)
  gathering_own {buf'} e l q = record {
    size = l ∙ g.size;
    most = omega (arith, g.most);
    number = omega (arith, g.number);
    own = omega (arith, g.own, used_own c left (drop a s) pos e ∙ ap (λ (r : List ℕ). suc (used (c + 1) (left - 1) r)) (tail-drop s a));
    both = omega (arith, g.both);
    filled =
        next_filled (take (off + 32 * (b - left)) buf) (take (off + 32 * (b - (left - 1))) buf') (at ds a) (fill c left (drop a s) (drop a ds) (drop t ns)) _
        (ap (λ (k : ℕ). take k buf') (sym next_place) ∙ q)
        (fill_own c left (drop a s) (drop a ds) (drop t ns) pos e ∙ rw (at_drop ds a, tail-drop s a, tail-drop ds a))
        ∙ g.filled;
  }

  pub gathering_listed : {buf' : Bytes} → heads (drop a s) c ≡ false → length buf' ≡ length buf
      → take (off + 32 * (b - left) + 32) buf' ≡ take (off + 32 * (b - left)) buf ++ at ns t
      → Gathering first b s ds ns pre off a₀ t₀ len buf' a (t + 1) (c + 1) (left - 1)
  gathering_listed {buf'} e l q = record {
    size = l ∙ g.size;
    most = omega (arith, g.most);
    number = omega (arith, g.number);
    own = omega (arith, g.own, used_listed c left (drop a s) pos e);
    both = omega (arith, g.both);
    filled =
        next_filled (take (off + 32 * (b - left)) buf) (take (off + 32 * (b - (left - 1))) buf') (at ns t) (fill c left (drop a s) (drop a ds) (drop t ns)) _
        (ap (λ (k : ℕ). take k buf') (sym next_place) ∙ q)
        (fill_listed c left (drop a s) (drop a ds) (drop t ns) pos e ∙ rw (at_drop ns t, tail-drop ns t))
        ∙ g.filled;
  }

  -- a child that the set does not have is among the nodes
  gathering_room : heads (drop a s) c ≡ false → (m : ℕ) → t₀ + (b - used first b (drop a₀ s)) ≤ m → t < m
  gathering_room e m h =
      omega (arith, g.own, g.both, h, used_listed c left (drop a s) pos e, used_most (c + 1) (left - 1) (drop a s), used_most first b (drop a₀ s))

-- a child that the set does not have, where the set is a whole slice, is among the nodes
pub gathering_among : {first b : ℕ} {s : List ℕ} {ds ns : List Bytes} {pre : Bytes} {off a₀ t₀ len : ℕ} {buf : Bytes} {a t c left : ℕ} {dig nodes buf₀ : Bytes}
    → CanGather first b s (length s) a₀ dig nodes t₀ buf₀ off → Gathering first b s ds ns pre off a₀ t₀ len buf a t c left → 0 < left → heads (drop a s) c ≡ false
    → t < length nodes / 32
gathering_among {nodes = nodes} can g pos e = gathering_room g pos e (length nodes / 32) (rw take-length at can.listed)

-- digest j of the row x, copied to the place `to` of buf
module _ (buf x : Bytes) (to k j m : ℕ) {y : Bytes} (size : k ≡ 32) (copied : y ≡ take (32 * j + 32 - 32 * j) (drop (32 * j) x)) (room : to + 32 ≤ length buf) (has : j < m)
    (whole : 32 * m ≤ length x) where
  pub digest-put : {p : ℕ} → p ≡ to → take (p + 32) (put_mid to k buf y) ≡ take p buf ++ at (parts m x) j
  digest-put e = rw e (ap (take (to + 32)) (put_span buf x to k (32 * j) 32 size copied) ∙ copy_part buf x to j m room has whole)

  pub digest-kept : length (put_mid to k buf y) ≡ length buf
  digest-kept = span_kept buf x to k (32 * j) 32 size copied room (omega arith)

pub gathering_done : {first b : ℕ} {s : List ℕ} {ds ns : List Bytes} {pre : Bytes} {off a₀ t₀ len : ℕ} {buf : Bytes} {a t c left : ℕ}
    → off + 32 * b ≡ len → left ≡ 0 → Gathering first b s ds ns pre off a₀ t₀ len buf a t c left → Gathered first b s ds ns pre buf a₀ t₀ a t
unfolding fill used flatten
gathering_done {first} {b} {s} {ds} {ns} {off = off} {a₀} {buf = buf} {a} {t} {c} {left} room z g =
    let to : ℕ = off + 32 * (b - left) in
    let u : used c left (drop a s) ≡ 0 = ap (λ (k : ℕ). used c k (drop a s)) z in
    let ends : length buf ≤ to = omega (arith, g.size) in
    record {
      filled =
          sym (append-nil buf) ∙ ap (λ (x : Bytes). x ++ []) (sym (take_all to buf ends))
          ∙ ap (λ (k : ℕ). take to buf ++ flatten (fill c k (drop a s) (drop a ds) (drop t ns))) (sym z) ∙ g.filled;
      own = omega (arith, g.own);
      listed = omega (arith, g.own, g.both, used_most first b (drop a₀ s));
    }

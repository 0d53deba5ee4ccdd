-- One word more: the leaves chosen so far, with the one that the word names.
use mathlib.Core.Path.{◌≡◌, refl, sym, ap, ap₂, ◌∙◌}
use mathlib.Core.List.{List, [], ◌∷◌, ◌++◌, append_assoc}
use Prim.Native.Nat.{ℕ, suc, ◌+◌, ◌-◌, ◌*◌, ◌%◌, ◌≤◌, ◌<◌}
use native.Mathlib.Nat.{sub-zero}
use native.Mathlib.Omega.{arith}
use lib.ListN.{length, take, drop, length-append, length-drop}
use lib.Seq.{take_at, take-take, drop_at, length-take-le, take-add}
use Rattle.lists.specs.Bytes.{Bytes, from_bytes, doubles}
use Rattle.lists.specs.Numbers.{numbers_next}
use Rattle.lists.specs.Pieces.{pieces}
use Rattle.lists.specs.Snoc.{snoc}
use Rattle.lists.specs.Sorted.{inserted}
use Rattle.fiat_shamir.specs.Ranks.{ranked, drawn_into}
use Rattle.fiat_shamir.proofs.Drawn.{length-doubles}
use Rattle.leaf_draw.specs.Place.{place_of}
use Rattle.leaf_draw.proofs.Place.{ranked_place, inserted_place}

pub drawn_none : (n : ℕ) (x : Bytes) → [] ≡ drawn_into n [] (doubles 0 x)
unfolding drawn_into pieces
drawn_none n x = refl

-- the last word is modulo what is unused then
drawn_next : (n : ℕ) (used ws : List ℕ) (x : ℕ)
    → drawn_into n used (snoc ws x) ≡ inserted (ranked (x % (n - length ws)) (drawn_into n used ws)) (drawn_into n used ws)
unfolding drawn_into
drawn_next n used [] x = ap (λ (k : ℕ). inserted (ranked (x % k) used) used) (sym (sub-zero n))
drawn_next n used (w ∷ ws) x =
    let us : List ℕ = inserted (ranked (w % n) used) used in
    let e : n - 1 - length ws ≡ n - suc (length ws) = omega arith in
    drawn_next (n - 1) us ws x ∙ ap (λ (k : ℕ). inserted (ranked (x % k) (drawn_into (n - 1) us ws)) (drawn_into (n - 1) us ws)) e

-- of a list whose first j elements are moved, the first j + 1
moved_front : (o : List ℕ) (j k x : ℕ) → k ≤ j → j < length o
    → take (j + 1) (take k o ++ ((x ∷ take (j - k) (drop k o)) ++ drop (j + 1) o)) ≡ take k (take j o) ++ (x ∷ drop k (take j o))
moved_front o j k x l h =
    let ys : List ℕ = x ∷ take (j - k) (drop k o) in
    let e : k + (j - k) ≡ j = omega arith in
    let ks : length (take k o) ≡ k = length-take-le k o (omega arith) in
    let size : length (take k o ++ ys) ≡ j + 1 = length-append (take k o) ys ∙ omega (arith, ks, length-take-le (j - k) (drop k o) (omega (arith, length-drop k o))) in
    let rest : drop k (take j o) ≡ take (j - k) (drop k o) =
    ap (λ (i : ℕ). drop k (take i o)) (sym e) ∙ ap (drop k) (take-add k (j - k) o) ∙ drop_at (take k o) (take (j - k) (drop k o)) k ks in
    ap (take (j + 1)) (sym (append_assoc (take k o) ys (drop (j + 1) o)))
    ∙ take_at (take k o ++ ys) (drop (j + 1) o) (j + 1) size
    ∙ ap₂ (λ (a b : List ℕ). a ++ (x ∷ b)) (sym (take-take k j o l)) (sym rest)

module _ (n : ℕ) (draw : Bytes) (at j : ℕ) (o out : List ℕ) (inside : j < length o) (so_far : take j o ≡ drawn_into n [] (doubles j (drop at draw))) where
  -- word j names the leaf of this rank among the unused ones, and it is put at its place
  pub walk_next : (w k : ℕ) → w ≡ from_bytes (take 8 (drop (at + 8 * j) draw)) → k ≡ place_of (w % (n - j)) (take j o) → k ≤ j
      → out ≡ take k o ++ (((w % (n - j) + k) ∷ take (j - k) (drop k o)) ++ drop (j + 1) o)
      → take (j + 1) out ≡ drawn_into n [] (doubles (j + 1) (drop at draw))
  walk_next w k ew ek few e =
      let ws : List ℕ = doubles j (drop at draw) in
      let us : List ℕ = take j o in
      let r : ℕ = w % (n - j) in
      ap (take (j + 1)) e
      ∙ moved_front o j k (r + k) few inside
      ∙ ap (λ (p : ℕ). take p us ++ ((r + p) ∷ drop p us)) ek
      ∙ ap (λ (y : ℕ). take (place_of r us) us ++ (y ∷ drop (place_of r us) us)) (sym (ranked_place r us))
      ∙ sym (inserted_place r us)
      ∙ ap₂ (λ (i : ℕ) (t : List ℕ). inserted (ranked (w % (n - i)) t) t) (sym (length-doubles j (drop at draw))) so_far
      ∙ sym (drawn_next n [] ws w)
      ∙ ap (drawn_into n []) (ap (snoc ws) ew ∙ numbers_next 8 j at draw)

-- Answers of n words each, written one after the other.
use mathlib.Core.Path.{◌≡◌, sym, ap, ap₂, ◌∙◌, subst}
use mathlib.Core.List.{List, map, flatten}
use Prim.Native.Nat.{ℕ, ◌+◌, ◌-◌, ◌*◌, ◌≤◌, ◌<◌}
use native.Mathlib.Nat.{mul_comm}
use lib.ListN.{length, get_or, take, drop}
use Rattle.lists.specs.Bytes.{Bytes, bytes_of, length-bytes_of, bytes_of-flatten}
use Rattle.lists.specs.Parts.{row_fits, span_length}
use Rattle.lists.specs.Spliced.{up_to, up_to_none, up_to_all, up_to_room, up_to_turn, spliced}

module _ (f : ℕ → List ℕ) (xs : List ℕ) (n at : ℕ) (o : Bytes) where
  -- the buffer with the first k of them
  abbrev pub answers_to : ℕ → Bytes
  answers_to k = up_to (λ x. bytes_of (f x)) xs (4 * n) at o k

  pub answers_none : o ≡ answers_to 0
  answers_none = up_to_none (λ x. bytes_of (f x)) xs (4 * n) at o

  module _ (count : ℕ) (counted : length xs ≡ count) where
    pub answers_all : (k : ℕ) → k ≡ count → answers_to k ≡ spliced at (4 * n * count) (bytes_of (flatten (map f xs))) o
    answers_all k e =
        up_to_all (λ x. bytes_of (f x)) xs (4 * n) at o k (e ∙ sym counted)
        ∙ ap₂ (λ (c : ℕ) (x : Bytes). spliced at (4 * n * c) x o) counted (bytes_of-flatten f xs)

    module _ (sized : (x : ℕ) → length (f x) ≡ n) (room : at + 4 * n * count ≤ length o) where
      sizes : (k : ℕ) → k < length xs → length (bytes_of (f (get_or xs k 0))) ≡ 4 * n
      sizes k l = length-bytes_of (f (get_or xs k 0)) ∙ ap (λ (j : ℕ). 4 * j) (sized (get_or xs k 0))

      rooms : at + 4 * n * length xs ≤ length o
      rooms = subst (λ (c : ℕ). at + 4 * n * c ≤ length o) (sym counted) room

      pub answers_room : (k : ℕ) → k < count → at + 4 * n * k + 4 * n ≤ length o
      answers_room k l = up_to_room (λ x. bytes_of (f x)) xs (4 * n) at o sizes rooms k (subst (λ (c : ℕ). k < c) (sym counted) l)

      pub answers_turn : (k : ℕ) (now new : Bytes) → k < count → now ≡ answers_to k → new ≡ spliced (at + 4 * n * k) (4 * n) (bytes_of (f (get_or xs k 0))) now
          → (new ≡ answers_to (k + 1)) × (length new ≡ length o)
      answers_turn k now new l e g = up_to_turn (λ x. bytes_of (f x)) xs (4 * n) at o sizes rooms k now new (subst (λ (c : ℕ). k < c) (sym counted) l) e g

-- ---- the mask of repetition k

module _ (n k η : ℕ) (masks : List ℕ) (whole : length masks ≡ η * n) (l : k < η) where
  mask_room : n * k + n ≤ length masks
  mask_room = subst (λ (j : ℕ). n * k + n ≤ j) (mul_comm n η ∙ sym whole) (row_fits n k η l)

  pub mask_length : length (take (n * k + n - n * k) (drop (n * k) masks)) ≡ n
  mask_length = span_length (n * k) n masks mask_room

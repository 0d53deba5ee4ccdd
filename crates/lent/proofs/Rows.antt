-- A row with its tails: where its elements stand.
use mathlib.Core.Path.{◌≡◌, sym, ap, ap₂, ◌∙◌}
use mathlib.Core.List.{List, map}
use Prim.Native.Nat.{ℕ, ◌+◌, ◌*◌, ◌≤◌, ◌<◌}
use native.Mathlib.Nat.{zero-add}
use native.Mathlib.Omega.{arith}
use lib.ListN.{length, get_or, drop, length-map, length-append, length-drop, get_or-append}
use lib.Seq.{length-take-le, get_or-take, get_or-drop, get_or-append-add}
use Rattle.lists.specs.Range.{up_from, length-up_from, at_run}
use Rattle.lists.specs.Pieces.{piece}
use Rattle.lists.specs.Parts.{row_fits}
use Rattle.scheme.specs.Sizes.{Sizes, rows, columns, width}
use Rattle.scheme.specs.Layers.{Lent, entry, extended}
use Rattle.scheme.proofs.Lent.{Counted}
use Rattle.lent.specs.Rows.{CanLayOut, CanExtend, strided}

-- the lengths, as the laws of the matrix ask for them
pub counted : {s : Sizes} {coefficients blinds : List ℕ} → CanLayOut s coefficients blinds → Counted s coefficients blinds
counted can = record { sizes = can.sizes; c_length = can.coefficients_length; b_length = can.blinds_length }

module _ (s : Sizes) (l : Lent) (can : CanExtend s l.coefficients l.tails l.blinds) where
  abbrev t : List ℕ
  t = l.tails

  tail_room : (j : ℕ) → j < rows s → s.ℓ * j + s.ℓ ≤ length t
  tail_room j h = omega (arith, can.tails-length, row_fits s.ℓ j (rows s) h)

  entries_count : (j : ℕ) → length (map (entry s l j) (up_from 0 (columns s))) ≡ columns s
  entries_count j = length-map (up_from 0 (columns s)) _ ∙ length-up_from 0 (columns s)

  -- first come the row's entries
  pub extended-entry : (j a : ℕ) → a < columns s → get_or (extended s l j) a 0 ≡ entry s l j a
  unfolding extended
  extended-entry j a u =
      get_or-append (map (entry s l j) (up_from 0 (columns s))) (piece s.ℓ j t) 0 a (omega (arith, entries_count j))
      ∙ at_run (entry s l j) 0 (columns s) a 0 u
      ∙ ap (entry s l j) (zero-add a)

  -- and after them come ℓ tails
  pub extended-tail : (j i : ℕ) → j < rows s → i < s.ℓ → get_or (extended s l j) (columns s + i) 0 ≡ strided t (j * s.ℓ) 1 i
  unfolding extended strided
  extended-tail j i h u =
      let e : s.ℓ * j + i ≡ j * s.ℓ + 1 * i = omega arith in
      ap (λ (n : ℕ). get_or (extended s l j) (n + i) 0) (sym (entries_count j))
      ∙ get_or-append-add (map (entry s l j) (up_from 0 (columns s))) (piece s.ℓ j t) i 0
      ∙ get_or-take s.ℓ (drop (s.ℓ * j) t) i 0 u
      ∙ get_or-drop (s.ℓ * j) t i 0
      ∙ ap (λ (k : ℕ). get_or t k 0) e

  pub extended-length : (j : ℕ) → j < rows s → length (extended s l j) ≡ width s
  unfolding extended
  extended-length j h =
      length-append (map (entry s l j) (up_from 0 (columns s))) (piece s.ℓ j t)
      ∙ ap₂ ◌+◌ (entries_count j) (length-take-le s.ℓ (drop (s.ℓ * j) t) (omega (arith, length-drop (s.ℓ * j) t, tail_room j h)))

  -- they stand where the words are
  pub tails_there : (j : ℕ) → j < rows s → j * s.ℓ + 1 * s.ℓ < length t + 1
  tails_there j h = omega (arith, tail_room j h)

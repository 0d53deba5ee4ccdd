-- x at place k of the first n elements, by one store after the other: each place takes what the one before it had.
use mathlib.Core.Path.{◌≡◌, sym, ap, ap₂, ◌∙◌}
use mathlib.Core.List.{List, ◌∷◌, ◌++◌, append_assoc}
use Prim.Native.Nat.{ℕ, suc, ◌+◌, ◌-◌, ◌≤◌, ◌<◌}
use native.Mathlib.Nat.{add-zero, sub_self}
use native.Mathlib.Omega.{arith}
use lib.ListN.{length, get_or, take, drop, set, length-append, length-drop}
use lib.Seq.{length-take-le, get_or-take, get_or-drop, get_or-append-add}
use Rattle.lists.specs.Spliced.{spliced, spliced_none, copy_next, copy_done}

-- the element after a part that was written
get_or-spliced : (at n : ℕ) (p o : List ℕ) → length p ≡ n → at + n ≤ length o → get_or (spliced at n p o) (at + n) 0 ≡ get_or o (at + n) 0
get_or-spliced at n p o e h =
    let xs : List ℕ = take at o ++ p in
    let size : length xs ≡ at + n = length-append (take at o) p ∙ ap₂ ◌+◌ (length-take-le at o (omega arith)) e in
    ap (λ (l : List ℕ). get_or l (at + n) 0) (sym (append_assoc (take at o) p (drop (at + n) o)))
    ∙ ap (λ (i : ℕ). get_or (xs ++ drop (at + n) o) i 0) (sym (add-zero (at + n)) ∙ ap (λ (i : ℕ). i + 0) (sym size))
    ∙ get_or-append-add xs (drop (at + n) o) 0 0
    ∙ get_or-drop (at + n) o 0 0
    ∙ ap (λ (i : ℕ). get_or o i 0) (add-zero (at + n))

module _ (o : List ℕ) (n k x : ℕ) (before : k ≤ n) (inside : n < length o) where
  -- what stands from k on when all is done
  abbrev pub moved : List ℕ
  moved = x ∷ take (n - k) (drop k o)

  moved_length : length moved ≡ suc (n - k)
  moved_length = ap suc (length-take-le (n - k) (drop k o) (omega (arith, length-drop k o)))

  -- with the places from k to i done
  abbrev pub up_to : ℕ → List ℕ
  up_to i = spliced k (i - k) (take (i - k) moved) o

  pub insert_none : o ≡ up_to k
  insert_none = spliced_none k o ∙ ap (λ (j : ℕ). spliced k j (take j moved) o) (sym (sub_self k))

  -- what place i takes
  abbrev pub carried_at : ℕ → ℕ
  carried_at i = get_or moved (i - k) 0

  pub carried_first : x ≡ carried_at k
  carried_first = ap (λ (j : ℕ). get_or moved j 0) (sym (sub_self k))

  pub insert_next : (i : ℕ) → k ≤ i → i ≤ n → set (up_to i) i (carried_at i) ≡ up_to (i + 1)
  insert_next i l h =
      let j : ℕ = i - k in
      let e : k + j ≡ i = omega arith in
      let f : j + 1 ≡ i + 1 - k = omega arith in
      ap (λ (p : ℕ). set (up_to i) p (carried_at i)) (sym e)
      ∙ copy_next k j moved o (omega (arith, moved_length)) (omega (arith, moved_length))
      ∙ ap (λ (p : ℕ). spliced k p (take p moved) o) f

  -- and what it had goes on
  pub carried_next : (i : ℕ) → k ≤ i → i < n → get_or (up_to i) i 0 ≡ carried_at (i + 1)
  carried_next i l h =
      let j : ℕ = i - k in
      let e : k + j ≡ i = omega arith in
      let f : suc j ≡ i + 1 - k = omega arith in
      ap (λ (p : ℕ). get_or (up_to i) p 0) (sym e)
      ∙ get_or-spliced k j (take j moved) o (length-take-le j moved (omega (arith, moved_length))) (omega arith)
      ∙ sym (get_or-take (n - k) (drop k o) j 0 (omega arith) ∙ get_or-drop k o j 0)
      ∙ ap (λ (p : ℕ). get_or moved p 0) f

  pub insert_all : set (up_to n) n (carried_at n) ≡ take k o ++ (moved ++ drop (n + 1) o)
  insert_all =
      let e : n + 1 - k ≡ length moved = omega (arith, moved_length) in
      let f : k + length moved ≡ n + 1 = omega (arith, moved_length) in
      insert_next n before (omega arith)
      ∙ copy_done k (n + 1 - k) moved o e
      ∙ ap (λ (p : ℕ). take k o ++ (moved ++ drop p o)) f

-- Parities that a round sums along with its planes.
use mathlib.Core.Path.{◌≡◌, refl, sym, ap, ◌∙◌}
use mathlib.Core.List.{List, ◌++◌}
use Prim.Native.Nat.{ℕ, ◌+◌, ◌*◌, ◌%◌}
use lib.Bits.{bit_xor, xor_comm}
use lib.ListN.{get_or}
use Rattle.lists.specs.Tabulate.{tabulate, tabulate_ext}
use Rattle.keccak.specs.Keccak.{effect}
use Rattle.keccak.specs.Lane.{rotl}
use Rattle.keccak.specs.Held.{held}
use Rattle.keccak.specs.Parities.{lanes_of, with_parities, HasParities}
use Rattle.keccak.specs.Xor.{xor_assoc}

swap : (a b c : ℕ) → bit_xor (bit_xor a b) c ≡ bit_xor (bit_xor a c) b
swap a b c = xor_assoc a b c ∙ ap (bit_xor a) (xor_comm b c) ∙ sym (xor_assoc a c b)

-- planes 0, 4, 3, 1, 2, in the order of `round`, or in that of the standard
reordered : (a b c d e : ℕ) → bit_xor (bit_xor (bit_xor (bit_xor a e) d) b) c ≡ bit_xor (bit_xor (bit_xor (bit_xor a b) c) d) e
reordered a b c d e =
    ap (λ (t : ℕ). bit_xor t c) (swap (bit_xor a e) d b)
    ∙ swap (bit_xor (bit_xor a e) b) d c
    ∙ ap (λ (t : ℕ). bit_xor (bit_xor t c) d) (swap a e b)
    ∙ ap (λ (t : ℕ). bit_xor t d) (swap (bit_xor a b) e c)
    ∙ swap (bit_xor (bit_xor a b) c) e d

-- the parity of a column of sheet x, summed as `round` does
abbrev summed : List ℕ → ℕ → ℕ
summed w x = let l : ℕ → ℕ = λ y. get_or w (5 * y + x) 0 in bit_xor (bit_xor (bit_xor (bit_xor (l 0) (l 4)) (l 3)) (l 1)) (l 2)

-- what `round` makes of the lanes that χ and ι leave
abbrev pub carried : List ℕ → List ℕ
carried w = lanes_of w ++ tabulate 5 (summed w)

pub carried_is : (w : List ℕ) → carried w ≡ with_parities w
unfolding with_parities
carried_is w =
    let l : ℕ → ℕ → ℕ = λ x y. get_or w (5 * y + x) 0 in
    let standard : ℕ → ℕ = λ x. bit_xor (bit_xor (bit_xor (bit_xor (l x 0) (l x 1)) (l x 2)) (l x 3)) (l x 4) in
    ap (λ (t : List ℕ). lanes_of w ++ t) (tabulate_ext 5 (summed w) standard (λ x b. reordered (l x 0) (l x 1) (l x 2) (l x 3) (l x 4)))

-- the state array in front, and its parities behind it
pub held_with_parities : (a : List ℕ) → held (with_parities a) ≡ held a
unfolding with_parities
held_with_parities a = refl

pub has_parities : (a : List ℕ) → HasParities (with_parities a)
unfolding with_parities HasParities
has_parities a = refl

-- step 2 of θ, from the parities c
abbrev pub effects : List ℕ → List ℕ
effects c = tabulate 5 (λ x. bit_xor (get_or c ((x + 4) % 5) 0) (rotl (get_or c ((x + 1) % 5) 0) 1))

pub effects_are : (a : List ℕ) → HasParities a → effects (tabulate 5 (λ x. get_or a (25 + x) 0)) ≡ tabulate 5 (effect a)
unfolding HasParities
effects_are a h = ap effects h

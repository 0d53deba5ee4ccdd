-- A round lane by lane: θ, ρ and π at once, then χ, ι and the parities, as the code goes.
use mathlib.Core.Path.{◌≡◌, refl, ap, ◌∙◌}
use mathlib.Core.List.{List, [], ◌∷◌}
use Prim.Native.Nat.{ℕ}
use lib.Bits.{bit_xor}
use lib.ListN.{get_or}
use Rattle.lists.specs.Tabulate.{tabulate}
use Rattle.keccak.specs.Lane.{rotl}
use Rattle.keccak.specs.Keccak.{effect, theta, rho, pi}
use Rattle.keccak.specs.Held.{held, round_with}
use Rattle.keccak.specs.Parities.{with_parities}
use Rattle.keccak.proofs.Chi.{few_complements, round_held}
use Rattle.keccak.proofs.Carried.{carried, carried_is}

-- the lanes that π leaves, where d is what θ adds to the sheets
abbrev pub moved : List ℕ → List ℕ → List ℕ
moved a d =
    rotl (bit_xor (get_or a 0 0) (get_or d 0 0)) 0
    ∷ rotl (bit_xor (get_or a 6 0) (get_or d 1 0)) 44
    ∷ rotl (bit_xor (get_or a 12 0) (get_or d 2 0)) 43
    ∷ rotl (bit_xor (get_or a 18 0) (get_or d 3 0)) 21
    ∷ rotl (bit_xor (get_or a 24 0) (get_or d 4 0)) 14
    ∷ rotl (bit_xor (get_or a 3 0) (get_or d 3 0)) 28
    ∷ rotl (bit_xor (get_or a 9 0) (get_or d 4 0)) 20
    ∷ rotl (bit_xor (get_or a 10 0) (get_or d 0 0)) 3
    ∷ rotl (bit_xor (get_or a 16 0) (get_or d 1 0)) 45
    ∷ rotl (bit_xor (get_or a 22 0) (get_or d 2 0)) 61
    ∷ rotl (bit_xor (get_or a 1 0) (get_or d 1 0)) 1
    ∷ rotl (bit_xor (get_or a 7 0) (get_or d 2 0)) 6
    ∷ rotl (bit_xor (get_or a 13 0) (get_or d 3 0)) 25
    ∷ rotl (bit_xor (get_or a 19 0) (get_or d 4 0)) 8
    ∷ rotl (bit_xor (get_or a 20 0) (get_or d 0 0)) 18
    ∷ rotl (bit_xor (get_or a 4 0) (get_or d 4 0)) 27
    ∷ rotl (bit_xor (get_or a 5 0) (get_or d 0 0)) 36
    ∷ rotl (bit_xor (get_or a 11 0) (get_or d 1 0)) 10
    ∷ rotl (bit_xor (get_or a 17 0) (get_or d 2 0)) 15
    ∷ rotl (bit_xor (get_or a 23 0) (get_or d 3 0)) 56
    ∷ rotl (bit_xor (get_or a 2 0) (get_or d 2 0)) 62
    ∷ rotl (bit_xor (get_or a 8 0) (get_or d 3 0)) 55
    ∷ rotl (bit_xor (get_or a 14 0) (get_or d 4 0)) 39
    ∷ rotl (bit_xor (get_or a 15 0) (get_or d 0 0)) 41
    ∷ rotl (bit_xor (get_or a 21 0) (get_or d 1 0)) 2
    ∷ []

moved_is : (a : List ℕ) → moved a (tabulate 5 (effect a)) ≡ pi (rho (theta a))
moved_is a = refl

pub round_by_lanes : (a d : List ℕ) (k : ℕ) → d ≡ tabulate 5 (effect a) → carried (few_complements (moved a d) k) ≡ with_parities (held (round_with (held a) k))
round_by_lanes a d k e =
    ap (λ (b : List ℕ). carried (few_complements b k)) (ap (moved a) e ∙ moved_is a)
    ∙ ap carried (round_held a k)
    ∙ carried_is (held (round_with (held a) k))

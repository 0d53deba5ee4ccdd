-- SHAKE256 with output of any length, and the same from the state after a prefix's full blocks, for many strings that begin alike. As with `digest`,
-- crates above this one know no definition of these, but their lengths and the laws of proofs/Resumed.
use Rattle.std.specs.Prelude.{◌≡◌, refl, List, ℕ, zero, suc, ◌+◌, ◌*◌, ◌/◌, length, take}
use Rattle.std.proofs.Common.{arith, length-append, length-take-le}
use Rattle.keccak.specs.Keccak.{keccak_f}
use Rattle.keccak.specs.Strings.{bytes}
use Rattle.sponge.specs.Shake.{padded, absorbed, squeezed, shake256}
use Rattle.sponge.specs.Resume.{finished, output}

-- n bytes for the string m
pub draw : List ℕ → ℕ → List ℕ
draw m n = shake256 m n

-- the state after the full blocks of p
pub prefix_state : List ℕ → List ℕ
prefix_state p = absorbed p (length p / 136)

-- n bytes, where a has absorbed the full blocks before t
pub drawn_after : List ℕ → List ℕ → ℕ → List ℕ
drawn_after a t n = output (finished a t) n

-- ---- for the proofs of this crate alone

pub draw_is : (m : List ℕ) (n : ℕ) → draw m n ≡ shake256 m n
unfolding draw
draw_is m n = refl

pub prefix_state_is : (p : List ℕ) → prefix_state p ≡ absorbed p (length p / 136)
unfolding prefix_state
prefix_state_is p = refl

pub drawn_after_is : (a t : List ℕ) (n : ℕ) → drawn_after a t n ≡ output (finished a t) n
unfolding drawn_after
drawn_after_is a t n = refl

-- ---- lengths

pub length-squeezed : (n : ℕ) (a : List ℕ) → length (squeezed n a) ≡ 136 * n
unfolding squeezed
length-squeezed zero a = refl
length-squeezed (suc n) a =
    let size : length (squeezed (suc n) a) ≡ 136 + length (squeezed n (keccak_f a)) = length-append (take 136 (bytes a)) (squeezed n (keccak_f a)) in
    omega (arith, size, length-squeezed n (keccak_f a))

length-output : (a : List ℕ) (n : ℕ) → length (output a n) ≡ n
unfolding output
length-output a n = length-take-le n (squeezed (n / 136 + 1) a) (omega (arith, length-squeezed (n / 136 + 1) a))

pub draw-length : (m : List ℕ) (n : ℕ) → length (draw m n) ≡ n
unfolding draw shake256 output
draw-length m n = length-output (absorbed (padded m) (length (padded m) / 136)) n

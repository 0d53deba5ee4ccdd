-- A round, and so the permutation, leaves 25 lanes.
use Rattle.std.specs.Prelude.{◌≡◌, List, ℕ, suc, length, get_or}
use Rattle.std.specs.Int.Bits.{bit_xor}
use Rattle.std.proofs.Common.{length-set}
use Rattle.keccak.specs.Keccak.{theta, rho, pi, chi, constant, iota, round, rounds, keccak_f}
use Rattle.keccak.specs.Held.{round_with}

pub length-round : (a : List ℕ) (k : ℕ) → length (round_with a k) ≡ 25
length-round a k = length-set (chi (pi (rho (theta a)))) 0 (bit_xor (get_or (chi (pi (rho (theta a)))) 0 0) k)

length-rounds : (n : ℕ) (a : List ℕ) → length (rounds (suc n) a) ≡ 25
unfolding rounds round iota
length-rounds n a = length-round (rounds n a) (constant n)

pub length-keccak_f : (a : List ℕ) → length (keccak_f a) ≡ 25
unfolding keccak_f
length-keccak_f a = length-rounds 23 a

-- χ and ι as the code has them, from lanes of which some are complemented: by De Morgan's laws, what they leave is that of χ and ι with the six lanes
-- complemented.
use mathlib.Core.Path.{◌≡◌, refl, sym, ap, ◌∙◌}
use mathlib.Core.List.{List, [], ◌∷◌}
use Prim.Native.Nat.{ℕ, ◌^◌, ◌<◌}
use Rattle.lists.specs.Tabulate.{tabulate_is, get_d_tabulate}
use lib.Bits.{bit_xor, bit_and, bit_or, xor_zero_r, xor_self}
use lib.Dec.{lit<}
use lib.ListN.{length, get_or}
use Rattle.lists.specs.Number.{number}
use Rattle.keccak.specs.Lane.{bit, rotl, complement}
use Rattle.keccak.specs.Keccak.{theta, rho, pi, chi}
use Rattle.keccak.specs.Held.{ones, masked, six, held, iota_with, round_with}
use Rattle.keccak.proofs.Complement.{added, not_and, or_not, and_both, or_both, not_or, with_mask, with_mask_complement}
use Rattle.keccak.proofs.Linear.{linear, turned_lt}
use Rattle.keccak.proofs.Literal.{cons}
use Rattle.keccak.specs.Xor.{xor_assoc}

-- the mask before χ: what θ, ρ and π make of the six
abbrev pub turned : List ℕ
turned =
    ones ∷ 0 ∷ ones ∷ ones ∷ 0
    ∷ ones ∷ 0 ∷ ones ∷ 0 ∷ 0
    ∷ ones ∷ 0 ∷ ones ∷ 0 ∷ 0
    ∷ 0 ∷ ones ∷ 0 ∷ ones ∷ ones
    ∷ ones ∷ 0 ∷ 0 ∷ ones ∷ 0
    ∷ []

turned_is : pi (rho (theta six)) ≡ turned
unfolding rotl bit number
turned_is = refl

-- what `round` makes of the lanes b that π leaves
abbrev pub few_complements : List ℕ → ℕ → List ℕ
few_complements b k =
    let l : ℕ → ℕ = λ i. get_or b i 0 in
    bit_xor (bit_xor (l 0) (bit_or (l 1) (l 2))) k
    ∷ bit_xor (l 1) (bit_or (complement (l 2)) (l 3))
    ∷ bit_xor (l 2) (bit_and (l 3) (l 4))
    ∷ bit_xor (l 3) (bit_or (l 4) (l 0))
    ∷ bit_xor (l 4) (bit_and (l 0) (l 1))
    ∷ bit_xor (l 5) (bit_or (l 6) (l 7))
    ∷ bit_xor (l 6) (bit_and (l 7) (l 8))
    ∷ bit_xor (l 7) (bit_or (l 8) (complement (l 9)))
    ∷ bit_xor (l 8) (bit_or (l 9) (l 5))
    ∷ bit_xor (l 9) (bit_and (l 5) (l 6))
    ∷ bit_xor (l 10) (bit_or (l 11) (l 12))
    ∷ bit_xor (l 11) (bit_and (l 12) (l 13))
    ∷ bit_xor (l 12) (bit_and (complement (l 13)) (l 14))
    ∷ bit_xor (complement (l 13)) (bit_or (l 14) (l 10))
    ∷ bit_xor (l 14) (bit_and (l 10) (l 11))
    ∷ bit_xor (l 15) (bit_and (l 16) (l 17))
    ∷ bit_xor (l 16) (bit_or (l 17) (l 18))
    ∷ bit_xor (l 17) (bit_or (complement (l 18)) (l 19))
    ∷ bit_xor (complement (l 18)) (bit_and (l 19) (l 15))
    ∷ bit_xor (l 19) (bit_or (l 15) (l 16))
    ∷ bit_xor (l 20) (bit_and (complement (l 21)) (l 22))
    ∷ bit_xor (complement (l 21)) (bit_or (l 22) (l 23))
    ∷ bit_xor (l 22) (bit_and (l 23) (l 24))
    ∷ bit_xor (l 23) (bit_or (l 24) (l 20))
    ∷ bit_xor (l 24) (bit_and (l 20) (l 21))
    ∷ []

module _ (b : List ℕ) (h : (i : ℕ) → i < 25 → get_or b i 0 < 2 ^ 64) where
  abbrev l : ℕ → ℕ
  l i = get_or b i 0

  -- lane i, held with the mask m, and what lanes j and k add to it
  module _ (m i j k : ℕ) (hi : i < 25) (hj : j < 25) (hk : k < 25) where
    abbrev adds : ℕ → ℕ → ℕ
    adds p q = added (l j) (l k) p q

    by_or : bit_xor (l i) (bit_or (l j) (l k)) ≡ bit_xor (bit_xor (bit_xor (l i) m) (adds 0 ones)) (bit_xor m ones)
    by_or = with_mask (l i) m (adds 0 ones) (bit_or (l j) (l k)) ones (or_both (l j) (l k) (h j hj) (h k hk))

    by_and : bit_xor (l i) (bit_and (l j) (l k)) ≡ bit_xor (bit_xor (bit_xor (l i) m) (adds ones 0)) (bit_xor m 0)
    by_and = with_mask (l i) m (adds ones 0) (bit_and (l j) (l k)) 0 (and_both (l j) (l k) (h j hj) (h k hk))

    by_not_or : bit_xor (l i) (bit_or (complement (l j)) (l k)) ≡ bit_xor (bit_xor (bit_xor (l i) m) (adds ones ones)) (bit_xor m ones)
    by_not_or = with_mask (l i) m (adds ones ones) (bit_or (complement (l j)) (l k)) ones (not_or (l j) (l k) (h j hj) (h k hk))

    by_or_not : bit_xor (l i) (bit_or (l j) (complement (l k))) ≡ bit_xor (bit_xor (bit_xor (l i) m) (adds 0 0)) (bit_xor m ones)
    by_or_not = with_mask (l i) m (adds 0 0) (bit_or (l j) (complement (l k))) ones (or_not (l j) (l k) (h j hj) (h k hk))

    by_not_and : bit_xor (l i) (bit_and (complement (l j)) (l k)) ≡ bit_xor (bit_xor (bit_xor (l i) m) (adds 0 0)) (bit_xor m 0)
    by_not_and = with_mask (l i) m (adds 0 0) (bit_and (complement (l j)) (l k)) 0 (not_and (l j) (l k) (h j hj) (h k hk))

    not_by_or : bit_xor (complement (l i)) (bit_or (l j) (l k)) ≡ bit_xor (bit_xor (bit_xor (l i) m) (adds 0 ones)) (bit_xor m (bit_xor ones ones))
    not_by_or = with_mask_complement (l i) m (adds 0 ones) (bit_or (l j) (l k)) ones (h i hi) (or_both (l j) (l k) (h j hj) (h k hk))

    not_by_and : bit_xor (complement (l i)) (bit_and (l j) (l k)) ≡ bit_xor (bit_xor (bit_xor (l i) m) (adds ones 0)) (bit_xor m (bit_xor 0 ones))
    not_by_and = with_mask_complement (l i) m (adds ones 0) (bit_and (l j) (l k)) 0 (h i hi) (and_both (l j) (l k) (h j hj) (h k hk))

  -- the constant comes before the mask, which is 0 there
  constant-last : (x y k : ℕ) → x ≡ bit_xor y 0 → bit_xor x k ≡ bit_xor (bit_xor y k) 0
  constant-last x y k e = ap (λ (v : ℕ). bit_xor v k) (e ∙ xor_zero_r y) ∙ sym (xor_zero_r (bit_xor y k))

  pub chi-turned : (k : ℕ) → few_complements b k ≡ held (iota_with (chi (masked b turned)) k)
  chi-turned k =
      (cons (constant-last (bit_xor (l 0) (bit_or (l 1) (l 2))) (bit_xor (bit_xor (l 0) ones) (bit_and (complement (bit_xor (l 1) 0)) (bit_xor (l 2) ones))) k (by_or ones 0 1 2 (lit< tt) (lit< tt) (lit< tt)))
      (cons (by_not_or 0 1 2 3 (lit< tt) (lit< tt) (lit< tt))
      (cons (by_and ones 2 3 4 (lit< tt) (lit< tt) (lit< tt))
      (cons (by_or ones 3 4 0 (lit< tt) (lit< tt) (lit< tt))
      (cons (by_and 0 4 0 1 (lit< tt) (lit< tt) (lit< tt))
      (cons (by_or ones 5 6 7 (lit< tt) (lit< tt) (lit< tt))
      (cons (by_and 0 6 7 8 (lit< tt) (lit< tt) (lit< tt))
      (cons (by_or_not ones 7 8 9 (lit< tt) (lit< tt) (lit< tt))
      (cons (by_or 0 8 9 5 (lit< tt) (lit< tt) (lit< tt))
      (cons (by_and 0 9 5 6 (lit< tt) (lit< tt) (lit< tt))
      (cons (by_or ones 10 11 12 (lit< tt) (lit< tt) (lit< tt))
      (cons (by_and 0 11 12 13 (lit< tt) (lit< tt) (lit< tt))
      (cons (by_not_and ones 12 13 14 (lit< tt) (lit< tt) (lit< tt))
      (cons (not_by_or 0 13 14 10 (lit< tt) (lit< tt) (lit< tt))
      (cons (by_and 0 14 10 11 (lit< tt) (lit< tt) (lit< tt))
      (cons (by_and 0 15 16 17 (lit< tt) (lit< tt) (lit< tt))
      (cons (by_or ones 16 17 18 (lit< tt) (lit< tt) (lit< tt))
      (cons (by_not_or 0 17 18 19 (lit< tt) (lit< tt) (lit< tt))
      (cons (not_by_and ones 18 19 15 (lit< tt) (lit< tt) (lit< tt))
      (cons (by_or ones 19 15 16 (lit< tt) (lit< tt) (lit< tt))
      (cons (by_not_and ones 20 21 22 (lit< tt) (lit< tt) (lit< tt))
      (cons (not_by_or 0 21 22 23 (lit< tt) (lit< tt) (lit< tt))
      (cons (by_and 0 22 23 24 (lit< tt) (lit< tt) (lit< tt))
      (cons (by_or ones 23 24 20 (lit< tt) (lit< tt) (lit< tt))
      (cons (by_and 0 24 20 21 (lit< tt) (lit< tt) (lit< tt))
      refl)))))))))))))))))))))))))

-- ---- a round of what is held

pub round_held : (a : List ℕ) (k : ℕ) → few_complements (pi (rho (theta a))) k ≡ held (round_with (held a) k)
round_held a k =
    let b : List ℕ = pi (rho (theta a)) in
    chi-turned b (turned_lt (theta a)) k
    ∙ ap (λ (t : List ℕ). held (iota_with (chi t) k)) (sym (linear a six ∙ ap (masked b) turned_is))

pub held_twice : (a : List ℕ) → length a ≡ 25 → held (held a) ≡ a
held_twice a e =
    sym (tabulate_is 25 (λ i. bit_xor (get_or (held a) i 0) (get_or six i 0)) a e
    (λ i b.
    sym (ap (λ (x : ℕ). bit_xor x (get_or six i 0)) (get_d_tabulate 25 (λ j. bit_xor (get_or a j 0) (get_or six j 0)) i b)
    ∙ xor_assoc (get_or a i 0) (get_or six i 0) (get_or six i 0)
    ∙ ap (bit_xor (get_or a i 0)) (xor_self (get_or six i 0))
    ∙ xor_zero_r (get_or a i 0))))

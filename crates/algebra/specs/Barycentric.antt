-- Interpolation over consecutive points in the barycentric form: the value at x is the dot product of the inverses of the points' distances to x with the weighed
-- values, over that with the weights alone. The inverses may have a factor that all share.
use Rattle.std.specs.Prelude.{Bool, eqb, length}
use mathlib.Core.List.{List}
use Prim.Native.Nat.{ℕ, zero, suc, ◌+◌, ◌*◌, ◌-◌, ◌%◌}
use Rattle.std.proofs.Math.ListN.{get_or}
use Rattle.algebra.specs.Prime.{q}
use Rattle.algebra.specs.Inverse.{inv_n}
use Rattle.algebra.specs.Divided.{sub_n}
use Rattle.algebra.specs.Table.{inverse_factorials}
use Rattle.algebra.specs.Dot.{dot_n}
use Rattle.lists.specs.Tabulate.{tabulate}

-- ---- what a program computes
-- the sign of a weight with r points above
unfoldable pub sign_n : ℕ → ℕ
sign_n zero = 1
sign_n (suc r) = sub_n 0 (sign_n r)

-- the weight of place c among n points, by a table of inverse factorials
unfoldable pub weight_n : List ℕ → ℕ → ℕ → ℕ
weight_n t n c = get_or t c 0 * (get_or t (n - suc c) 0 * sign_n (n - suc c) % q) % q

unfoldable pub weights_n : ℕ → List ℕ
weights_n n = tabulate n (weight_n inverse_factorials n)

-- values, each times its weight
unfoldable pub weighed_n : List ℕ → List ℕ → List ℕ
weighed_n ws ys = tabulate (length ws) (λ c. get_or ws c 0 * get_or ys c 0 % q)

-- the product of c distances from k on
unfoldable pub rise_n : ℕ → ℕ → ℕ
rise_n k zero = 1
rise_n k (suc c) = rise_n k c * (k + c) % q

-- the product of the m distances below e
unfoldable pub fall_n : ℕ → ℕ → ℕ
fall_n e zero = 1
fall_n e (suc m) = fall_n e m * (e - suc m) % q

-- of n distances from k on, the products of those at places above c, and of those at other places than c
unfoldable pub above_n : ℕ → ℕ → ℕ → ℕ
above_n k n c = fall_n (k + n) (n - suc c)

unfoldable pub cofactors_n : ℕ → ℕ → List ℕ
cofactors_n k n = tabulate n (λ c. above_n k n c * rise_n k c % q)

-- the inverses of n distances from k on
unfoldable pub inverses_from : ℕ → ℕ → List ℕ
inverses_from k n = tabulate n (λ c. inv_n (k + c))

-- whether weighed values ys, with the weights ws, have the value v where vs are the inverses of the distances
unfoldable pub has_value : List ℕ → List ℕ → List ℕ → ℕ → Bool
has_value vs ws ys v = eqb (dot_n vs ys) (dot_n vs ws * v % q)

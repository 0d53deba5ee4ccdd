-- Newton's form by forward differences over consecutive points, expanded, is the interpolation.
use Rattle.std.specs.Prelude.{◌≡◌, List, ℕ, zero, suc, ◌+◌, ◌≤◌, ◌<◌, length, get_or, take}
use Rattle.std.proofs.Common.{sym, ◌∙◌, ap, ap₂, not-suc-le-zero, zero-add, arith}
use Rattle.std.proofs.Math.Seq.{take-length}
use Rattle.lists.specs.Range.{up_from, length-up_from, up_from_at, up_from_below, up_from_distinct}
use Rattle.lists.specs.Tabulate.{tabulate, length-tabulate}
use Rattle.algebra.specs.Prime.{q}
use Rattle.algebra.specs.Field.{K, of, of_add, ◌⊕◌, ◌⊝◌, dv, ring, dif_path}
use Rattle.algebra.specs.Table.{table_size, inverse_factorial}
use Rattle.algebra.specs.Numbers.{Elements, elements_at, interp_n, of_injective}
use Rattle.algebra.specs.Divided.{nev_n, nev_n_below, nform_n, nform_n-interp_n, Good}
use Rattle.algebra.specs.Forward.{falling, newton_forward, newton_n, ofs-newton_n, elements-newton_n, of_nev_n_up}
use Rattle.algebra.proofs.Table.{table}

newton_value : (a : ℕ) (ys : List ℕ) (n j : ℕ) → Elements ys → n ≤ table_size → a + n ≤ q → j < n → nev_n (up_from a n) (tabulate n (newton_n ys)) (a + j) ≡ get_or ys j 0
newton_value a ys zero j b l u m = absurd (not-suc-le-zero m)
newton_value a ys (suc n) j b l u m =
    of_injective _ _ (nev_n_below (up_from a (suc n)) (tabulate (suc n) (newton_n ys)) (a + j)) (elements_at ys b j)
    (ap (λ (k : ℕ). of (nev_n (up_from a k) (tabulate (suc n) (newton_n ys)) (a + j))) (sym (length-tabulate (suc n) (newton_n ys)))
    ∙ of_nev_n_up a (tabulate (suc n) (newton_n ys)) (a + j) (omega (arith, length-tabulate (suc n) (newton_n ys)))
    ∙ ap₂ falling (ofs-newton_n ys b 0 (suc n)) (ap (λ (t : K). t ⊝ of a) (sym (of_add a j)) ∙ behind (of a) (of j))
    ∙ newton_forward inverse_factorial table_size table (λ i. of (get_or ys i 0)) j 0 n (omega arith) (omega arith)
    ∙ ap (λ (i : ℕ). of (get_or ys i 0)) (zero-add j))
  where
    behind : (a j : K) → a ⊕ j ⊝ a ≡ j
    behind a j = rw (← dv a, ← dv j) (simp ring (dif_path _ _ _ _ (omega arith)))

-- Newton's form by differences, expanded, is the interpolation
pub forward_interp_n : (a n : ℕ) (ys : List ℕ) → Elements ys → length ys ≡ n → n ≤ table_size → a + n ≤ q → nform_n (up_from a n) (tabulate n (newton_n ys)) ≡ interp_n (up_from a n) ys
forward_interp_n a n ys b e l u =
    nform_n-interp_n (up_from a n) ys (tabulate n (newton_n ys)) (up_from_below a n q u) (up_from_distinct a n) b (elements-newton_n ys n)
    (length-tabulate n (newton_n ys) ∙ sym (length-up_from a n)) (e ∙ sym (length-up_from a n)) good
  where
    good : Good (up_from a n) ys (tabulate n (newton_n ys)) (length (up_from a n))
    good j m =
        let k : j < n = omega (arith, length-up_from a n) in
        ap₂ (λ (s t : List ℕ). nev_n s t (get_or (up_from a n) j 0)) (take-length (up_from a n))
        (ap (λ (i : ℕ). take i (tabulate n (newton_n ys))) (length-up_from a n ∙ sym (length-tabulate n (newton_n ys))) ∙ take-length (tabulate n (newton_n ys)))
        ∙ ap (nev_n (up_from a n) (tabulate n (newton_n ys))) (up_from_at a n j k)
        ∙ newton_value a ys n j b l u k

-- Rows with their tails, gathered as lanes.
use mathlib.Core.Path.{◌≡◌, refl, sym, ap, ◌∙◌, subst}
use mathlib.Core.Bool.{true, false}
use mathlib.Core.Logic.{◌⊎◌, inl, inr}
use mathlib.Core.List.{List}
use Prim.Native.Nat.{ℕ, ◌+◌, ◌-◌, ◌*◌, ◌≤◌, ◌<◌}
use native.Mathlib.Nat.{not-suc-le-zero, zero-add}
use native.Mathlib.Decide.{ℕ_discrete}
use native.Mathlib.Omega.{arith}
use lib.Dec.{ltb}
use lib.ListN.{length, set}
use borrow.Author.Tests.{ltb-true, ltb-false}
use Rattle.lists.specs.Choice.{tested}
use Rattle.stepping.specs.Lanes.{entry, KeptLanes}
use Rattle.stepping.proofs.Kernel.{put_here, put_else, put_lane}
use Rattle.scheme.specs.Sizes.{Sizes, rows, columns, width}
use Rattle.scheme.specs.Layers.{Lent, column, extended}
use Rattle.lent.specs.Rows.{CanExtend, strided}
use Rattle.lent.proofs.Rows.{extended-entry, extended-tail}
use Rattle.evaluations.specs.Values.{Gathered, EntriesGathered, Lane, RowLanes}

-- ---- a lane, value by value

pub record GatherInv (f : ℕ → ℕ) (to j : ℕ) (old values : List ℕ) (i : ℕ) : Type 0 where
  pub kept : KeptLanes old j values
  pub gathered : Gathered f i to j old values

pub gather_none : (f : ℕ → ℕ) (to j : ℕ) (values : List ℕ) → GatherInv f to j values values 0
unfolding KeptLanes Gathered
gather_none f to j values = record { kept = λ n i l h. refl; gathered = (λ i l. absurd (not-suc-le-zero l), λ t l. refl) }

pub gather_turn : (f : ℕ → ℕ) (to j : ℕ) (old values : List ℕ) (i v : ℕ) → j < 4 → 4 * (to + i) + j < length values → GatherInv f to j old values i → v ≡ f i
    → GatherInv f to j old (set values (4 * (to + i) + j) v) (i + 1)
unfolding KeptLanes Gathered
gather_turn f to j old values i v b inside inv e = record {
  kept = λ n k a h. put_lane values (to + i) j v inside b n k a h ∙ inv.kept n k a h;
  gathered = (λ m l. one m l (ℕ_discrete m i), λ t l. put_else values (to + i) j v inside b t (λ d. not-suc-le-zero {n = 0} (omega arith)) ∙ inv.gathered.1 t l);
}
  where
    one : (m : ℕ) → m < i + 1 → Dec (m ≡ i) → entry (set values (4 * (to + i) + j) v) (4 * (to + m) + j) ≡ f m
    one m l (yes d) = put_here values (to + i) j v inside b (to + m) (ap (λ (k : ℕ). to + k) d) ∙ e ∙ ap f (sym d)
    one m l (no d) = put_else values (to + i) j v inside b (to + m) (λ h. d (omega arith)) ∙ inv.gathered.0 m (omega arith)

-- ---- one stretch of a lane after another

pub gathered_as : (f g : ℕ → ℕ) (n to j : ℕ) (v₀ v₁ : List ℕ) → ((t : ℕ) → t < n → f t ≡ g t) → Gathered f n to j v₀ v₁ → Gathered g n to j v₀ v₁
unfolding Gathered
gathered_as f g n to j v₀ v₁ same h = (λ t u. h.0 t u ∙ same t u, h.1)

pub gathered_more : (f g : ℕ → ℕ) (n m to j : ℕ) (v₀ v₁ v₂ : List ℕ) → Gathered f n to j v₀ v₁ → Gathered g m (to + n) j v₁ v₂ → ((t : ℕ) → t < m → g t ≡ f (n + t))
    → Gathered f (n + m) to j v₀ v₂
unfolding Gathered
gathered_more f g n m to j v₀ v₁ v₂ first second same = (λ t u. go t u (tested (ltb t n)), λ t u. second.1 t (omega arith) ∙ first.1 t u)
  where
    go : (t : ℕ) → t < n + m → (ltb t n ≡ true) ⊎ (ltb t n ≡ false) → entry v₂ (4 * (to + t) + j) ≡ f t
    go t u (inl z) =
        let a : t < n = ltb-true t n z in
        second.1 (to + t) (omega arith) ∙ first.0 t a
    go t u (inr z) =
        let a : n ≤ t = ltb-false t n z in
        let b : to + t ≡ to + n + (t - n) = omega arith in
        let d : n + (t - n) ≡ t = omega arith in
        ap (λ (k : ℕ). entry v₂ (4 * k + j)) b ∙ second.0 (t - n) (omega arith) ∙ same (t - n) (omega arith) ∙ ap f d

pub both_kept : (j : ℕ) (v₀ v₁ v₂ : List ℕ) → KeptLanes v₀ j v₁ → KeptLanes v₁ j v₂ → KeptLanes v₀ j v₂
unfolding KeptLanes
both_kept j v₀ v₁ v₂ a b n i l h = b n i l h ∙ a n i l h

-- ---- a row: its entries polynomial by polynomial, and then its tails

pub columns_turn : (s : Sizes) (l : Lent) (i row j : ℕ) (v₀ v₁ v₂ : List ℕ) → GatherInv (λ (a : ℕ). entry (column s l a) row) 0 j v₀ v₁ (s.ν * i) → EntriesGathered s l i row j v₁ v₂
    → GatherInv (λ (a : ℕ). entry (column s l a) row) 0 j v₀ v₂ (s.ν * (i + 1))
columns_turn s l i row j v₀ v₁ v₂ inv more =
    let e : s.ν * i + s.ν ≡ s.ν * (i + 1) = omega arith in
    record {
      kept = both_kept j v₀ v₁ v₂ inv.kept more.0;
      gathered =
          subst (λ (k : ℕ). Gathered (λ (a : ℕ). entry (column s l a) row) k 0 j v₀ v₂) e
          (gathered_more (λ (a : ℕ). entry (column s l a) row) (λ (t : ℕ). entry (column s l (s.ν * i + t)) row) (s.ν * i) s.ν 0 j v₀ v₁ v₂ inv.gathered
          (subst (λ (k : ℕ). Gathered (λ (t : ℕ). entry (column s l (s.ν * i + t)) row) s.ν k j v₁ v₂) (sym (zero-add (s.ν * i))) more.1) (λ t u. refl));
    }

pub row-lane : (s : Sizes) (l : Lent) → CanExtend s l.coefficients l.tails l.blinds → (row n j : ℕ) (v₀ v₁ v₂ : List ℕ) → row < rows s → n ≡ columns s
    → Gathered (λ (a : ℕ). entry (column s l a) row) n 0 j v₀ v₁ → Gathered (strided l.tails (row * s.ℓ) 1) s.ℓ n j v₁ v₂ → Lane (extended s l row) (width s) j v₂
unfolding Gathered Lane
row-lane s l can row n j v₀ v₁ v₂ h e first second t u =
    ap (λ (k : ℕ). entry v₂ (4 * k + j)) (sym (zero-add t)) ∙ whole.0 t (omega (arith, e))
  where
    entries : Gathered (entry (extended s l row)) n 0 j v₀ v₁
    entries = gathered_as (λ (a : ℕ). entry (column s l a) row) (entry (extended s l row)) n 0 j v₀ v₁ (λ a b. sym (extended-entry s l can row a (omega (arith, e)))) first

    tail : (a : ℕ) → a < s.ℓ → strided l.tails (row * s.ℓ) 1 a ≡ entry (extended s l row) (n + a)
    tail a b = sym (ap (λ (k : ℕ). entry (extended s l row) (k + a)) e ∙ extended-tail s l can row a h b)

    whole : Gathered (entry (extended s l row)) (n + s.ℓ) 0 j v₀ v₂
    whole =
        gathered_more (entry (extended s l row)) (strided l.tails (row * s.ℓ) 1) n s.ℓ 0 j v₀ v₁ v₂ entries
        (subst (λ (k : ℕ). Gathered (strided l.tails (row * s.ℓ) 1) s.ℓ k j v₁ v₂) (sym (zero-add n)) second) tail

-- ---- rows, a lane each

pub rows_none : (s : Sizes) (l : Lent) (lo : ℕ) (values : List ℕ) → RowLanes s l lo 0 values
unfolding RowLanes
rows_none s l lo values j h = absurd (not-suc-le-zero h)

pub rows_turn : (s : Sizes) (l : Lent) (lo j : ℕ) (v v' : List ℕ) → j < 4 → RowLanes s l lo j v → KeptLanes v j v' → Lane (extended s l (lo + j)) (width s) j v' → RowLanes s l lo (j + 1) v'
unfolding RowLanes Lane KeptLanes
rows_turn s l lo j v v' b old kept own i h = go (ℕ_discrete i j)
  where
    go : Dec (i ≡ j) → Lane (extended s l (lo + i)) (width s) i v'
    go (yes e) = subst (λ (m : ℕ). Lane (extended s l (lo + m)) (width s) m v') (sym e) own
    go (no e) = λ t u. kept t i (omega arith) e ∙ old i (omega arith) t u

-- What a turn of `count_changes` and of `count_nodes` does, on lists.
use mathlib.Core.Bool.{Bool, not}
use mathlib.Core.List.{List}
use mathlib.Core.Logic.{◌⊎◌, ⊎_elim}
use mathlib.Core.Path.{◌≡◌, refl, sym, ap, ap₂, ◌∙◌, subst}
use Prim.Native.Nat.{ℕ, suc, ◌+◌, ◌*◌, ◌/◌, ◌^◌, ◌≤◌, ◌<◌, ◌-◌}
use native.Mathlib.Nat.{zero-add, mul_comm, mul-zero, mul-one, mul-suc, mul-add, add-zero, mul-le-mul, mul-le-mul_left, pow-zero, pow-suc}
use native.Mathlib.Numerals.{add-one}
use native.Mathlib.Omega.{arith}
use lib.ListN.{length, get_or}
use lib.Dec.{eqb}
use lib.Pow.{pow-add, pow_pos}
use borrow.Author.Tests.{eq-eqb, ne_eqb}
use Rattle.lists.specs.Choice.{pick}
use Rattle.lists.specs.Tests.{tally, tally_next, tally_ext}
use Rattle.tree.specs.Ancestors.{ancestors, changes}
use Rattle.tree.specs.Sets.{parents, siblings, missing}
use Rattle.tree.proofs.Ancestors.{ancestors_count, ancestors-rising}
use Rattle.tree.proofs.Counts.{siblings_count, parents_count, missing_none, missing_count}
use Rattle.missing_nodes.specs.Clauses.{CanCount}

-- ---- the neighbours that differ

abbrev pub differs : ℕ → List ℕ → ℕ → Bool
differs shift s a = not (eqb (get_or s a 0 / 2 ^ shift) (get_or s (a + 1) 0 / 2 ^ shift))

-- one more neighbour, by its test
pub tallied : (shift : ℕ) (s : List ℕ) (n a n' : ℕ) → n ≡ tally a (differs shift s)
    → ((get_or s a 0 / 2 ^ shift ≡ get_or s (a + 1) 0 / 2 ^ shift → ⊥) × (n' ≡ n + 1)) ⊎ ((get_or s a 0 / 2 ^ shift ≡ get_or s (a + 1) 0 / 2 ^ shift) × (n' ≡ n)) → n' ≡ tally (a + 1) (differs shift s)
tallied shift s n a n' e = ⊎_elim
    (λ d. d.1 ∙ ap (λ (k : ℕ). k + 1) e ∙ sym (tally_next (differs shift s) a ∙ ap (λ (b : Bool). pick (not b) (tally a (differs shift s) + 1) (tally a (differs shift s))) (ne_eqb _ _ d.0)))
    (λ d. d.1 ∙ e ∙ sym (tally_next (differs shift s) a ∙ ap (λ (b : Bool). pick (not b) (tally a (differs shift s) + 1) (tally a (differs shift s))) (eq-eqb _ _ d.0)))

pub changes_are : (shift : ℕ) (s : List ℕ) (n : ℕ) → n ≡ tally (length s - 1) (differs shift s) → n ≡ changes (2 ^ shift) s
unfolding changes
changes_are shift s n e = e ∙ tally_ext (length s - 1) _ _ (λ a. ap (λ (k : ℕ). not (eqb (get_or s a 0 / 2 ^ shift) (get_or s k 0 / 2 ^ shift))) (add-one a))

-- ---- all levels

-- k levels are done: the power of their shift, the number of nodes there, what is counted so far
pub record CountInv (b bits h : ℕ) (s : List ℕ) (n t shift left : ℕ) : Type 0 where
  pub level : ℕ
  pub levels : level + left ≡ h
  pub shifted : shift ≡ bits * level
  pub power : 2 ^ shift ≡ b ^ level
  pub nodes : n ≡ length (ancestors b level s)
  pub few : n ≤ 64
  pub counted : t + length (missing b left (ancestors b level s)) ≡ length (missing b h s)

module _ {b bits h : ℕ} {s : List ℕ} (can : CanCount b bits h s) where
  some_children : 0 < b
  some_children = subst (λ (k : ℕ). 0 < k) (sym can.arity) (pow_pos bits)

  pub count_holds : CountInv b bits h s (length s) 0 0 h
  unfolding ancestors
  count_holds = record {
    level = 0;
    levels = zero-add h;
    shifted = sym (mul-zero bits);
    power = pow-zero 2 ∙ sym (pow-zero b);
    nodes = refl;
    few = can.count;
    counted = zero-add (length (missing b h s));
  }

  pub count_shift : {n t shift left : ℕ} → CountInv b bits h s n t shift left → 0 < left → shift + bits < 64
  count_shift {left = left} v p =
      let k : ℕ = v.level in
      let up : bits * (k + 1) ≤ bits * h = mul-le-mul_left bits (omega (arith, v.levels)) in
      omega (arith, v.shifted, can.deep, mul-add bits k 1, mul-one bits)

  module _ {n t shift left : ℕ} (v : CountInv b bits h s n t shift left) (p : 0 < left) (w : ℕ) (e : w ≡ changes (2 ^ (shift + bits)) s) where
    up : w + 1 ≡ length (ancestors b (suc v.level) s)
    up =
        ap (λ (k : ℕ). k + 1) (e ∙ ap (λ (d : ℕ). changes d s) (pow-add 2 shift bits ∙ ap₂ ◌*◌ v.power (sym can.arity) ∙ sym (pow-suc b v.level)))
        ∙ sym (ancestors_count b v.level s can.some)

    step : ancestors b (suc v.level) s ≡ parents b (ancestors b v.level s)
    unfolding ancestors
    step = refl

    fewer : w + 1 ≤ n
    fewer = omega (arith, up, ap length step, parents_count b (ancestors b v.level s), v.nodes)

    -- the level's nodes: b for each node above, less the set's own
    level_count : length (siblings b (ancestors b v.level s)) + n ≡ b * (w + 1)
    level_count =
        omega (
          arith,
          siblings_count b (ancestors b v.level s) some_children (ancestors-rising b v.level s some_children can.rising),
          v.nodes,
          ap (λ (x : ℕ). b * x) (up ∙ ap length step),
          mul_comm b (length (parents b (ancestors b v.level s))),
        )

    total : length (missing b left (ancestors b v.level s)) ≡ length (siblings b (ancestors b v.level s)) + length (missing b (left - 1) (ancestors b (suc v.level) s))
    total =
        ap (λ (k : ℕ). length (missing b k (ancestors b v.level s))) (omega arith)
        ∙ missing_count b (left - 1) (ancestors b v.level s)
        ∙ ap (λ (x : List ℕ). length (siblings b (ancestors b v.level s)) + length (missing b (left - 1) x)) (sym step)

    pub count_fits : (w < 4294967295) × (b * (w + 1) < 4294967296) × (n ≤ b * (w + 1)) × (t + (b * (w + 1) - n) < 4294967296)
    count_fits =
        let wide : b * (w + 1) ≤ 16 * 64 = mul-le-mul {n₂ = 16} {m₂ = 64} can.few (omega (arith, fewer, v.few)) in
        omega (arith, fewer, v.few, level_count, total, v.counted, can.total, wide)

    pub count_again : CountInv b bits h s (w + 1) (t + (b * (w + 1) - n)) (shift + bits) (left - 1)
    count_again = record {
      level = suc v.level;
      levels = omega (arith, v.levels);
      shifted = omega (arith, v.shifted, mul-suc bits v.level);
      power = pow-add 2 shift bits ∙ ap₂ ◌*◌ v.power (sym can.arity) ∙ sym (pow-suc b v.level);
      nodes = up;
      few = omega (arith, fewer, v.few);
      counted = omega (arith, v.counted, total, level_count);
    }

  pub count_done : {n t shift left : ℕ} → CountInv b bits h s n t shift left → left ≤ 0 → t ≡ length (missing b h s)
  count_done {t = t} {left = left} v p =
      sym (add-zero t)
      ∙ ap (λ (k : ℕ). t + k) (sym (ap (λ (k : ℕ). length (missing b k (ancestors b v.level s))) (omega arith) ∙ missing_none b (ancestors b v.level s)))
      ∙ v.counted

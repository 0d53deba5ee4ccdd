-- The rows with their tails: they are field elements, and what is lent gives their combinations.
use mathlib.Core.Path.{◌≡◌, refl, sym, ap, ap₂, ◌∙◌, subst}
use mathlib.Core.List.{List, ◌++◌}
use Prim.Native.Nat.{ℕ, ◌+◌, ◌-◌, ◌*◌, ◌≤◌, ◌<◌}
use native.Mathlib.Nat.{mul_comm}
use native.Mathlib.Omega.{arith}
use lib.Dec.{lit<}
use lib.ListN.{length, take, drop, replicate, length-map, length-replicate, length-append}
use lib.Seq.{length-take-le, take_at}
use borrow.Rule.Slice.PartMut.{put_mid}
use Rattle.lists.specs.Pieces.{pieces}
use Rattle.lists.specs.All.{all_replicate}
use Rattle.lists.specs.Range.{up_from, length-up_from}
use Rattle.lists.specs.Tabulate.{tabulate, length_from}
use Rattle.algebra.specs.Prime.{q}
use Rattle.algebra.specs.Columns.{pow_n}
use Rattle.algebra.specs.Numbers.{Polys}
use Rattle.scheme.specs.Sizes.{Sizes, SizesInOrder, leaves, rows, columns, width}
use Rattle.scheme.specs.Layers.{Lent, lent_of, extended, extended_rows, combination}
use Rattle.tree.specs.Leaf.{salt_length}
use Rattle.scheme.proofs.Lent.{LentFacts}
use Rattle.scheme.proofs.HonestAnswers.{ext_polys, answer_parts}
use Rattle.lists.specs.Parts.{rest-length, two_parts}
use Rattle.lent.specs.Rows.{CanLayOut}
use Rattle.answers.specs.Answers.{Lined, CanCombine}
use Rattle.column_sums.specs.Sums.{Powers, column_sums}
use Rattle.column_sums.proofs.Columns.{columns_values}
use Rattle.commitment.proofs.Places.{width-high}

module _ (t : Sizes) (l : Lent) (can : CanCombine t l.coefficients l.tails l.blinds) where
  abbrev ext : List (List ℕ)
  ext = extended_rows t l

  g : SizesInOrder t
  g = can.extend.laid.sizes

  -- masks, nonces and salt matter to no row: zeros serve
  abbrev lent : Lent
  lent = lent_of l.coefficients l.tails l.blinds (replicate (t.η * width t) 0) (replicate (32 * leaves t) 0) (replicate salt_length 0)

  r : LentFacts t lent
  r = record {
    sizes = g;
    c_length = can.extend.laid.coefficients_length;
    t_length = can.extend.tails-length;
    b_length = can.extend.laid.blinds_length;
    m_length = length-replicate (t.η * width t) 0;
    n_length = length-replicate (32 * leaves t) 0;
    s_length = length-replicate {A = ℕ} salt_length 0;
    c_below = can.coefficients_below;
    t_below = can.tails_below;
    b_below = can.extend.laid.blinds_below;
    m_below = all_replicate (λ (x : ℕ). x < q) (t.η * width t) 0 (lit< tt);
  }

  same_rows : ext ≡ extended_rows t lent
  unfolding extended
  same_rows = refl

  pub rows_polys : Polys (width t) ext
  rows_polys = subst (Polys (width t)) (sym same_rows) (ext_polys t lent r)

  pub rows_some : 0 < length ext
  rows_some = omega (arith, length-map (up_from 0 (rows t)) (extended t l) ∙ length-up_from 0 (rows t), g.μ_low)

  -- ---- a combination, its columns first

  tails_lined : Lined t.ℓ (rows t) l.tails
  tails_lined = record { whole = can.extend.tails-length ∙ mul_comm (rows t) t.ℓ; some = omega (arith, g.μ_low); few = g.rows-high; narrow = g.ℓ-high }

  -- m is the number of rows, n of columns, out the room for the combination, b that for the weights, which ws fill
  module _ (m n : ℕ) (out b : List ℕ) (hm : m ≡ rows t) (hn : n ≡ columns t) (room : length out ≡ width t) (wide : length b ≡ 64) where
    pub weights_fit : m ≤ length b
    weights_fit = omega (arith, wide, hm, g.rows-high)

    pub weights_room : m ≡ length (take m b)
    weights_room = sym (length-take-le m b weights_fit)

    columns_room : n ≤ length out
    columns_room = omega (arith, hn, room)

    pub columns-length : n ≡ length (take n out)
    columns-length = sym (length-take-le n out columns_room)

    module _ (z : ℕ) (ws : List ℕ) (hw : ws ≡ tabulate (length (take m b)) (pow_n z)) where
      weights_count : length ws ≡ m
      weights_count = ap length hw ∙ length_from 0 (length (take m b)) (pow_n z) ∙ sym weights_room

      weights_are : take m (ws ++ drop m b) ≡ ws
      weights_are = take_at ws (drop m b) m weights_count

      weights_powers : take m (ws ++ drop m b) ≡ tabulate m (pow_n z)
      weights_powers = weights_are ∙ hw ∙ ap (λ (k : ℕ). tabulate k (pow_n z)) (sym weights_room)

      pub weights-kept : m ≤ length (ws ++ drop m b)
      weights-kept = omega (arith, length-append ws (drop m b), weights_count)

      pub weights-length : m ≡ length (take m (ws ++ drop m b))
      weights-length = sym (ap length weights_are ∙ weights_count)

      abbrev powers_are : Powers (rows t) (take m (ws ++ drop m b))
      powers_are = record { point = z; are = weights_powers ∙ ap (λ (k : ℕ). tabulate k (pow_n z)) hm }

      pub columns_ask : CanLayOut t l.coefficients l.blinds × Powers (rows t) (take m (ws ++ drop m b)) × (length (take n out) ≡ columns t)
      columns_ask = (can.extend.laid, powers_are, sym columns-length ∙ hn)

      module _ (ys : List ℕ) (hy : ys ≡ column_sums t l.coefficients l.blinds (take m (ws ++ drop m b))) where
        columns_count : length ys ≡ n
        columns_count = ap length hy ∙ length-map (up_from 0 (columns t)) _ ∙ length-up_from 0 (columns t) ∙ sym hn

        out_parts : length out ≡ n + t.ℓ
        out_parts = room ∙ ap (λ (k : ℕ). k + t.ℓ) (sym hn)

        pub rest_ask : Lined (length (take (length (ys ++ drop n out) - n) (drop n (ys ++ drop n out)))) (length (take m (ws ++ drop m b))) l.tails
            × (take m (ws ++ drop m b) ≡ tabulate (length (take m (ws ++ drop m b))) (pow_n z))
        rest_ask = (
          subst (λ (k : ℕ). Lined (length (take (length (ys ++ drop n out) - n) (drop n (ys ++ drop n out)))) k l.tails) (sym hm ∙ weights-length)
              (subst (λ (k : ℕ). Lined k (rows t) l.tails) (sym (rest-length n t.ℓ out ys columns_count out_parts)) tails_lined),
          weights_powers ∙ ap (λ (k : ℕ). tabulate k (pow_n z)) weights-length,
        )

        pub combined : (zs : List ℕ)
            → (let k : ℕ = length (take (length (ys ++ drop n out) - n) (drop n (ys ++ drop n out))) in zs ≡ combination k z (pieces k (length (take m (ws ++ drop m b))) l.tails))
            → put_mid n (length (ys ++ drop n out) - n) (ys ++ drop n out) zs ≡ combination (width t) z ext
        combined zs hz =
            two_parts n t.ℓ out ys columns_count out_parts zs
            ∙ ap₂ (λ (x y : List ℕ). x ++ y)
            (hy ∙ columns_values t l.coefficients l.blinds can.extend.laid (take m (ws ++ drop m b)) powers_are)
            (hz ∙ ap₂ (λ (k j : ℕ). combination k z (pieces k j l.tails)) (rest-length n t.ℓ out ys columns_count out_parts) (sym weights-length ∙ hm))
            ∙ sym (answer_parts t lent r z)
            ∙ ap (combination (width t) z) (sym same_rows)

  -- ---- a combination of n words, where n is the width

  pub answer_narrow : (n : ℕ) → n ≡ width t → n ≤ 320
  answer_narrow n e = omega (arith, e, width-high t g)

  pub answer_some : (n : ℕ) → n ≡ width t → 0 < n
  answer_some n e = omega (arith, e, g.ℓ-low)

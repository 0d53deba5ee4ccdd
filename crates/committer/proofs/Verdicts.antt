-- The tests of committing, one after the other, and what is returned.
use mathlib.Core.Path.{◌≡◌, sym, ap, ap₂, ◌∙◌}
use mathlib.Core.Bool.{Bool, true, false, not, ◌&&◌}
use mathlib.Core.List.{List, [], ◌∷◌}
use Prim.Native.Nat.{ℕ}
use native.Mathlib.Omega.{arith}
use borrow.Author.Tests.{not-true, not-false, ne_eqb}
use Rattle.lists.specs.Choice.{pick}
use Rattle.lists.specs.Tests.{every, verdict_of, verdict_hit, verdict_miss, passed, every_true, true_every}
use Rattle.scheme.specs.Sizes.{Sizes, SizesInOrder, sizes_ok}
use Rattle.scheme.specs.Layers.{Lent}
use Rattle.scheme.specs.Commit.{lent_ok, filled_ok, lent_elements, commit_tests, commit_verdict, table_of, tree_of, after, committing}
use Rattle.scheme.proofs.Accepted.{sizes_in_order}
use Rattle.committer.specs.Clauses.{Committable}

module _ (s : Sizes) (l : Lent) (table nodes : List ℕ) where
  -- a, b, c, d: what the tests of the sizes, of what is lent, of what is filled, and of the elements said
  pub refused_1 : (a : Bool) → a ≡ sizes_ok s → not a ≡ true → 1 ≡ commit_verdict s l table nodes
  unfolding commit_verdict commit_tests
  refused_1 a ea na = sym (verdict_hit 1 (not (sizes_ok s)) _ (ap not (sym ea) ∙ na))

  module _ (a : Bool) (ea : a ≡ sizes_ok s) (na : not a ≡ false) where
    pub sizes_passed : SizesInOrder s
    sizes_passed = sizes_in_order s (sym ea ∙ not-false a na)

    one_passed : commit_verdict s l table nodes ≡ verdict_of ((2, not (every (lent_ok s l ∷ filled_ok s table nodes ∷ []))) ∷ (3, not (every (lent_elements l))) ∷ [])
    unfolding commit_verdict commit_tests
    one_passed = verdict_miss 1 (not (sizes_ok s)) _ (ap not (sym ea) ∙ na)

    pub refused_2 : (b : Bool) → b ≡ lent_ok s l → not b ≡ true → 2 ≡ commit_verdict s l table nodes
    unfolding every
    refused_2 b eb nb =
        sym (one_passed ∙ verdict_hit 2 _ _ (ap (λ (x : Bool). not (x && (filled_ok s table nodes && true))) (sym eb ∙ not-true b nb)))

    module _ (b : Bool) (eb : b ≡ lent_ok s l) (nb : not b ≡ false) (c : Bool) (ec : c ≡ filled_ok s table nodes) where
      pub refused_2_filled : not c ≡ true → 2 ≡ commit_verdict s l table nodes
      unfolding every
      refused_2_filled nc =
          sym (one_passed ∙ verdict_hit 2 _ _ (ap₂ (λ (x y : Bool). not (x && (y && true))) (sym eb ∙ not-false b nb) (sym ec ∙ not-true c nc)))

      module _ (nc : not c ≡ false) (d : Bool) (ed : d ≡ every (lent_elements l)) where
        two_passed : commit_verdict s l table nodes ≡ verdict_of ((3, not (every (lent_elements l))) ∷ [])
        two_passed =
            one_passed
            ∙ verdict_miss 2 (not (every (lent_ok s l ∷ filled_ok s table nodes ∷ []))) _
            (ap not (true_every (lent_ok s l ∷ filled_ok s table nodes ∷ []) (sym eb ∙ not-false b nb, (sym ec ∙ not-false c nc, tt))))

        pub refused_3 : not d ≡ true → 3 ≡ commit_verdict s l table nodes
        refused_3 nd = sym (two_passed ∙ verdict_hit 3 (not (every (lent_elements l))) [] (ap not (sym ed) ∙ nd))

        pub taken : not d ≡ false → 0 ≡ commit_verdict s l table nodes
        unfolding verdict_of
        taken nd = sym (two_passed ∙ verdict_miss 3 (not (every (lent_elements l))) [] (ap not (sym ed) ∙ nd))

  pub committable : (v : ℕ) → v ≡ commit_verdict s l table nodes → v ≡ 0 → Committable s l table nodes
  unfolding commit_verdict commit_tests
  committable v e h =
      let t = passed (commit_tests s l table nodes) (omega arith) (sym e ∙ h) in
      let f = every_true (lent_ok s l ∷ filled_ok s table nodes ∷ []) (not-false _ t.1.0) in
      record { right = record { sizes = not-false _ t.0; lengths = f.0; elements = not-false _ t.1.1.0 }; filled = f.1.0 }

  -- a refusal leaves both slices as they were
  pub refused : (v : ℕ) → v ≡ commit_verdict s l table nodes → (v ≡ 0 → ⊥) → (v, table, nodes) ≡ committing s l table nodes
  unfolding committing
  refused v h e =
      ap (λ (x : Bool). (v, pick x (table_of s l) table, pick x (tree_of s l) nodes)) (sym (ne_eqb v 0 e))
      ∙ ap (λ (x : ℕ). (x, after x (table_of s l) table, after x (tree_of s l) nodes)) h

  pub committed : (v : ℕ) (t u : List ℕ) → v ≡ commit_verdict s l table nodes → v ≡ 0 → t ≡ table_of s l → u ≡ tree_of s l → (0, t, u) ≡ committing s l table nodes
  unfolding committing
  committed v t u k h e f =
      ap₂ (λ (x y : List ℕ). (0, x, y)) e f
      ∙ ap (λ (n : ℕ). (n, after n (table_of s l) table, after n (tree_of s l) nodes)) (sym h ∙ k)

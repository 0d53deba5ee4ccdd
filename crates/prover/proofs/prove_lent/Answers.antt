-- `prover::prove_lent` meets its contract.
use Rattle.fiat_shamir.specs.Draw.{most_string}
use mathlib.Core.List.{List, ◌++◌}
use lib.Seq.{length-take-le}
use lib.ListN.{replicate, drop, length, take}
use Rattle.sponge.specs.Draw.{draw}
use Rattle.scheme.specs.Layers.{Lent}
use Rattle.lent.specs.Witnessed.{witnessed}
use Rattle.scheme.proofs.Lent.{lent_facts}
use Rattle.prover.proofs.Outcome.{answers_taken, draw_ask, drawn_is, search_done, search_failed, string_room, string_taken}
use Rattle.lists.specs.Parts.{lent_fits, lent_front, lent_length}
use Rattle.lists.specs.Least.{least}
use Rattle.fiat_shamir.specs.Prove.{counter_bytes}
use Rattle.counter_search.specs.Tried.{tried}
use Rattle.commitment.specs.Shape.{sizes_in}
use Prim.Native.Nat.{◌*◌, ◌+◌, ◌-◌, ◌≤◌, ℕ}
use mathlib.Core.Path.{refl, ◌∙◌, ◌≡◌, ap, ap₂, sym}
use borrow.Author.Rules.{rules}
use native.Mathlib.Omega.{arith}
use Rattle.prover.proofs.prove_lent.Goals as goal

pub put_string-n-requires : goal.put_string-n-requires
put_string-n-requires c =
    let sn : length (replicate {A = ℕ} 15472 0) ≡ most_string = search rules in
    let s = c.args in
    (record { offline = c.requires.offline; lent = c.requires.lent }, omega (arith, sn))

pub slice_bounds-string-end : goal.slice_bounds-string-end
slice_bounds-string-end c =
    let sn : length (replicate {A = ℕ} 15472 0) ≡ most_string = search rules in
    let putString' = c.put_string-n in
    let s = c.args in
    let size : length putString'.new.string ≡ most_string = putString'.auto.string ∙ sn in
    let nf : putString'.result ≤ length putString'.new.string = omega (
      arith,
      size,
      putString'.ensures.value,
      string_room s.query.now.bytes.now (sizes_in s.query.now.shape) s.query.now.m s.query.now.kappa (witnessed s.witness.now) s.table.now s.tree.now
          s.proof.now c.requires,
    ) in
    nf

pub slice_bounds-find_counter-end : goal.slice_bounds-find_counter-end
slice_bounds-find_counter-end c =
    let sn : length (replicate {A = ℕ} 15472 0) ≡ most_string = search rules in
    let putString' = c.put_string-n in
    let s = c.args in
    let size : length putString'.new.string ≡ most_string = putString'.auto.string ∙ sn in
    let nf : putString'.result ≤ length putString'.new.string = omega (
      arith,
      size,
      putString'.ensures.value,
      string_room s.query.now.bytes.now (sizes_in s.query.now.shape) s.query.now.m s.query.now.kappa (witnessed s.witness.now) s.table.now s.tree.now
          s.proof.now c.requires,
    ) in
    sym (length-take-le putString'.result putString'.new.string nf)

pub slice_bounds-drawn-end : goal.slice_bounds-drawn-end
slice_bounds-drawn-end c =
    let dn : length (replicate {A = ℕ} 544 0) ≡ 544 = search rules in
    let s = c.args in
    let df : 32 + 8 * s.query.now.shape.l ≤ length (replicate {A = ℕ} 544 0) = omega (arith, dn, (lent_facts (sizes_in s.query.now.shape) (witnessed s.witness.now) c.requires.lent).sizes.ℓ-high) in
    df

pub slice_bounds-find_counter-end-2 : goal.slice_bounds-find_counter-end-2
slice_bounds-find_counter-end-2 c =
    let dn : length (replicate {A = ℕ} 544 0) ≡ 544 = search rules in
    let s = c.args in
    let df : 32 + 8 * s.query.now.shape.l ≤ length (replicate {A = ℕ} 544 0) = omega (arith, dn, (lent_facts (sizes_in s.query.now.shape) (witnessed s.witness.now) c.requires.lent).sizes.ℓ-high) in
    sym (length-take-le (32 + 8 * s.query.now.shape.l) (replicate {A = ℕ} 544 0) df)

pub find_counter-counter-requires : goal.find_counter-counter-requires
find_counter-counter-requires c = c.requires.few_bits

pub returns-then-counter-limit : goal.returns-then-counter-limit
returns-then-counter-limit c =
    let findCounter' = c.find_counter-counter in
    let putString' = c.put_string-n in
    let s = c.args in
    let lent : Lent = witnessed s.witness.now in
    search_failed s.query.now.bytes.now (sizes_in s.query.now.shape) s.query.now.m s.query.now.kappa lent s.table.now s.tree.now s.proof.now c.requires s.limit findCounter'.result
    (findCounter'.ensures.value ∙ ap (λ (x : List ℕ). least s.limit (tried s.query.now.kappa x))
    (string_taken s.query.now.bytes.now (sizes_in s.query.now.shape) s.query.now.m s.query.now.kappa lent s.table.now s.tree.now s.proof.now c.requires putString'.result putString'.new.string
    (replicate {A = ℕ} 15472 0) putString'.ensures.value putString'.ensures.string_after)) c.if-counter-limit.true

pub slice_bounds-put_drawn-count : goal.slice_bounds-put_drawn-count
slice_bounds-put_drawn-count c =
    let s = c.args in
    omega (arith, c.put_string-n.ensures.value)

pub slice_bounds-put_drawn-start : goal.slice_bounds-put_drawn-start
slice_bounds-put_drawn-start c =
    let putString' = c.put_string-n in
    let s = c.args in
    let low : length s.query.now.bytes.now + 1 ≤ putString'.result = omega (arith, putString'.ensures.value) in search rules

pub slice_bounds-put_drawn-end : goal.slice_bounds-put_drawn-end
slice_bounds-put_drawn-end c =
    let sn : length (replicate {A = ℕ} 15472 0) ≡ most_string = search rules in
    let putString' = c.put_string-n in
    let s = c.args in
    let size : length putString'.new.string ≡ most_string = putString'.auto.string ∙ sn in
    let nf : putString'.result ≤ length putString'.new.string = omega (
      arith,
      size,
      putString'.ensures.value,
      string_room s.query.now.bytes.now (sizes_in s.query.now.shape) s.query.now.m s.query.now.kappa (witnessed s.witness.now) s.table.now s.tree.now
          s.proof.now c.requires,
    ) in
    search rules

pub slice_bounds-drawn-end-2 : goal.slice_bounds-drawn-end-2
slice_bounds-drawn-end-2 c =
    let dn : length (replicate {A = ℕ} 544 0) ≡ 544 = search rules in
    let findCounter' = c.find_counter-counter in
    let s = c.args in
    let df : 32 + 8 * s.query.now.shape.l ≤ length (replicate {A = ℕ} 544 0) = omega (arith, dn, (lent_facts (sizes_in s.query.now.shape) (witnessed s.witness.now) c.requires.lent).sizes.ℓ-high) in
    lent_fits (32 + 8 * s.query.now.shape.l) findCounter'.new.out (replicate {A = ℕ} 544 0) df findCounter'.auto.out

pub slice_bounds-put_drawn-end-2 : goal.slice_bounds-put_drawn-end-2
slice_bounds-put_drawn-end-2 c =
    let dn : length (replicate {A = ℕ} 544 0) ≡ 544 = search rules in
    let findCounter' = c.find_counter-counter in
    let s = c.args in
    let df : 32 + 8 * s.query.now.shape.l ≤ length (replicate {A = ℕ} 544 0) = omega (arith, dn, (lent_facts (sizes_in s.query.now.shape) (witnessed s.witness.now) c.requires.lent).sizes.ℓ-high) in
    lent_length (32 + 8 * s.query.now.shape.l) findCounter'.new.out (replicate {A = ℕ} 544 0) df findCounter'.auto.out

pub put_drawn-length-requires : goal.put_drawn-length-requires
put_drawn-length-requires c =
    let dn : length (replicate {A = ℕ} 544 0) ≡ 544 = search rules in
    let findCounter' = c.find_counter-counter in
    let putString' = c.put_string-n in
    let s = c.args in
    let lent : Lent = witnessed s.witness.now in
    let df : 32 + 8 * s.query.now.shape.l ≤ length (replicate {A = ℕ} 544 0) = omega (arith, dn, (lent_facts (sizes_in s.query.now.shape) lent c.requires.lent).sizes.ℓ-high) in
    draw_ask s.query.now.bytes.now (sizes_in s.query.now.shape) s.query.now.m s.query.now.kappa lent s.table.now s.tree.now s.proof.now c.requires _ _
    (answers_taken s.query.now.bytes.now (sizes_in s.query.now.shape) s.query.now.m s.query.now.kappa lent s.table.now s.tree.now s.proof.now c.requires putString'.result putString'.new.string
    (replicate {A = ℕ} 15472 0) putString'.ensures.value putString'.ensures.string_after (length s.query.now.bytes.now + 1) refl)
    (sym (lent_length (32 + 8 * s.query.now.shape.l) findCounter'.new.out (replicate {A = ℕ} 544 0) df findCounter'.auto.out))

pub returns : goal.returns
returns c =
    let dn : length (replicate {A = ℕ} 544 0) ≡ 544 = search rules in
    let findCounter' = c.find_counter-counter in
    let putDrawn' = c.put_drawn-length in
    let putString' = c.put_string-n in
    let s = c.args in
    let lent : Lent = witnessed s.witness.now in
    let df : 32 + 8 * s.query.now.shape.l ≤ length (replicate {A = ℕ} 544 0) = omega (arith, dn, (lent_facts (sizes_in s.query.now.shape) lent c.requires.lent).sizes.ℓ-high) in
    search_done s.query.now.bytes.now (sizes_in s.query.now.shape) s.query.now.m s.query.now.kappa lent s.table.now s.tree.now s.proof.now c.requires s.limit findCounter'.result
    (findCounter'.ensures.value ∙ ap (λ (x : List ℕ). least s.limit (tried s.query.now.kappa x))
    (string_taken s.query.now.bytes.now (sizes_in s.query.now.shape) s.query.now.m s.query.now.kappa lent s.table.now s.tree.now s.proof.now c.requires putString'.result putString'.new.string (replicate {A = ℕ} 15472 0)
    putString'.ensures.value putString'.ensures.string_after)) c.if-counter-limit.false
    (take (32 + 8 * s.query.now.shape.l) (findCounter'.new.out ++ drop (32 + 8 * s.query.now.shape.l) (replicate {A = ℕ} 544 0)))
    (take (putString'.result - (length s.query.now.bytes.now + 1)) (drop (length s.query.now.bytes.now + 1) putString'.new.string)) putDrawn'.result putDrawn'.new.proof
    (lent_front (32 + 8 * s.query.now.shape.l) findCounter'.new.out (replicate {A = ℕ} 544 0) df findCounter'.auto.out ∙ findCounter'.ensures.out_after ∙ ap₂
    (λ (x : List ℕ) (k : ℕ). draw (x ++ counter_bytes findCounter'.result) k)
    (string_taken s.query.now.bytes.now (sizes_in s.query.now.shape) s.query.now.m s.query.now.kappa lent s.table.now s.tree.now s.proof.now c.requires putString'.result putString'.new.string (replicate {A = ℕ} 15472 0)
    putString'.ensures.value putString'.ensures.string_after) (length-take-le (32 + 8 * s.query.now.shape.l) (replicate {A = ℕ} 544 0) df) ∙ drawn_is s.query.now.bytes.now (sizes_in s.query.now.shape) s.query.now.m s.query.now.kappa lent s.table.now s.tree.now
    s.proof.now c.requires findCounter'.result (32 + 8 * s.query.now.shape.l) refl)
    (answers_taken s.query.now.bytes.now (sizes_in s.query.now.shape) s.query.now.m s.query.now.kappa lent s.table.now s.tree.now s.proof.now c.requires putString'.result putString'.new.string (replicate {A = ℕ} 15472 0)
    putString'.ensures.value putString'.ensures.string_after (length s.query.now.bytes.now + 1) refl) putDrawn'.ensures.value putDrawn'.ensures.proof_after

-- `commitment::nodes_at` meets its contract.
use mathlib.Core.Path.{sym, ap₂, subst}
use Prim.Native.Nat.{ℕ, ◌+◌, ◌*◌, ◌≤◌}
use Rattle.commitment.specs.Shape.{sizes_in}
use Rattle.commitment.proofs.Places.{all_records_high, records_high}
use borrow.Author.Rules.{rules}
use Rattle.commitment.proofs.nodes_at.Goals as goal

pub overflow_mul-records : goal.overflow_mul-records
overflow_mul-records c =
    let s = c.args.s in
    let h : c.record_length.result * s.l ≤ 19456 = subst (λ (k : ℕ). k * s.l ≤ 19456) (sym c.record_length.ensures) (all_records_high (sizes_in s) c.requires.0) in
    search rules

pub overflow_add-result : goal.overflow_add-result
overflow_add-result c =
    let s = c.args.s in
    let h : c.record_length.result * s.l ≤ 19456 = subst (λ (k : ℕ). k * s.l ≤ 19456) (sym c.record_length.ensures) (all_records_high (sizes_in s) c.requires.0) in
    let i : c.records_at.result ≤ 15360 = subst (λ (k : ℕ). k ≤ 15360) (sym c.records_at.ensures)
    (records_high (sizes_in s) c.requires.0 c.args.m c.requires.1) in
    search rules

pub returns : goal.returns
returns c = ap₂ (λ (i k : ℕ). i + k * c.args.s.l) c.records_at.ensures c.record_length.ensures

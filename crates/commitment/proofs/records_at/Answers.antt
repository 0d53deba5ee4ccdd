-- `commitment::records_at` meets its contract.
use mathlib.Core.Path.{sym, ap₂, subst}
use Prim.Native.Nat.{ℕ, ◌+◌, ◌*◌, ◌≤◌}
use Rattle.commitment.specs.Shape.{sizes_in}
use Rattle.commitment.proofs.Places.{answers_high, answer_bytes}
use borrow.Author.Rules.{rules}
use Rattle.commitment.proofs.records_at.Goals as goal

pub overflow_mul-result-2 : goal.overflow_mul-result-2
overflow_mul-result-2 c =
    let s = c.args.s in
    let m : ℕ = c.args.m in
    let h : 4 * c.row_width.result * m ≤ 10240 = subst (λ (k : ℕ). 4 * k * m ≤ 10240) (sym c.row_width.ensures) (answer_bytes (sizes_in s) c.requires.0 m c.requires.1) in
    search rules

pub overflow_add-result : goal.overflow_add-result
overflow_add-result c =
    let s = c.args.s in
    let m : ℕ = c.args.m in
    let h : 4 * c.row_width.result * m ≤ 10240 = subst (λ (k : ℕ). 4 * k * m ≤ 10240) (sym c.row_width.ensures) (answer_bytes (sizes_in s) c.requires.0 m c.requires.1) in
    let i : c.answers_at.result ≤ 5120 = subst (λ (k : ℕ). k ≤ 5120) (sym c.answers_at.ensures) (answers_high (sizes_in s) c.requires.0) in
    search rules

pub returns : goal.returns
returns c = ap₂ (λ (i k : ℕ). i + 4 * k * c.args.m) c.answers_at.ensures c.row_width.ensures

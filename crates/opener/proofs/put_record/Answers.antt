-- `opener::put_record` meets its contract: the values, and the nonce after them.
use mathlib.Core.Path.{sym, subst}
use Prim.Native.Nat.{ℕ, ◌+◌, ◌*◌, ◌≤◌}
use lib.ListN.{length}
use Rattle.lists.specs.Parts.{span_length}
use Rattle.commitment.specs.Shape.{sizes_in}
use Rattle.commitment.proofs.Places.{values_high}
use Rattle.opener.proofs.Records.{put_record}
use borrow.Author.Rules.{rules}
use native.Mathlib.Omega.{arith}
use Rattle.opener.proofs.put_record.Goals as goal

pub record_values-n-requires : goal.record_values-n-requires
record_values-n-requires c = c.requires.0.sizes

pub overflow_mul-from : goal.overflow_mul-from
overflow_mul-from c =
    let v : c.record_values-n.result * c.args.leaf.0 + c.record_values-n.result ≤ length c.args.table.now = subst
    (λ (n : ℕ). n * c.args.leaf.0 + n ≤ length c.args.table.now) (sym c.record_values-n.ensures)
    c.requires.0.values in
    let h : c.record_values-n.result ≤ 68 = subst (λ (n : ℕ). n ≤ 68) (sym c.record_values-n.ensures)
    (values_high (sizes_in c.args.s) c.requires.0.sizes) in
    let i = c.requires.0.index in
    let o = c.requires.0.nonce in
    search rules

pub overflow_add-to : goal.overflow_add-to
overflow_add-to c =
    let v : c.record_values-n.result * c.args.leaf.0 + c.record_values-n.result ≤ length c.args.table.now = subst
    (λ (n : ℕ). n * c.args.leaf.0 + n ≤ length c.args.table.now) (sym c.record_values-n.ensures)
    c.requires.0.values in
    let h : c.record_values-n.result ≤ 68 = subst (λ (n : ℕ). n ≤ 68) (sym c.record_values-n.ensures)
    (values_high (sizes_in c.args.s) c.requires.0.sizes) in
    let i = c.requires.0.index in
    let o = c.requires.0.nonce in
    search rules

pub offset_bounds-table-from : goal.offset_bounds-table-from
offset_bounds-table-from c =
    let v : c.record_values-n.result * c.args.leaf.0 + c.record_values-n.result ≤ length c.args.table.now =
    subst (λ (n : ℕ). n * c.args.leaf.0 + n ≤ length c.args.table.now) (sym c.record_values-n.ensures)
    c.requires.0.values in
    let h : c.record_values-n.result ≤ 68 = subst (λ (n : ℕ). n ≤ 68) (sym c.record_values-n.ensures)
    (values_high (sizes_in c.args.s) c.requires.0.sizes) in
    let i = c.requires.0.index in
    let o = c.requires.0.nonce in
    search rules

pub slice_bounds-put_words-start : goal.slice_bounds-put_words-start
slice_bounds-put_words-start c =
    let v : c.record_values-n.result * c.args.leaf.0 + c.record_values-n.result ≤ length c.args.table.now =
    subst (λ (n : ℕ). n * c.args.leaf.0 + n ≤ length c.args.table.now) (sym c.record_values-n.ensures)
    c.requires.0.values in
    let h : c.record_values-n.result ≤ 68 = subst (λ (n : ℕ). n ≤ 68) (sym c.record_values-n.ensures)
    (values_high (sizes_in c.args.s) c.requires.0.sizes) in
    let i = c.requires.0.index in
    let o = c.requires.0.nonce in
    search rules

pub slice_bounds-put_words-end : goal.slice_bounds-put_words-end
slice_bounds-put_words-end c =
    let v : c.record_values-n.result * c.args.leaf.0 + c.record_values-n.result ≤ length c.args.table.now =
    subst (λ (n : ℕ). n * c.args.leaf.0 + n ≤ length c.args.table.now) (sym c.record_values-n.ensures)
    c.requires.0.values in
    let h : c.record_values-n.result ≤ 68 = subst (λ (n : ℕ). n ≤ 68) (sym c.record_values-n.ensures)
    (values_high (sizes_in c.args.s) c.requires.0.sizes) in
    let i = c.requires.0.index in
    let o = c.requires.0.nonce in
    search rules

pub put_words-requires : goal.put_words-requires
put_words-requires c =
    let v : c.record_values-n.result * c.args.leaf.0 + c.record_values-n.result ≤ length
    c.args.table.now = subst
    (λ (n : ℕ). n * c.args.leaf.0 + n ≤ length c.args.table.now)
    (sym c.record_values-n.ensures) c.requires.0.values in
    let h : c.record_values-n.result ≤ 68 = subst (λ (n : ℕ). n ≤ 68) (sym c.record_values-n.ensures)
    (values_high (sizes_in c.args.s) c.requires.0.sizes) in
    let i = c.requires.0.index in
    let o = c.requires.0.nonce in
    omega (
      arith,
      span_length (c.record_values-n.result * c.args.leaf.0) c.record_values-n.result
          c.args.table.now v,
      c.record_values-n.ensures,
      c.requires.1,
    )

pub overflow_mul-nonce : goal.overflow_mul-nonce
overflow_mul-nonce c =
    let v : c.record_values-n.result * c.args.leaf.0 +
    c.record_values-n.result ≤ length c.args.table.now = subst
    (λ (n : ℕ). n * c.args.leaf.0 + n ≤ length
    c.args.table.now) (sym c.record_values-n.ensures)
    c.requires.0.values in
    let h : c.record_values-n.result ≤ 68 = subst (λ (n : ℕ). n ≤ 68) (sym c.record_values-n.ensures)
    (values_high (sizes_in c.args.s) c.requires.0.sizes) in
    let i = c.requires.0.index in
    let o = c.requires.0.nonce in
    search rules

pub overflow_add-end : goal.overflow_add-end
overflow_add-end c =
    let v : c.record_values-n.result * c.args.leaf.0 +
    c.record_values-n.result ≤ length c.args.table.now = subst
    (λ (n : ℕ). n * c.args.leaf.0 + n ≤ length
    c.args.table.now) (sym c.record_values-n.ensures)
    c.requires.0.values in
    let h : c.record_values-n.result ≤ 68 = subst (λ (n : ℕ). n ≤ 68) (sym c.record_values-n.ensures)
    (values_high (sizes_in c.args.s) c.requires.0.sizes) in
    let i = c.requires.0.index in
    let o = c.requires.0.nonce in
    search rules

pub overflow_mul-after : goal.overflow_mul-after
overflow_mul-after c =
    let v : c.record_values-n.result * c.args.leaf.0 +
    c.record_values-n.result ≤ length c.args.table.now = subst
    (λ (n : ℕ). n * c.args.leaf.0 + n ≤ length
    c.args.table.now) (sym c.record_values-n.ensures)
    c.requires.0.values in
    let h : c.record_values-n.result ≤ 68 = subst (λ (n : ℕ). n ≤ 68) (sym c.record_values-n.ensures)
    (values_high (sizes_in c.args.s) c.requires.0.sizes) in
    let i = c.requires.0.index in
    let o = c.requires.0.nonce in
    search rules

pub overflow_add-after : goal.overflow_add-after
overflow_add-after c =
    let v : c.record_values-n.result * c.args.leaf.0 +
    c.record_values-n.result ≤ length c.args.table.now = subst
    (λ (n : ℕ). n * c.args.leaf.0 + n ≤ length
    c.args.table.now) (sym c.record_values-n.ensures)
    c.requires.0.values in
    let h : c.record_values-n.result ≤ 68 = subst (λ (n : ℕ). n ≤ 68) (sym c.record_values-n.ensures)
    (values_high (sizes_in c.args.s) c.requires.0.sizes) in
    let i = c.requires.0.index in
    let o = c.requires.0.nonce in
    search rules

pub slice_bounds-put_bytes-start : goal.slice_bounds-put_bytes-start
slice_bounds-put_bytes-start c =
    let v : c.record_values-n.result * c.args.leaf.0 +
    c.record_values-n.result ≤ length c.args.table.now = subst
    (λ (n : ℕ). n * c.args.leaf.0 + n ≤ length
    c.args.table.now) (sym c.record_values-n.ensures)
    c.requires.0.values in
    let h : c.record_values-n.result ≤ 68 = subst (λ (n : ℕ). n ≤ 68) (sym c.record_values-n.ensures)
    (values_high (sizes_in c.args.s) c.requires.0.sizes) in
    let i = c.requires.0.index in
    let o = c.requires.0.nonce in
    search rules

pub slice_bounds-put_bytes-end : goal.slice_bounds-put_bytes-end
slice_bounds-put_bytes-end c =
    let v : c.record_values-n.result * c.args.leaf.0 +
    c.record_values-n.result ≤ length c.args.table.now = subst
    (λ (n : ℕ). n * c.args.leaf.0 + n ≤ length
    c.args.table.now) (sym c.record_values-n.ensures)
    c.requires.0.values in
    let h : c.record_values-n.result ≤ 68 = subst (λ (n : ℕ). n ≤ 68) (sym c.record_values-n.ensures)
    (values_high (sizes_in c.args.s) c.requires.0.sizes) in
    let i = c.requires.0.index in
    let o = c.requires.0.nonce in
    search rules

pub put_bytes-requires : goal.put_bytes-requires
put_bytes-requires c =
    let v : c.record_values-n.result * c.args.leaf.0 +
    c.record_values-n.result ≤ length c.args.table.now = subst
    (λ (n : ℕ). n * c.args.leaf.0 + n ≤ length
    c.args.table.now) (sym c.record_values-n.ensures)
    c.requires.0.values in
    let h : c.record_values-n.result ≤ 68 = subst (λ (n : ℕ). n ≤ 68) (sym c.record_values-n.ensures)
    (values_high (sizes_in c.args.s)
    c.requires.0.sizes) in
    let i = c.requires.0.index in
    let o = c.requires.0.nonce in
    omega (
      arith,
      span_length (32 * c.args.leaf.0) 32
          c.args.nonces.now o,
      c.record_values-n.ensures,
      c.requires.1,
      c.put_words.auto.out,
    )

pub returns : goal.returns
returns c =
    let s = c.args in
    put_record (sizes_in s.s) s.table.now s.nonces.now s.out.now c.put_words.new.out c.put_bytes.new.out s.leaf.0 s.at
    c.record_values-n.result c.record_values-n.ensures
    c.requires.0
    c.requires.1 c.put_words.ensures
    c.put_bytes.ensures

use mathlib.Core.Path.{◌≡◌, refl, sym, ap₂, ◌∙◌, subst}
use Prim.Native.Nat.{ℕ, ◌+◌, ◌*◌, ◌≤◌}
use lib.ListN.{length, get_or}
use Rattle.scheme.specs.Sizes.{Sizes}
use Rattle.scheme.specs.Reply.{record_length}
use Rattle.scheme.specs.Commit.{leaf_record}
use Rattle.commitment.specs.Shape.{sizes_in}
use Rattle.opener.specs.Parts.{CanCopy}
use Rattle.opener.proofs.Records.{indices_small, leaf_fits, record_sized}
use Rattle.lists.specs.Spliced.{up_to_none, up_to_all, up_to_room, up_to_turn, spliced}
use borrow.Author.Rules.{rules}
use native.Mathlib.Omega.{arith}
use Rattle.opener.proofs.put_records.Goals as goal

pub record_length-size-requires : goal.record_length-size-requires
record_length-size-requires c = c.requires.0.sizes

pub loop-a-init : goal.loop-a-init
loop-a-init c =
    let s = c.args in
    (refl, omega arith, up_to_none (leaf_record (sizes_in s.s) s.table.now s.nonces.now) s.indices.now (record_length (sizes_in s.s)) s.at s.out.now, refl)

pub opened_index-leaf-requires : goal.opened_index-leaf-requires
opened_index-leaf-requires c =
    let s = c.args in
    (omega arith, indices_small (sizes_in s.s) s.table.now s.nonces.now s.indices.now c.requires.0)

pub overflow_mul-size : goal.overflow_mul-size
overflow_mul-size c =
    let s = c.args in
    let t : Sizes = sizes_in s.s in
    let k : ℕ = c.loop-a.a in
    let size : ℕ = c.record_length-size.result in
    let e : size ≡ record_length t = c.record_length-size.ensures in
    let h : s.at + size * k + size ≤ length s.out.now =
    subst (λ (n : ℕ). s.at + n * k + n ≤ length s.out.now) (sym e) (up_to_room (leaf_record t s.table.now s.nonces.now) s.indices.now (record_length t) s.at s.out.now
    (record_sized t s.table.now s.nonces.now s.indices.now c.requires.0)
    c.requires.1 k (omega arith)) in
    search rules

pub overflow_add-at : goal.overflow_add-at
overflow_add-at c =
    let s = c.args in
    let t : Sizes = sizes_in s.s in
    let k : ℕ = c.loop-a.a in
    let size : ℕ = c.record_length-size.result in
    let e : size ≡ record_length t = c.record_length-size.ensures in
    let h : s.at + size * k + size ≤ length s.out.now =
    subst (λ (n : ℕ). s.at + n * k + n ≤ length s.out.now) (sym e) (up_to_room (leaf_record t s.table.now s.nonces.now) s.indices.now (record_length t) s.at s.out.now
    (record_sized t s.table.now s.nonces.now s.indices.now c.requires.0)
    c.requires.1 k (omega arith)) in
    search rules

pub put_record-requires : goal.put_record-requires
put_record-requires c =
    let s = c.args in
    let t : Sizes = sizes_in s.s in
    let k : ℕ = c.loop-a.a in
    let size : ℕ = c.record_length-size.result in
    let e : size ≡ record_length t = c.record_length-size.ensures in
    let h : s.at + size * k + size ≤ length s.out.now =
    subst (λ (n : ℕ). s.at + n * k + n ≤ length s.out.now) (sym e) (up_to_room (leaf_record t s.table.now s.nonces.now) s.indices.now (record_length t) s.at s.out.now
    (record_sized t s.table.now s.nonces.now s.indices.now c.requires.0)
    c.requires.1 k (omega arith)) in (
      subst (CanCopy t s.table.now s.nonces.now) (sym c.opened_index-leaf.ensures)
          (leaf_fits t s.table.now s.nonces.now s.indices.now c.requires.0 k (omega arith)),
      omega (arith, h, e, c.loop-a.invariant.3),
    )

pub loop-a-preserved : goal.loop-a-preserved
loop-a-preserved c =
    let s = c.args in
    let t : Sizes = sizes_in s.s in
    let k : ℕ = c.loop-a.a in
    let f : c.put_record.new.out ≡ spliced (s.at + record_length t * k) (record_length t) (leaf_record t s.table.now s.nonces.now (get_or s.indices.now k 0))
    c.loop-a.out =
    c.put_record.ensures ∙ ap₂ (λ (n i : ℕ). spliced (s.at + n * k) (record_length t) (leaf_record t s.table.now s.nonces.now i) c.loop-a.out)
    c.record_length-size.ensures c.opened_index-leaf.ensures in
    let r = up_to_turn (leaf_record t s.table.now s.nonces.now) s.indices.now (record_length t) s.at s.out.now
    (record_sized t s.table.now s.nonces.now s.indices.now c.requires.0)
    c.requires.1
    k c.loop-a.out c.put_record.new.out (omega arith) c.loop-a.invariant.2 f in
    (refl, omega arith, r.0, r.1)

pub returns : goal.returns
returns c =
    let s = c.args in
    let l = c.loop-a in
    l.invariant.2 ∙ up_to_all (leaf_record (sizes_in s.s) s.table.now s.nonces.now) s.indices.now (record_length (sizes_in s.s)) s.at s.out.now l.a (omega arith)

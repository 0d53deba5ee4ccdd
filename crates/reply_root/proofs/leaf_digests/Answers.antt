use mathlib.Core.Path.{◌≡◌, ap, ◌∙◌, sym}
use mathlib.Core.List.{List}
use Prim.Native.Nat.{ℕ, ◌+◌, ◌*◌}
use native.Mathlib.Nat.{zero-mul}
use lib.ListN.{length, drop, length-drop}
use lib.Seq.{length-take-le}
use Rattle.lists.specs.Rows.{rows_start, row_turn}
use Rattle.lists.specs.Parts.{row_fits}
use Rattle.tree.specs.Leaf.{record_start}
use Rattle.tree.specs.Work.{permutations_for}
use Rattle.reply_root.specs.Root.{leaf_digest_at}
use Rattle.reply_root.proofs.Roots.{length-leaf_digest_at, digest-row, leaf_more}
use native.Mathlib.Omega.{arith}
use Rattle.reply_root.proofs.leaf_digests.Goals as goal

pub loop-a-init : goal.loop-a-init
loop-a-init c =
    let s = c.args in
    let o = s.records.now in
    (rows_start 32 (leaf_digest_at s.salt.now o.at o.size s.indices.now o.reply.now) s.out.now, sym (zero-mul (permutations_for (record_start + o.size))))

pub loop-a-preserved : goal.loop-a-preserved
loop-a-preserved c =
    let s = c.args in
    let o = s.records.now in
    let a : ℕ = c.loop-a.a in
    let t : List ℕ = c.loop-a.out in
    let r : List ℕ = c.leaf_digest-ran.new.out in
    let h = row_fits o.size a (length s.indices.now) c.loop-a-test.true in
    let e : length c.record-record.result.now ≡ o.size = ap length c.record-record.ensures ∙ length-take-le o.size (drop (o.at + o.size * a) o.reply.now) (omega (arith, length-drop (o.at + o.size * a) o.reply.now)) in (
      row_turn 32 (leaf_digest_at s.salt.now o.at o.size s.indices.now o.reply.now) (length-leaf_digest_at s.salt.now o.at o.size s.indices.now o.reply.now) s.out.now t r a
          c.loop-a.invariant.0
          (digest-row s.salt.now o.at o.size s.indices.now o.reply.now a c.opened_index-index.result.0 c.record-record.result.now r c.opened_index-index.ensures c.record-record.ensures c.leaf_digest-ran.ensures.out_after),
      leaf_more o.size a c.loop-a.ran c.leaf_digest-ran.result c.loop-a.invariant.1 (c.leaf_digest-ran.ensures.value ∙ ap (λ (k : ℕ). permutations_for (record_start + k)) e),
    )

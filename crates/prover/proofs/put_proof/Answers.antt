-- `prover::put_proof` meets its contract: counter and answers, and what the leaves open after them.
use mathlib.Core.Path.{ap, refl}
use lib.ListN.{drop, length, length-drop, take}
use Rattle.prover.proofs.Parts.{answers_room, leaves_ask, proof_put, room}
use Rattle.commitment.specs.Shape.{sizes_in}
use Prim.Native.Nat.{◌+◌, ◌-◌, ◌≤◌, ℕ}
use borrow.Author.Rules.{rules}
use native.Mathlib.Omega.{arith}
use Rattle.prover.proofs.put_proof.Goals as goal

pub put_word-requires : goal.put_word-requires
put_word-requires c =
    let s = c.args in
    omega (arith, answers_room (sizes_in s.s) s.m s.answers.now s.indices.now s.table.now s.nonces.now s.tree.now s.proof.now c.requires)

pub put_bytes-requires : goal.put_bytes-requires
put_bytes-requires c =
    let s = c.args in
    omega (arith, answers_room (sizes_in s.s) s.m s.answers.now s.indices.now s.table.now s.nonces.now s.tree.now s.proof.now c.requires, c.put_word.auto.out)

pub slice_bounds-put_leaves-count : goal.slice_bounds-put_leaves-count
slice_bounds-put_leaves-count c =
    let s = c.args in
    omega (
      arith,
      answers_room (sizes_in s.s) s.m s.answers.now s.indices.now s.table.now s.nonces.now s.tree.now s.proof.now c.requires,
      c.put_word.auto.out,
      c.put_bytes.auto.out,
    )

pub slice_bounds-put_leaves-start : goal.slice_bounds-put_leaves-start
slice_bounds-put_leaves-start c =
    let putBytes' = c.put_bytes in
    let s = c.args in
    let fit : 4 ≤ length putBytes'.new.out = omega (
      arith,
      answers_room (sizes_in s.s) s.m s.answers.now s.indices.now s.table.now s.nonces.now s.tree.now s.proof.now c.requires,
      c.put_word.auto.out,
      putBytes'.auto.out,
    ) in
    search rules

pub put_leaves-reply-requires : goal.put_leaves-reply-requires
put_leaves-reply-requires c =
    let putBytes' = c.put_bytes in
    let putWord' = c.put_word in
    let s = c.args in
    leaves_ask (sizes_in s.s) s.m s.answers.now s.indices.now s.table.now s.nonces.now s.tree.now s.proof.now c.requires s.counter putWord'.new.out putBytes'.new.out putWord'.ensures
    putBytes'.ensures
    (take (length putBytes'.new.out - 4) (drop 4 putBytes'.new.out)) refl

pub overflow_add-result : goal.overflow_add-result
overflow_add-result c =
    let s = c.args in
    omega (
      arith,
      c.put_leaves-reply.ensures.value,
      room (sizes_in s.s) s.m s.answers.now s.indices.now s.table.now s.nonces.now s.tree.now s.proof.now c.requires,
      c.requires.listed.small,
      length-drop 4 s.proof.now,
    )

pub returns : goal.returns
returns c =
    let putBytes' = c.put_bytes in
    let putLeaves' = c.put_leaves-reply in
    let putWord' = c.put_word in
    let s = c.args in record {
      value = ap (λ (k : ℕ). 4 + k) putLeaves'.ensures.value;
      proof_after = proof_put (sizes_in s.s) s.m s.answers.now s.indices.now s.table.now s.nonces.now s.tree.now s.proof.now c.requires s.counter putWord'.new.out putBytes'.new.out putWord'.ensures
          putBytes'.ensures
          putLeaves'.result (take (length putBytes'.new.out - 4) (drop 4 putBytes'.new.out)) putLeaves'.new.reply refl putLeaves'.ensures.value putLeaves'.ensures.reply_after;
    }

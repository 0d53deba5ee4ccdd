-- `sponge::hash` meets its contract.
use mathlib.Core.Path.{◌≡◌, sym, ap, ◌∙◌}
use mathlib.Core.List.{List}
use Prim.Native.Nat.{ℕ, ◌/◌}
use native.Mathlib.Omega.{arith}
use lib.ListN.{length, take}
use Rattle.keccak.specs.Strings.{bytes}
use Rattle.sponge.specs.Shake.{padded, absorbed, shake256, squeezed}
use Rattle.sponge.specs.Digest.{digest_is}
use Rattle.sponge.proofs.Padding.{length-padded}
use Rattle.sponge.proofs.hash.Goals as goal

pub returns : goal.returns
unfolding shake256 squeezed
returns c =
    let s = c.args.s.now in
    let t = c.absorb-t in
    let blocks : t.result.permutations ≡ length (padded s) / 136 = omega (arith, t.ensures.permutations_value, length-padded s) in record {
      digest_value = c.squeeze-digest.ensures
          ∙ ap (λ (a : List ℕ). take 32 (bytes a)) (t.ensures.state_value ∙ ap (absorbed (padded s)) blocks)
          ∙ sym (digest_is s);
      permutations_value = t.ensures.permutations_value;
    }

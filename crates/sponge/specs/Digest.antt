-- The digest of a byte string: SHAKE256 cut to 32 bytes. This is all that crates above this one cite of the sponge; to them `digest` has no
-- definition, and they know that it gives 32 bytes.
use Rattle.std.specs.Prelude.{◌≡◌, refl, List, ℕ, length}
use Rattle.sponge.specs.Shake.{shake256, squeezed}

pub digest : List ℕ → List ℕ
digest m = shake256 m 32

-- for the proof of this crate's function `hash` alone
pub digest_is : (m : List ℕ) → digest m ≡ shake256 m 32
unfolding digest
digest_is m = refl

pub digest-length : (m : List ℕ) → length (digest m) ≡ 32
unfolding digest shake256 squeezed
digest-length m = refl

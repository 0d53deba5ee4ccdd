-- A well-formed question of a proof, whatever bits are asked, by the sizes and the number of points that the code holds.
use Rattle.std.specs.Prelude.{◌≡◌, ℕ}
use Rattle.lists.specs.Bytes.{Bytes}
use Rattle.scheme.specs.Sizes.{Sizes}
use Rattle.scheme.specs.Question.{header_sizes, header_points}
use Rattle.fiat_shamir.specs.Offline.{offline_verdict}

pub record Offline (b : Bytes) (s : Sizes) (m : ℕ) : Type 0 where
  pub well_formed : offline_verdict b 0 ≡ 0
  pub sizes : header_sizes b ≡ s
  pub points : header_points b ≡ m

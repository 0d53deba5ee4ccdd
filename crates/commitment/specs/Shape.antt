-- The sizes that the code holds are those of the scheme.
use Rattle.scheme.specs.Sizes.{Sizes, sizes_of}
use Rattle.commitment.specs.declared.Shape.{Shape}

abbrev pub sizes_in : Shape → Sizes
sizes_in s = sizes_of s.h s.mu s.nu s.w s.l s.eta s.beta

abbrev pub shape_of : Sizes → Shape
shape_of s = record { h = s.h; mu = s.μ; nu = s.ν; w = s.w; l = s.ℓ; eta = s.η; beta = s.β }

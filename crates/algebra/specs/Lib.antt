-- Algebra for the commitment: the field, polynomials, interpolation, and what programs compute on numbers below q.

-- the field
pub mod Prime
pub mod Field
-- polynomials over it, and interpolation
pub mod Poly
pub mod Interp
pub mod Lagrange
pub mod Rows
-- the same on lists of numbers, which contracts cite
pub mod Numbers
pub mod Inverse
pub mod Inverses
pub mod Columns
pub mod Batch
pub mod Cases
-- consecutive points, by the table of inverse factorials
pub mod Table
pub mod Basis
pub mod Places
pub mod Barycentric
pub mod BarycentricTurns
-- interpolation in place: Newton's form, its coefficients and its expansion
pub mod Divided
pub mod Fold
pub mod Rests
pub mod Differences
pub mod Forward
pub mod Pairs
pub mod Quartic
-- sums of products, reduced once
pub mod Dot
pub mod Wrapped
pub mod Spans
pub mod Sums
-- values of several polynomials, polynomials through rows, polynomials stacked
pub mod Values
pub mod Stacked
-- lists lowered by others, and a sum in which that cancels
pub mod Lowered
pub mod Telescope

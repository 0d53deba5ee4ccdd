-- Theorems about definitions of specs/ that edits in must-fail/ change: here, so that a refused one is no unread text of specs/.

-- the table of inverse factorials keeps their rule
pub mod Table
-- interpolation over consecutive points
pub mod Basis
pub mod Barycentric
pub mod Forward

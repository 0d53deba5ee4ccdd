-- Walks along tables of differences.

-- the values of a walk, as they are written
pub mod Putting
-- two walks: from values to differences, and from these to values
pub mod Walks

-- What a turn of each loop does, in the order of the code.

-- counting
pub mod Counting
-- listing
pub mod Listing
pub mod ListedLevels
-- from a set of leaf indices to what the inner functions ask for
pub mod Indices

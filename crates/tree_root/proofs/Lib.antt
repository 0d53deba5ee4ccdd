-- What a turn of each loop does, in the order of the code.
pub mod Gathering
pub mod ParentDigests
pub mod Roots
-- from a set of leaf indices to what the inner functions ask for
pub mod Indices

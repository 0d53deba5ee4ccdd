-- What a walk along a table writes, and what two walks leave.
pub mod Written
pub mod Extrapolated

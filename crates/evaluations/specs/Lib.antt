pub mod Values
pub mod Clauses

-- What the code reads of an opened leaf.

pub mod Records
pub mod Powers

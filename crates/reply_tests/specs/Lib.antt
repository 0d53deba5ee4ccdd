-- The tests of a reply over what the code holds.

pub mod Words
pub mod Posed
pub mod Asked

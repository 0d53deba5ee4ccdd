-- What the functions write, on lists.
pub mod Copies
pub mod Leaves

-- The definitions: strings, sets of nodes, the tree, work; then what contracts of functions cite.
pub mod Leaf
pub mod Sets
pub mod Ancestors
pub mod Tree
pub mod Work
pub mod Walk
pub mod Clauses

-- What a function asks of a set of nodes.
pub mod Clauses

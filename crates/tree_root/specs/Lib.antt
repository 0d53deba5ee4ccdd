-- What the functions ask for, and what those that are not public give.
pub mod Clauses

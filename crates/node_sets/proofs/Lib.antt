-- What a turn of each loop does, and which sets are sets of nodes.

-- laws of sets
pub mod Turns
pub mod Sets
-- the functions, in the order of the code
pub mod Parents

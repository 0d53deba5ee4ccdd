-- What is read of an opened leaf.

-- its record in the reply
pub mod Records
-- powers of points
pub mod Powers

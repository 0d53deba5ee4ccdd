-- What committer and opener are lent.

-- its tests
pub mod Measures
-- where the elements of a row stand in it
pub mod Strides
pub mod Rows
-- a reply without the salt
pub mod Unsalted

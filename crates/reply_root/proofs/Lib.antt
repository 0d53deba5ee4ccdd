-- The root that the code makes.

-- from what the code hands on
pub mod Roots
-- it is the root of the definition
pub mod Defined

-- Committing.

-- the tests in their order, and what is returned
pub mod Verdicts
-- the leaves' records and digests
pub mod Digests
-- the table and the tree are those of the definitions
pub mod Filled

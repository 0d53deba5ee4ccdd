-- What the answer to a proof's question says of its bytes.

-- the tests in the order in which the code makes them
pub mod Order
-- from an answer to facts
pub mod Answer

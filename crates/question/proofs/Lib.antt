-- What the answer to a question says of its bytes.

-- from an answer to facts: a header or a question that is taken, or refused
pub mod Answer
-- the tests in the order in which the code makes them
pub mod Order

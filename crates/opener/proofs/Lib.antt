-- Opening.

-- the question and the tests
pub mod Given
pub mod Order
-- the parts of a reply: answers, records, missing nodes
pub mod Sums
pub mod Records
pub mod Leaves
-- the whole reply, and what opening does
pub mod Replying
pub mod Outcome

-- The tests and the parts of a proof as the code makes them.

-- 2, 3, 8 in their order
pub mod Order
-- the answers to the question so drawn, and the string of its draw
pub mod Answers
-- the proof's parts in the buffer
pub mod Parts
-- what the search and the whole leave
pub mod Outcome
-- that the salt matters to no proof
pub mod Unsalted

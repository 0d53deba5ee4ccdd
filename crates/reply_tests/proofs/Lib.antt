-- The tests of a reply.

-- on words they are those of the definitions
pub mod ReplyTests
-- what the code's steps ask, and the order of the verdicts
pub mod Verdicts

-- Laws behind absorbing a string and behind its output.

-- words of a string, and of one that another follows
pub mod Appended
-- the padding in bytes
pub mod Padding
-- to absorb by the step of a word is to absorb as FIPS 202 does
pub mod Step
-- a block by steps, a word each
pub mod Steps
-- full blocks, and the last one
pub mod Blocks
pub mod LastBlock
-- output, a block at a time
pub mod Squeezed
-- strings absorbed in two parts, and the laws for callers
pub mod Resumed

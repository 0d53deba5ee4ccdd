-- The check of a proof by its parts.

-- the string that is drawn from, and what is drawn
pub mod Draws
-- the question so drawn
pub mod Asked
-- 3 over the reply
pub mod Elements
-- the verdicts in order
pub mod Verdicts
-- from the draw to the conversation's check
pub mod Checked

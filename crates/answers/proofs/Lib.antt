-- Answers from the rows.

-- combinations of rows, and the rows as what is lent gives them
pub mod Combining
pub mod Rows
-- answers written as bytes, one and all
pub mod Answers

-- The text that the checking program prints.

-- bytes and digits written one after the other
pub mod Writing
pub mod Decimal
-- a line, all lines, the verdict before them
pub mod Line
pub mod Lines
pub mod Text
-- how the input splits
pub mod Split

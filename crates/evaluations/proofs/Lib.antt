-- The table of leaf values.

-- rows and masks gathered as lanes
pub mod Gathering
pub mod Entries
pub mod Masks
-- the columns that extrapolating leaves
pub mod Columns

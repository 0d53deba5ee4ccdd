-- Bounds of sizes and places, by which the code's sums and products fit.

-- products of sizes before they are tested
pub mod Sizes
-- places and lengths of sizes that are in order
pub mod Places

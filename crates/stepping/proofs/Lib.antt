-- Steps of a table of differences.

-- five entries of a lane
pub mod Kernel
-- five lines, and a whole table
pub mod Stepping

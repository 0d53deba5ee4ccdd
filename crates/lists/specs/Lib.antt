-- Plain lists, numbers and bytes: definitions that the crates above share, and their laws.

-- truth values, tests, the first test that holds, and the least number of which one holds
pub mod Choice
pub mod Tests
pub mod Differ
pub mod Scan
pub mod Least
-- what holds of all elements; rising lists, lists put in order; ranges; sums
pub mod All
pub mod Rising
pub mod Sorted
pub mod Range
pub mod Maps
pub mod Total
-- lists cut into pieces, and parts of a list
pub mod Pieces
pub mod Parts
pub mod Rows
pub mod Drops
-- lists made or written place by place
pub mod Snoc
pub mod Spliced
pub mod Tabulate
pub mod Fill
pub mod Copies
-- numbers and bytes
pub mod Number
pub mod Bytes
pub mod Numbers

-- The theorems about the tree, and the laws behind them and behind the functions.

-- theorems
pub mod Complete
pub mod Binding
pub mod Counts
pub mod Missing
pub mod Above
pub mod Rows
-- laws of the definitions
pub mod Members
pub mod Found
pub mod Digests
pub mod OpenedDigests
pub mod Walk
pub mod Strings
pub mod Turns
pub mod Children
pub mod Ancestors

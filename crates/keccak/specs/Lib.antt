-- FIPS 202's permutation, and how the code holds a state.

-- the standard's definitions
pub mod Lane
pub mod Keccak
pub mod Strings
-- what the code holds for a state array
pub mod Held
pub mod Parities
-- laws
pub mod State
pub mod Xor

-- a shift by whole bytes as a power of 256
pub mod Shift

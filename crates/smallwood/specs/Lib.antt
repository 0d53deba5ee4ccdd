pub mod InBytes
pub mod Told

-- A counter tried.
pub mod Tried

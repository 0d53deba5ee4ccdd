-- Tables of differences and their steps.
pub mod Lanes

-- What a turn of each loop does.
pub mod Filling

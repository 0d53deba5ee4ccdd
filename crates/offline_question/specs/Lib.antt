pub mod Asked
pub mod Offline

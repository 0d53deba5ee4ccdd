-- the library's number of eight bytes
pub mod Eight

-- The library's bytes of a number, in the words of this repository.
pub mod Library

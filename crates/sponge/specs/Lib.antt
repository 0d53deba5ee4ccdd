-- SHAKE256 of FIPS 202, the step by which strings go in, and what all crates above cite: the digest, and output of any length.
pub mod Shake
pub mod Step
pub mod Digest
pub mod Resume
pub mod Draw

-- The entries for C, and what is claimed of all entries over their own contracts.

-- values as words and as bytes; a length, or a planner's number, written or left
pub mod Values
pub mod ProofValues
pub mod Sized
pub mod Length
pub mod ProofLength
-- the theorems: one length, work, completeness, completeness of proofs, collected replies, interpolation
pub mod OneLength
pub mod Worked
pub mod Completed
pub mod CompletedProofs
pub mod Collected
pub mod Interpolated

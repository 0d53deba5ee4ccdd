-- Proofs without a conversation: the question, what is drawn, proving, checking; and what is claimed of them.
pub mod Offline
pub mod Draw
pub mod Ranks
pub mod Prove
pub mod CheckProof
pub mod Accepted
pub mod HonestProofs
pub mod CollectProofs
pub mod Salts

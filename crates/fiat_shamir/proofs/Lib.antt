-- The theorems about proofs without a conversation, and the laws behind them.

-- what is drawn: the leaf draw and its counters; the question so drawn is well formed
pub mod Counter
pub mod Drawn
-- an accepted proof is an accepted call of the conversation's check
pub mod Accepted
-- proving test by test; what is proved is accepted with the true values
pub mod Proving
pub mod Proved
-- proofs among collected replies; honest ones
pub mod Joined
pub mod Mixed
-- no string is hashed under two salts
pub mod Salted
-- for the code: the drawn leaves one after the other
pub mod Ranks
-- reading aids
pub mod Reading

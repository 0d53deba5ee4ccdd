-- Laws behind a round and the permutation.

-- lists of lanes, one by one
pub mod Literal
-- rotations by two shifts
pub mod Rotation
-- complements, and ⊕ with a mask
pub mod Complement
-- θ, ρ and π are linear
pub mod Linear
-- χ with few complements, and a round on what the code holds
pub mod Chi
-- parities carried from round to round
pub mod Carried
-- a round lane by lane
pub mod ByLanes

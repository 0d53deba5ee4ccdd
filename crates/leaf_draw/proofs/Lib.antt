-- The walk over the used leaves.

-- the place of a rank, and what stands there once it is inserted
pub mod Place
-- an insertion, element by element
pub mod Moved
-- one word more
pub mod Walk

-- The signs of values, and the turns of the loops that load them.
pub mod Signs

-- The values of lanes with changing signs.
pub mod Signs

-- The laws of the crate.
pub mod Fronts
pub mod Parts

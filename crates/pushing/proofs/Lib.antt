-- The laws of pushing.
pub mod Laws

-- The laws that the proofs of this crate share, and those that a caller gives its premises by.
pub mod Steps
pub mod Rows
pub mod Walk
pub mod Along
pub mod Premises
pub mod Parts

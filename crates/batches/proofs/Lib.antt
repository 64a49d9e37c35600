-- The laws that the proofs of this crate share.
pub mod Parts
pub mod Lists

-- The laws that the proofs of this crate share.

pub mod Arrangement
pub mod Chains
pub mod Draws
pub mod Mixing
pub mod Answers

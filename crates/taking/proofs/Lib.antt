-- The law that the proofs of this crate share.
pub mod Listed
